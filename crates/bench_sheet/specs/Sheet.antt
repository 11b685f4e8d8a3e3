-- The starred lines of the bench sheet (01, "Bench sheet": "* = to be proved as one group"), as facts of the definitions that the contracts
-- cite. Proved in proofs/Starred.antt.
use Rattle.std.specs.Prelude.{◌≡◌, [], ◌∷◌}
use Rattle.ccnet_frame.specs.Frame.{frame}
use Rattle.dispenser_frame_rules.specs.Command.{command_frame}
use Rattle.numbers.specs.Seven.{groups}

-- each starred line
pub record Starred : Type 0 where
  -- "10 upper: 04 50 02 45 31 30 03, check 11h."
  pub ten_upper : command_frame 0x45 10 0 ≡ 0x04 ∷ 0x50 ∷ 0x02 ∷ 0x45 ∷ 0x31 ∷ 0x30 ∷ 0x03 ∷ 0x11 ∷ []
  -- "15 lower: check 04h."
  pub fifteen_lower : command_frame 0x55 0 15 ≡ 0x04 ∷ 0x50 ∷ 0x02 ∷ 0x55 ∷ 0x31 ∷ 0x35 ∷ 0x03 ∷ 0x04 ∷ []
  -- "15 and 15: check 03h."
  pub fifteen_and_fifteen :
      command_frame 0x56 15 15 ≡ 0x04 ∷ 0x50 ∷ 0x02 ∷ 0x56 ∷ 0x31 ∷ 0x35 ∷ 0x31 ∷ 0x35 ∷ 0x03 ∷ 0x03 ∷ []
  -- "Purge: 11h."
  pub purge : command_frame 0x44 0 0 ≡ 0x04 ∷ 0x50 ∷ 0x02 ∷ 0x44 ∷ 0x03 ∷ 0x11 ∷ []
  -- "Status: 13h."
  pub status : command_frame 0x46 0 0 ≡ 0x04 ∷ 0x50 ∷ 0x02 ∷ 0x46 ∷ 0x03 ∷ 0x13 ∷ []
  -- "Poll 02 03 06 33 DA 81."
  pub poll : frame 0x03 (0x33 ∷ []) ≡ 0x02 ∷ 0x03 ∷ 0x06 ∷ 0x33 ∷ 0xDA ∷ 0x81 ∷ []
  -- "ACK 02 03 06 00 C2 82."
  pub ack : frame 0x03 (0x00 ∷ []) ≡ 0x02 ∷ 0x03 ∷ 0x06 ∷ 0x00 ∷ 0xC2 ∷ 0x82 ∷ []
  -- "Reset 02 03 06 30 41 B3."
  pub reset : frame 0x03 (0x30 ∷ []) ≡ 0x02 ∷ 0x03 ∷ 0x06 ∷ 0x30 ∷ 0x41 ∷ 0xB3 ∷ []
  -- "NAK 02 03 06 FF BA 8D."
  pub nak : frame 0x03 (0xFF ∷ []) ≡ 0x02 ∷ 0x03 ∷ 0x06 ∷ 0xFF ∷ 0xBA ∷ 0x8D ∷ []
  -- "1,000 is E8 07."
  pub one_thousand : groups 1_000 ≡ 0xE8 ∷ 0x07 ∷ []
