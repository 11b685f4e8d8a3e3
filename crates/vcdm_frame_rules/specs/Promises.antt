-- What is promised of the four-cassette unit's frames: the statements, proved in proofs/Trips.antt and proofs/Exact.antt.
use Rattle.std.specs.Prelude.{ℕ, ◌+◌, ◌≤◌, ◌≡◌, true, false, List, [], ◌∷◌, map, ◌↔◌, length, take}
use Rattle.refusals.specs.Rules.{Exactly, numbered}
use Rattle.refusals.specs.Numbers.{refusal_number}
use Rattle.refusals.specs.Put.{written, refused, laid}
use Rattle.refusals.specs.Put.{Bytes}
use Rattle.xor_frame.specs.Frame.{fault_number, code_of}
use Rattle.vcdm_frame_rules.specs.Table.{table, command_length, answer_length}
use Rattle.vcdm_frame_rules.specs.Command.{counts, askable, sendable, command_frame, command_refusals, write_command, command_in, command_faults, read_command}
use Rattle.vcdm_frame_rules.specs.Answer.{answer_frame, answer_refusals, write_answer, answer_in, answer_faults, read_answer}
use Rattle.vcdm_frame_rules.specs.declared.command.Counts.{Counts}
use Rattle.vcdm_frame_rules.specs.CommandRead.{Read, Refused}
use Rattle.vcdm_frame_rules.specs.declared.answer.Answer.{Answer}
use Rattle.vcdm_frame_rules.specs.AnswerRead.{Read as Found, Refused as NotRead}

-- "each reading undoing the writing and the reverse" (the customer's second demand), for commands. Whatever the writer put reads as what
-- it was given; whatever reads well is written again as the same bytes, in any room that holds them
pub record CommandTrips : Type 0 where
  pub back : (code : ℕ) (c : Counts) (serial n : ℕ) (room after : List ℕ) → write_command code c serial room ≡ written (Bytes n) after
      → read_command (take n after) ≡ Read code c serial
  pub again : (s room : List ℕ) (code : ℕ) (c : Counts) (serial : ℕ) → read_command s ≡ Read code c serial → length s ≤ length room
      → write_command code c serial room ≡ laid s room

-- the same for answers, every reserved and error byte kept
pub record AnswerTrips : Type 0 where
  pub back : (a : Answer) (n : ℕ) (room after : List ℕ) → write_answer a room ≡ written (Bytes n) after → read_answer (take n after) ≡ Found a
  pub again : (s room : List ℕ) (a : Answer) → read_answer s ≡ Found a → length s ≤ length room → write_answer a room ≡ laid s room

-- "Given exactly when": each number exactly when its condition is the first that holds, in 01's order, and done exactly when none does
pub record ExactlyWhen : Type 0 where
  pub write-command : (code : ℕ) (c : Counts) (serial : ℕ) (room : List ℕ)
      → Exactly (command_refusals code c serial room) (λ why. refused why room) (laid (command_frame code c serial) room) (write_command code c serial room)
  pub read-command : (s : List ℕ) → Exactly (command_faults s) Refused (command_in (code_of s) s) (read_command s)
  pub write-answer : (a : Answer) (room : List ℕ)
      → Exactly (answer_refusals a room) (λ why. refused why room) (laid (answer_frame a) room) (write_answer a room)
  pub read_answer : (s : List ℕ) → Exactly (answer_faults s) NotRead (Found (answer_in s)) (read_answer s)

-- 01's numbers in its order: of a reader "under 6 bytes, 11; opening, 12; code, 13; length for that code, 11; 14; 15; 16", of a command's fields and then of
-- their sum; of a command's writer 2, 1, 2 and of an answer's 1, 2
pub record InOrder : Type 0 where
  pub read-command : (s : List ℕ) → numbered fault_number (command_faults s) ≡ 11 ∷ 12 ∷ 13 ∷ 11 ∷ 14 ∷ 15 ∷ 16 ∷ 16 ∷ []
  pub read_answer : (s : List ℕ) → numbered fault_number (answer_faults s) ≡ 11 ∷ 12 ∷ 13 ∷ 11 ∷ 14 ∷ 15 ∷ 16 ∷ []
  pub write-command : (code : ℕ) (c : Counts) (serial : ℕ) (room : List ℕ) → numbered refusal_number (command_refusals code c serial room) ≡ 2 ∷ 1 ∷ 2 ∷ []
  pub write-answer : (a : Answer) (room : List ℕ) → numbered refusal_number (answer_refusals a room) ≡ 1 ∷ 2 ∷ []

-- a command can be sent exactly where the writer, lent a room that holds it, writes its frame
abbrev pub SentAsWritten : Type 0
SentAsWritten = (code : ℕ) (c : Counts) (serial : ℕ) (room : List ℕ) → command_length code ≤ length room
    → (sendable code c serial).holds ↔ (write_command code c serial room ≡ laid (command_frame code c serial) room)

-- the bytes of a command and of its answer, by code
pub record Lengths : Type 0 where
  pub code : ℕ
  pub command : ℕ
  pub answer : ℕ

abbrev pub bytes : ℕ → ℕ → ℕ → Lengths
bytes code command answer = record { code = code; command = command; answer = answer }

abbrev pub Columns : Type 0
Columns =
    map (λ r. bytes r.code (command_length r.code) (answer_length r.code)) table
    ≡ bytes 0x44 6 7 ∷ bytes 0x50 6 25 ∷ bytes 0x51 6 29 ∷ bytes 0x52 13 29 ∷ bytes 0x55 6 30 ∷ []

-- "each cassette 0 to 20 and 1 to 20 notes over all four": what a dispense can ask, and what the other codes can
pub record Taken : Type 0 where
  pub dispense : (c : Counts) → (askable 0x52 c).holds
      ↔ ((c.top + c.second + c.third + c.bottom ≤ 20) × (1 ≤ c.top + c.second + c.third + c.bottom))
  pub others : (code : ℕ) (c : Counts) → (code ≡ 0x52 → ⊥) → (askable code c).holds → c ≡ counts 0 0 0 0
  -- the sheet's lines: 0,0,0,0 refused, 0,0,0,1 and 20,0,0,0 taken, 21,0,0,0 and 20,1,0,0 refused
  pub sheet : ((askable 0x52 (counts 0 0 0 0)).test ≡ false)
      × (((askable 0x52 (counts 0 0 0 1)).test ≡ true)
      × (((askable 0x52 (counts 20 0 0 0)).test ≡ true)
      × (((askable 0x52 (counts 21 0 0 0)).test ≡ false) × ((askable 0x52 (counts 20 1 0 0)).test ≡ false))))
