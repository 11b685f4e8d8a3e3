-- What is promised of a session of the four-cassette unit after any calls at all from a fresh one, told from their history: demand 3, what every call answers, the numbers
-- 1 to 6, and the serial in every frame. What a history gives is defined in the room `ledger`, and the serial in Calls.antt: nothing there names the session. Proved in
-- proofs/Demand3.antt and proofs/Serials.antt.
use Rattle.std.specs.Prelude.{ℕ, ◌≡◌, List, [], ◌∷◌, ◌⊎◌, length}
use Rattle.refusals.specs.Rules.{Rule, says, under, at_most, within, isnt, ◌gives◌}
use Rattle.refusals.specs.declared.Declined.{Declined}
use Rattle.refusals.specs.declared.Declined.TheVariants.{Room, Range, Open, Unquiet, Spent, Tick}
use Rattle.ledger.specs.Events.{asks, hears, waits, own, declined, done, History}
use Rattle.ledger.specs.Account.{Ending}
use Rattle.ledger.specs.Line.{is_open, quiet_time, quiet_needed, accepted}
use Rattle.ledger.specs.Calls.{run, Declines}
use Rattle.ledger.specs.Sent.{Demand3}
use Rattle.ledger.specs.Told.{Told, Carried}
use Rattle.exchange_rules.specs.Limits.{quiet, hand_overs, command_limit, least_room, longest_tick}
use Rattle.exchange_rules.specs.Machine.{discipline, plain, quiet_after}
use Rattle.exchange_rules.specs.Kept.{Within, Sound}
use Rattle.vcdm_frame_rules.specs.Command.{askable}
use Rattle.vcdm_rules.specs.Session.{serial_for}
use Rattle.vcdm_rules.specs.Calls.{Call, request, byte, tick, Request, Own, fresh_counted, called_counted, host, history, next_serial}
use Rattle.vcdm_rules.specs.Unit.{Cassette, vcdm, layout, cassette, unit, box, lent, plain_closing}

-- demand 3 (`ledger`), of the four cassettes
abbrev pub FourCassettes : Type 0
FourCassettes = Demand3 vcdm layout hand_overs (λ (cs : List Call) (c : Cassette). plain (cassette (run host fresh_counted cs).session.account c)) history

-- what every session keeps: an open command can be sent, was handed over at least once and no more often than the limit, and our 15h stayed below theirs; at most 1,000,000 commands
abbrev pub AlwaysSound : Type 0
AlwaysSound = (cs : List Call) → Sound unit (box (run host fresh_counted cs))

-- no sum is more than 223 for each of 1,000,000 commands: so none is ever cut, since each is far from the end of u32, with room for one more answer
abbrev pub NeverCut : Type 0
NeverCut = (cs : List Call) (c : Cassette) → Within 223 command_limit command_limit (cassette (run host fresh_counted cs).session.account c)

-- every accepted call puts the bytes and returns the closing that are due by the history (`ledger`), and leaves every other byte of the room as it was
abbrev pub ToldByHistory : Type 0
ToldByHistory = Told host plain_closing lent vcdm (discipline unit) fresh_counted

-- the fields that a closing by an answer carries are those of the last bytes accepted, from which the sums are read
abbrev pub CarriedByBytes : Type 0
CarriedByBytes = Carried host plain_closing vcdm (discipline unit) fresh_counted

-- "Requests can meet 1 to 5, received bytes 1, ticks 1 and 6", told from the history. "A count out of range keeps number 2, and a sum of 0 or over 20 joins it": of code and
-- counts alone
unfoldable pub history_refusals : History Request Own Ending → Call → List (Rule Declined)
history_refusals h (request code n r) =
    under (length r) least_room gives Room
    ∷ isnt (askable code n) gives Range
    ∷ says (is_open h) gives Open
    ∷ under (quiet_time h) (quiet_needed (quiet_after unit) quiet h) gives Unquiet
    ∷ at_most command_limit (accepted h) gives Spent
    ∷ []
history_refusals h (byte b r) = under (length r) least_room gives Room ∷ []
history_refusals h (tick ms r) = under (length r) least_room gives Room ∷ isnt (within 1 longest_tick ms) gives Tick ∷ []

-- a call is declined exactly as the history says
abbrev pub DeclinesByHistory : Type 0
DeclinesByHistory = (cs : List Call) (c : Call)
    → Declines host (history_refusals (history cs) c) (run host fresh_counted cs) (lent c) (called_counted (run host fresh_counted cs) c)

-- ---- the serial

-- every request of a history was asked with the serial that the history before it gives; 0 where it has none
abbrev pub Numbered : History Request Own Ending → Type 0
Numbered [] = Unit {0}
Numbered (declined ∷ h) = Numbered h
Numbered (done (asks q) put left ∷ h) = (q.serial ≡ serial_for q.code (next_serial h)) × Numbered h
Numbered (done (hears b) put left ∷ h) = Numbered h
Numbered (done (waits ms) put left ∷ h) = Numbered h
Numbered (done (own o) put left ∷ h) = Numbered h

-- what was put is nothing, one byte 06h or 15h, or the whole frame of a command, which 04h opens
abbrev pub Plainly : List ℕ → Type 0
Plainly put = (put ≡ []) ⊎ ((put ≡ 0x06 ∷ []) ⊎ ((put ≡ 0x15 ∷ []) ⊎ ((q : Request) × (put ≡ layout q))))

abbrev pub PutPlainly : History Request Own Ending → Type 0
PutPlainly [] = Unit {0}
PutPlainly (declined ∷ h) = PutPlainly h
PutPlainly (done d put left ∷ h) = Plainly put × PutPlainly h

pub record SerialsByHistory : Type 0 where
  -- the session's serial is the one that the history gives, whatever became of the commands: nothing gives one back
  pub stored : (cs : List Call) → (run host fresh_counted cs).session.serial ≡ next_serial (history cs)
  -- so each accepted dispense was asked with it; and by `ToldByHistory` that is the one in its frame, and in the frame that is handed over again
  pub numbered : (cs : List Call) → Numbered (history cs)

-- "the only 04h we send is the one that opens a command": no 04h is sent alone, to close or to cancel
abbrev pub OnlyOpening : Type 0
OnlyOpening = (cs : List Call) → PutPlainly (history cs)
