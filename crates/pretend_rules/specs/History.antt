-- What is promised of the device after any calls at all from a fresh one, told from their history: its own account, what every accepted call puts and what came of
-- it, and the numbers 1, 2, 6 and 9. What a history gives is read off the calls, what they returned and the bytes accepted. Nothing of that names a stand, a store or an
-- account. Proved in proofs/Account.antt and proofs/Told.antt.
use Rattle.std.specs.Prelude.{ℕ, ◌+◌, ◌≡◌, Bool, true, false, cond, not, ◌&&◌, ◌||◌, List, [], ◌∷◌, ◌++◌, ltb, eqb, length, get_or, Ok}
use Rattle.refusals.specs.Rules.{Condition, Rule, never, says, under, within, isnt, ◌gives◌}
use Rattle.refusals.specs.Put.{over}
use Rattle.refusals.specs.declared.Declined.{Declined}
use Rattle.refusals.specs.declared.Declined.TheVariants.{Room, Range, Tick, Unawaited}
use Rattle.dispenser_frame_rules.specs.Table.{known, command_length}
use Rattle.dispenser_frame_rules.specs.Command.{read_command}
use Rattle.dispenser_frame_rules.specs.Answer.{answer_frame}
use Rattle.dispenser_frame_rules.specs.declared.answer.Cassette.{Cassette}
use Rattle.dispenser_frame_rules.specs.declared.answer.Cassette.TheVariants.{Upper, Lower}
use Rattle.dispenser_frame_rules.specs.declared.answer.Answer.{Answer}
use Rattle.dispenser_frame_rules.specs.declared.answer.Answer.TheVariants.{Purged, PaidOne, PaidBoth, Tested, Status}
use Rattle.dispenser_frame_rules.specs.CommandRead.{CommandRead}
use Rattle.dispenser_frame_rules.specs.CommandRead.{Read, Refused}
use Rattle.ledger.specs.Events.{Deed, asks, hears, waits, own, Left, goes_on, closes, declined, done, taken}
use Rattle.ledger.specs.Account.{counted}
use Rattle.ledger.specs.Waiting.{some, from, waited}
use Rattle.ledger.specs.Calls.{Returned, gave, did, run, Declines}
use Rattle.pretend_rules.specs.Limits.{command_wait, silence, sending_limit, answer_limit, least_room, longest_tick, code_place}
use Rattle.pretend_rules.specs.Device.{suits, fresh_device}
use Rattle.pretend_rules.specs.Calls.{Call, byte, tick, tell, called, lent, deed, returned, Close, took, ended, host, History, history}
use Rattle.pretend_rules.specs.declared.tally.Tally.{Tally}
use Rattle.pretend_rules.specs.declared.tally.Tallies.{Tallies}
use Rattle.pretend_rules.specs.declared.device.Happening.{Happening}
use Rattle.pretend_rules.specs.declared.device.Happening.TheVariants.{Nothing, Taken, Ended}

-- ---- its own account

-- the answers told, the newest first: a telling that was declined told nothing
unfoldable pub tellings : History → List Answer
tellings [] = []
tellings (declined ∷ h) = tellings h
tellings (done (asks r) put left ∷ h) = tellings h
tellings (done (hears b) put left ∷ h) = tellings h
tellings (done (waits ms) put left ∷ h) = tellings h
tellings (done (own a) put left ∷ h) = a ∷ tellings h

-- n, of the cassette k alone
abbrev pub of : Cassette → Cassette → ℕ → ℕ
of Upper Upper n = n
of Upper Lower n = 0
of Lower Upper n = 0
of Lower Lower n = n

abbrev pub each : Cassette → ℕ → ℕ → ℕ
each Upper u l = u
each Lower u l = l

-- what an answer's fields say was paid from a cassette, and rejected
abbrev pub paid_by : Answer → Cassette → ℕ
paid_by (Purged e) c = 0
paid_by (PaidOne k chk exit e s r) c = of k c exit
paid_by (PaidBoth uc ux lc lx e us ls ur lr) c = each c ux lx
paid_by (Tested k chk e s r) c = 0
paid_by (Status e s0 s1) c = 0

abbrev pub rejected_by : Answer → Cassette → ℕ
rejected_by (Purged e) c = 0
rejected_by (PaidOne k chk exit e s r) c = of k c r
rejected_by (PaidBoth uc ux lc lx e us ls ur lr) c = each c ur lr
rejected_by (Tested k chk e s r) c = of k c r
rejected_by (Status e s0 s1) c = 0

unfoldable pub total : (Answer → Cassette → ℕ) → List Answer → Cassette → ℕ
total f [] c = 0
total f (a ∷ l) c = total f l c + f a c

abbrev pub cassette : Tallies → Cassette → Tally
cassette t Upper = t.upper
cassette t Lower = t.lower

-- "Its own account is of notes the caller said were paid or rejected, for each cassette": after any calls at all, the sums over the tellings that were accepted; so none
-- is ever cut
pub record OwnAccount : Type 0 where
  pub paid : (cs : List Call) (c : Cassette) → (cassette (run host fresh_device cs).tallies c).paid.0 ≡ total paid_by (tellings (history cs)) c
  pub rejected : (cs : List Call) (c : Cassette) → (cassette (run host fresh_device cs).tallies c).rejected.0 ≡ total rejected_by (tellings (history cs)) c

-- ---- what has come

-- where the exchange is: no command is in hand; one with this code was taken, and its fields are awaited; these fields were told, and the answer is not at its end
pub data Place : Type 0 where
  free : Place
  awaits : ℕ → Place
  sends : Answer → Place

abbrev pub place_by : Left Close → Place → Place
place_by goes_on p = p
place_by (closes (took code)) p = awaits code
place_by (closes ended) p = free

-- told by the newest call that took a command, told its fields or ended it
unfoldable pub place : History → Place
place [] = free
place (declined ∷ h) = place h
place (done (asks r) put left ∷ h) = place h
place (done (hears b) put left ∷ h) = place_by left (place h)
place (done (waits ms) put left ∷ h) = place_by left (place h)
place (done (own a) put left ∷ h) = sends a

abbrev pub shuts : {K : Type 0} → Left K → Bool
shuts goes_on = false
shuts (closes k) = true

-- the bytes accepted since anything was put, or an exchange ended: "All other bytes from its 06h to that end are ignored"
unfoldable pub come : History → List ℕ
come [] = []
come (declined ∷ h) = come h
come (done d put left ∷ h) = cond (some put || shuts left) [] (come h ++ taken d)

-- what has come of a command: "Bytes before 04h are skipped"
unfoldable pub begun : History → List ℕ
begun h = from 0x04 (come h)

-- how many commands were answered 06h
abbrev pub one_taken : Left Close → ℕ
one_taken goes_on = 0
one_taken (closes (took code)) = 1
one_taken (closes ended) = 0

unfoldable pub answered : History → ℕ
answered [] = 0
answered (declined ∷ h) = answered h
answered (done d put left ∷ h) = answered h + one_taken left

-- how often the answer was sent since it was told
unfoldable pub sendings : History → ℕ
sendings [] = 0
sendings (declined ∷ h) = sendings h
sendings (done (asks r) put left ∷ h) = sendings h
sendings (done (hears b) put left ∷ h) = counted put (sendings h)
sendings (done (waits ms) put left ∷ h) = counted put (sendings h)
sendings (done (own a) put left ∷ h) = counted put 0

-- a wait begins where something is put, and with the 04h of a command
abbrev pub is_free : Place → Bool
is_free free = true
is_free (awaits code) = false
is_free (sends a) = false

abbrev pub turns : History → Deed ⊥ Answer → Bool
turns h (asks r) = false
turns h (hears b) = is_free (place h) && (not (some (begun h)) && eqb b 0x04)
turns h (waits ms) = false
turns h (own a) = false

-- ---- what is due

-- the bytes to put, and what comes of the call
pub record Due : Type 0 where
  pub put : List ℕ
  pub what : Happening

abbrev pub due : List ℕ → Happening → Due
due put what = record { put = put; what = what }

abbrev pub nothing : Due
nothing = due [] Nothing

abbrev pub nak : Due
nak = due (0x15 ∷ []) Nothing

-- a full command, n having been answered 06h: "answers 06h or 15h"; "After 1,000,000 commands answered 06h, each further one gets 15h"
abbrev pub due_full : ℕ → CommandRead → Due
due_full n (Ok command) = cond (ltb n answer_limit) (due (0x06 ∷ []) (Taken command.code command.upper command.lower)) nak
due_full n (Refused fault) = nak

-- "reads command frames a byte at a time .. bad (an unknown code at once) gets 15h": f is what has come of one
abbrev pub due_command : ℕ → List ℕ → Due
due_command n f =
    cond (ltb (length f) (code_place + 1)) nothing
    (cond (known (get_or f code_place 0)).test (cond (ltb (length f) (command_length (get_or f code_place 0))) nothing (due_full n (read_command f))) nak)

-- "sends it again; 06h, or either of those after the third sending, ends it": n is how often it was sent
abbrev pub due_again : ℕ → Answer → Due
due_again n a = cond (ltb n sending_limit) (due (answer_frame a) Nothing) (due [] Ended)

abbrev pub due_byte : History → Place → ℕ → Due
due_byte h free b = due_command (answered h) (from 0x04 (come h ++ (b ∷ [])))
due_byte h (awaits code) b = nothing
due_byte h (sends a) b = cond (eqb b 0x06) (due [] Ended) (cond (eqb b 0x15) (due_again (sendings h) a) nothing)

-- "a command late by 200 ms .. gets 15h"; "on .. 5,050 ms of silence sends it again"; a tick that brings the sum to the limit or past it
abbrev pub due_tick : History → Place → ℕ → Due
due_tick h free ms = cond (some (begun h)) (cond (ltb (waited turns h + ms) command_wait) nothing nak) nothing
due_tick h (awaits code) ms = nothing
due_tick h (sends a) ms = cond (ltb (waited turns h + ms) silence) nothing (due_again (sendings h) a)

-- what is due at a call after a history; "is told by its caller the answer's fields .., sends the answer"
abbrev pub due_by : History → Deed ⊥ Answer → Due
due_by h (asks r) = nothing
due_by h (hears b) = due_byte h (place h) b
due_by h (waits ms) = due_tick h (place h) ms
due_by h (own a) = due (answer_frame a) Nothing

-- an accepted call puts what is due at the room's start, every other byte of the room as it was, and tells what is due; a declined one leaves the room
abbrev pub Answers : Due → List ℕ → Returned Happening → List ℕ → Type 0
Answers w before (gave why) room = room ≡ before
Answers w before (did n what) room = (n ≡ length w.put) × ((what ≡ w.what) × (room ≡ over w.put before))

-- after any calls at all
abbrev pub ToldByHistory : Type 0
ToldByHistory = (cs : List Call) (c : Call)
    → Answers (due_by (history cs) (deed c)) (lent c) (returned (called (run host fresh_device cs) c).reply) (called (run host fresh_device cs) c).room

-- ---- the numbers

-- the fields of an answer are awaited, to a command with that code
abbrev pub is_awaited : Place → Bool
is_awaited free = false
is_awaited (awaits code) = true
is_awaited (sends a) = false

-- the fields are not those that are awaited
abbrev pub misfits : Place → Answer → Condition
misfits free a = never
misfits (awaits code) a = isnt (suits a code)
misfits (sends a) b = never

-- "Its room is 21 bytes (number 1), its ticks meet 6"; "fields outside 01's for the code awaited are refused with 2, fields when none are awaited with the new number 9"
abbrev pub history_refusals : History → Call → List (Rule Declined)
history_refusals h (byte b r) = under (length r) least_room gives Room ∷ []
history_refusals h (tick ms r) = under (length r) least_room gives Room ∷ isnt (within 1 longest_tick ms) gives Tick ∷ []
history_refusals h (tell a r) =
    under (length r) least_room gives Room
    ∷ misfits (place h) a gives Range
    ∷ isnt (says (is_awaited (place h))) gives Unawaited
    ∷ []

-- a call is declined exactly as the history says
abbrev pub DeclinesByHistory : Type 0
DeclinesByHistory = (cs : List Call) (c : Call)
    → Declines host (history_refusals (history cs) c) (run host fresh_device cs) (lent c) (called (run host fresh_device cs) c)
