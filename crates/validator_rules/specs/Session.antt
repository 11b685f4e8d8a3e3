-- The validator session, call by call (01, "The validator session" and "Numbers a call can answer").
use Rattle.std.specs.Prelude.{ℕ, ◌+◌, ◌-◌, Bool, true, false, cond, List, [], ◌∷◌, eqb, length, take, drop, set, replicate}
use Rattle.refusals.specs.Rules.{Condition, Rule, says, under, at_most, within, same, either, both, isnt, judged, ◌gives◌}
use Rattle.refusals.specs.Put.{over}
use Rattle.ccnet_frame.specs.Frame.{frame, judge_frame, body_of}
use Rattle.ccnet_class.specs.Class.{class_of}
use Rattle.bill_table.specs.Table.{table_size, is_table, read_table}
use Rattle.ledger.specs.Calls.{After as AfterCall}
use Rattle.ccnet_frame.specs.Judged.{Judged}
use Rattle.ccnet_frame.specs.Judged.{Good as Passed, Refused as Failed}
use Rattle.ccnet_class.specs.declared.Class.{Class}
use Rattle.ccnet_class.specs.declared.Class.TheVariants.{Ack, Nak, Illegal, State, Busy, Rejecting, Failing, Escrow, Stacked, Returned, Unknown, Table}
use Rattle.validator_rules.specs.Limits.{least_room, command_limit, store_size, longest_tick}
use Rattle.validator_rules.specs.Line.{fresh_line, opened, remembers, is_open, heard, passed}
use Rattle.validator_rules.specs.Bills.{poll, no_bill, no_bills, booked_by, credited, remembered}
use Rattle.validator_rules.specs.declared.line.Line.{Line}
use Rattle.validator_rules.specs.declared.line.Todo.{Todo}
use Rattle.validator_rules.specs.declared.line.Todo.TheVariants.{Nothing as Rest, CloseDamaged, CloseSilent}
use Rattle.validator_rules.specs.declared.line.Heard.{Heard}
use Rattle.validator_rules.specs.declared.line.Heard.TheVariants.{Skip, Keep, Judge, Wrong}
use Rattle.refusals.specs.declared.Declined.{Declined}
use Rattle.refusals.specs.declared.Declined.TheVariants.{Room, Range, Open, Unquiet, Spent, Tick}
use Rattle.validator_rules.specs.declared.session.Closing.{Closing}
use Rattle.validator_rules.specs.declared.session.Closing.TheVariants.{Nothing, Acknowledged, NotAcknowledged, IllegalCommand, Answered, Damaged, Silent}
use Rattle.validator_rules.specs.Reply.{Reply}
use Rattle.validator_rules.specs.Reply.{NotDone, Done}
use Rattle.validator_rules.specs.Found.{Found}
use Rattle.validator_rules.specs.Found.{Bad, Good}
use Rattle.validator_rules.specs.declared.session.Step.{Step}
use Rattle.validator_rules.specs.declared.session.Session.{Session}
use Rattle.validator_rules.specs.Outcome.{Outcome}

-- "the GET BILL TABLE command (41h)" (02, Q-1)
abbrev pub get_table : ℕ
get_table = 0x41

-- "Commands (003): RESET 30h, POLL 33h, ENABLE BILL TYPES 34h with 6 data bytes, STACK 35h, RETURN 36h, HOLD 38h", and GET BILL TABLE; no data where none belongs
unfoldable pub is_command : ℕ → ℕ → Condition
is_command code size =
    either (both (same code 0x34) (same size 6))
    (both
    (either (same code 0x30)
    (either (same code poll) (either (same code 0x35) (either (same code 0x36) (either (same code 0x38) (same code get_table))))))
    (same size 0))

-- ---- what a call leaves

-- done, with nothing credited
abbrev pub stepped : Line → ℕ → Closing → Step
stepped l n c = record { line = l; bill = no_bill; reply = Done n c }

abbrev pub refused_step : Line → Declined → Step
refused_step l why = record { line = l; bill = no_bill; reply = NotDone why }

-- a step, with every byte of the room afterwards
pub record StepAfter : Type 0 where
  pub step : Step
  pub room : List ℕ

abbrev pub step_after : Step → List ℕ → StepAfter
step_after s r = record { step = s; room = r }

-- and every byte of the gathering store
pub record LentAfter : Type 0 where
  pub step : Step
  pub store : List ℕ
  pub room : List ℕ

abbrev pub lent_after : Step → List ℕ → List ℕ → LentAfter
lent_after s store r = record { step = s; store = store; room = r }

-- and every byte of the bill table: a byte may bring one
pub record HeardAfter : Type 0 where
  pub lent : LentAfter
  pub table : List ℕ

abbrev pub heard_after : LentAfter → List ℕ → HeardAfter
heard_after w table = record { lent = w; table = table }

-- the session, what the call answers, and every byte of the room
abbrev pub After : Type 0
After = AfterCall Session Reply

abbrev pub after : Outcome → List ℕ → After
after o r = record { session = o.session; reply = o.reply; room = r }

-- ---- what is sent

-- bytes put at the room's start, with the room as it is left
pub record Sent : Type 0 where
  pub put : ℕ
  pub room : List ℕ

abbrev pub sent : ℕ → List ℕ → Sent
sent n r = record { put = n; room = r }

abbrev pub sending : List ℕ → List ℕ → Sent
sending bytes r = sent (length bytes) (over bytes r)

-- "a NAK frame", "an ACK frame"
abbrev pub ack : List ℕ
ack = frame 0x03 (0x00 ∷ [])

abbrev pub nak : List ℕ
nak = frame 0x03 (0xFF ∷ [])

-- ---- a frame that is judged

-- a body that is not ACK, NAK or "illegal", in answer to GET BILL TABLE: "A body over 120 bytes is unknown", and any other is the table, whatever it could mean to a POLL
abbrev pub table_or : List ℕ → Class
table_or body = cond (is_table body).test Table Unknown

abbrev pub table_class : Class → List ℕ → Class
table_class Ack body = Ack
table_class Nak body = Nak
table_class Illegal body = Illegal
table_class (State b) body = table_or body
table_class (Busy b) body = table_or body
table_class (Rejecting b) body = table_or body
table_class (Failing b) body = table_or body
table_class (Escrow y) body = table_or body
table_class (Stacked y) body = table_or body
table_class (Returned y) body = table_or body
table_class Unknown body = table_or body
table_class Table body = table_or body

-- what a body says in answer to a command with that code
unfoldable pub class_to : ℕ → List ℕ → Class
class_to code body = cond (eqb code get_table) (table_class (class_of body) body) (class_of body)

-- a good frame says what its body says in answer to the command; any other is bad
abbrev pub found_in : Judged → ℕ → List ℕ → Found
found_in (Passed address) code s = Good (class_to code (body_of s))
found_in (Failed fault) code s = Bad

unfoldable pub found : ℕ → List ℕ → Found
found code s = found_in (judge_frame s) code s

-- before the first table has been read there is no bill of any type
abbrev pub no_table : List ℕ
no_table = replicate table_size 0

-- "The gathering store is 255 bytes, all zero when fresh and again after each closing."
abbrev pub zeros : List ℕ
zeros = replicate store_size 0

-- "a wrong check or a late frame sends a NAK frame and closes as damaged"
unfoldable pub damaged_step : Line → List ℕ → LentAfter
damaged_step l r = lent_after (stepped l (length nak) Damaged) zeros (over nak r)

-- "close without a reply"
abbrev pub closed_step : Line → Closing → List ℕ → LentAfter
closed_step l c r = lent_after (stepped l 0 c) zeros r

-- "any other body gets an ACK frame"
unfoldable pub answered_step : Line → Class → List ℕ → LentAfter
answered_step l c r =
    lent_after
    (record { line = remembers l (remembered l.code l.last c); bill = credited l.code l.last c; reply = Done (length ack) (Answered c) })
    zeros (over ack r)

-- "ACK, NAK and 'illegal' close without a reply; any other body gets an ACK frame."
abbrev pub class_step : Class → Line → List ℕ → LentAfter
class_step Ack l r = closed_step l Acknowledged r
class_step Nak l r = closed_step l NotAcknowledged r
class_step Illegal l r = closed_step l IllegalCommand r
class_step (State b) l r = answered_step l (State b) r
class_step (Busy b) l r = answered_step l (Busy b) r
class_step (Rejecting b) l r = answered_step l (Rejecting b) r
class_step (Failing b) l r = answered_step l (Failing b) r
class_step (Escrow y) l r = answered_step l (Escrow y) r
class_step (Stacked y) l r = answered_step l (Stacked y) r
class_step (Returned y) l r = answered_step l (Returned y) r
class_step Unknown l r = answered_step l Unknown r
class_step Table l r = answered_step l Table r

abbrev pub judged_step : Found → Line → List ℕ → LentAfter
judged_step Bad l r = damaged_step l r
judged_step (Good c) l r = class_step c l r

-- ---- the bill table

-- is it one?
abbrev pub says_table : Class → Bool
says_table Ack = false
says_table Nak = false
says_table Illegal = false
says_table (State b) = false
says_table (Busy b) = false
says_table (Rejecting b) = false
says_table (Failing b) = false
says_table (Escrow y) = false
says_table (Stacked y) = false
says_table (Returned y) = false
says_table Unknown = false
says_table Table = true

-- a frame's bytes without its first three and its check
abbrev pub inner : List ℕ → List ℕ
inner f = take (length f - 5) (drop 3 f)

-- "the last table read holds, its words' bytes kept": the table after a frame of that class
unfoldable pub table_said : Class → List ℕ → List ℕ → List ℕ
table_said c f table = cond (says_table c) (read_table (inner f) table).table table

abbrev pub table_found : Found → List ℕ → List ℕ → List ℕ
table_found Bad f table = table
table_found (Good c) f table = table_said c f table

-- the frame is the first so many bytes of the store
unfoldable pub judge_step : Line → ℕ → List ℕ → List ℕ → List ℕ → HeardAfter
judge_step l n store table r =
    heard_after (judged_step (found l.code (take n store)) l r) (table_found (found l.code (take n store)) (take n store) table)

-- ---- bytes and ticks

-- what is to be done when time has passed
abbrev pub acted : Todo → Line → List ℕ → List ℕ → LentAfter
acted Rest l store r = lent_after (stepped l 0 Nothing) store r
acted CloseDamaged l store r = damaged_step l r
acted CloseSilent l store r = closed_step l Silent r

-- what a byte b leads to whose place in the store is at, inside an answer of n bytes
abbrev pub byte_acted : Heard → Line → ℕ → List ℕ → List ℕ → ℕ → ℕ → List ℕ → HeardAfter
byte_acted Skip l n store table at b r = heard_after (lent_after (stepped l 0 Nothing) store r) table
byte_acted Keep l n store table at b r = heard_after (lent_after (stepped l 0 Nothing) (set store at b) r) table
byte_acted Judge l n store table at b r = judge_step l n (set store at b) table r
byte_acted Wrong l n store table at b r = heard_after (damaged_step l r) table

-- "received bytes 1"
unfoldable pub byte_refusals : List ℕ → List (Rule Declined)
byte_refusals r = under (length r) least_room gives Room ∷ []

unfoldable pub byte_step : Line → List ℕ → List ℕ → ℕ → List ℕ → HeardAfter
byte_step l store table b r =
    judged (byte_refusals r) (λ why. heard_after (lent_after (refused_step l why) store r) table)
    (byte_acted (heard l b).heard (heard l b).line l.length store table l.gathered b r)

-- "ticks 1 and 6"
unfoldable pub tick_refusals : ℕ → List ℕ → List (Rule Declined)
tick_refusals ms r = under (length r) least_room gives Room ∷ isnt (within 1 longest_tick ms) gives Tick ∷ []

unfoldable pub tick_step : Line → List ℕ → ℕ → List ℕ → LentAfter
tick_step l store ms r =
    judged (tick_refusals ms r) (λ why. lent_after (refused_step l why) store r) (acted (passed l ms).todo (passed l ms).line store r)

-- ---- requests

-- "Requests can meet 1 to 5": "the lowest that applies is given"
unfoldable pub request_refusals : Line → ℕ → List ℕ → List ℕ → List (Rule Declined)
request_refusals l code given r =
    under (length r) least_room gives Room
    ∷ isnt (is_command code (length given)) gives Range
    ∷ says (is_open l.phase) gives Open
    ∷ under 0 l.left gives Unquiet
    ∷ at_most command_limit l.accepted gives Spent
    ∷ []

-- a request accepted: its frame is sent
unfoldable pub request_step : Line → ℕ → List ℕ → List ℕ → StepAfter
request_step l code given r =
    let w = sending (frame 0x03 (code ∷ given)) r in
    judged (request_refusals l code given r) (λ why. step_after (refused_step l why) r)
    (step_after (stepped (opened l code (l.accepted + 1)) w.put Nothing) w.room)

-- ---- the session by value

-- no bills, nothing open, no quiet yet, nothing remembered, no bill table; "The gathering store is .. all zero when fresh"
unfoldable pub fresh_session : Session
fresh_session = record { line = fresh_line; bills = no_bills; store = zeros; table = no_table }

-- the session after a step, with the bill that it credits, and with that bill table
abbrev pub after_step : Session → LentAfter → List ℕ → After
after_step s w table =
    record {
      session = record { line = w.step.line; bills = booked_by s.bills w.step.bill; store = w.store; table = table };
      reply = w.step.reply;
      room = w.room;
    }

unfoldable pub session_request : Session → ℕ → List ℕ → List ℕ → After
session_request s code given r =
    let w = request_step s.line code given r in
    record { session = record { line = w.step.line; bills = s.bills; store = s.store; table = s.table }; reply = w.step.reply; room = w.room }

abbrev pub after_byte : Session → HeardAfter → After
after_byte s w = after_step s w.lent w.table

unfoldable pub session_byte : Session → ℕ → List ℕ → After
session_byte s b r = after_byte s (byte_step s.line s.store s.table b r)

unfoldable pub session_tick : Session → ℕ → List ℕ → After
session_tick s ms r = after_step s (tick_step s.line s.store ms r) s.table
