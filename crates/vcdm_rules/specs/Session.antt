-- The session of the four-cassette unit, call by call (02, Q-3; 01, "The dispenser session" and "Numbers a call can answer").
use Rattle.std.specs.Prelude.{ℕ, ◌+◌, Bool, cond, List, [], ◌∷◌, eqb, ltb, length, take, set, replicate, Ok}
use Rattle.refusals.specs.Rules.{Rule, says, under, at_most, within, isnt, judged, ◌gives◌}
use Rattle.refusals.specs.Put.{Put}
use Rattle.refusals.specs.Put.{Bytes, Refused as NotPut}
use Rattle.vcdm_frame_rules.specs.Table.{reset_code, dispense_code, answer_length}
use Rattle.vcdm_frame_rules.specs.Command.{no_counts, askable, write_command}
use Rattle.vcdm_frame_rules.specs.Answer.{answer_code, read_answer}
use Rattle.vcdm_frame_rules.specs.declared.command.Counts.{Counts}
use Rattle.vcdm_frame_rules.specs.declared.answer.Answer.{Answer}
use Rattle.vcdm_frame_rules.specs.declared.answer.Answer.TheVariants.{Reset, Status, Purged, Dispensed, Last}
use Rattle.vcdm_frame_rules.specs.AnswerRead.{AnswerRead}
use Rattle.vcdm_frame_rules.specs.AnswerRead.{Read, Refused as NotRead}
use Rattle.exchange_rules.specs.Limits.{quiet, long_quiet, least_room, command_limit, longest_tick}
use Rattle.exchange_rules.specs.Exchange.{fresh_line, opened, closed, is_open, heard, bad_frame, passed}
use Rattle.exchange_rules.specs.declared.line.Line.{Line}
use Rattle.exchange_rules.specs.declared.line.Todo.{Todo}
use Rattle.exchange_rules.specs.declared.line.Todo.TheVariants.{Nothing as Rest, HandOver, Nak, LastNak, CloseRefused, CloseUnknown}
use Rattle.exchange_rules.specs.declared.line.Heard.{Heard}
use Rattle.exchange_rules.specs.declared.line.Heard.TheVariants.{Keep, Judge, Do}
use Rattle.ledger.specs.Calls.{After as AfterCall}
use Rattle.refusals.specs.declared.Declined.{Declined}
use Rattle.refusals.specs.declared.Declined.TheVariants.{Room, Range, Open, Unquiet, Spent, Tick}
use Rattle.vcdm_rules.specs.Account.{fresh_account, account_opened, account_answered, account_refused, account_unknown}
use Rattle.vcdm_rules.specs.declared.account.Account.{Account}
use Rattle.vcdm_rules.specs.declared.session.Asked.{Asked}
use Rattle.vcdm_rules.specs.declared.session.Finding.{Finding}
use Rattle.vcdm_rules.specs.declared.session.Finding.TheVariants.{Bad, Good, Void}
use Rattle.vcdm_rules.specs.declared.session.Closing.{Closing}
use Rattle.vcdm_rules.specs.declared.session.Closing.TheVariants.{Nothing, Answered, Refused, Unknown}
use Rattle.vcdm_rules.specs.Reply.{Reply}
use Rattle.vcdm_rules.specs.Reply.{NotDone, Done}
use Rattle.vcdm_rules.specs.Step.{Step}
use Rattle.vcdm_rules.specs.declared.session.Opening.{Opening}
use Rattle.vcdm_rules.specs.declared.session.Session.{Session}
use Rattle.vcdm_rules.specs.Outcome.{Outcome}

-- ---- what a call leaves

abbrev pub stepped : Line → ℕ → Closing → Step
stepped l n c = record { line = l; reply = Done n c }

abbrev pub refused_step : Line → Declined → Step
refused_step l why = record { line = l; reply = NotDone why }

abbrev pub refused_opening : Line → Asked → ℕ → Declined → Opening
refused_opening l a serial why = record { line = l; asked = a; serial = serial; reply = NotDone why }

-- a step, with every byte of the room afterwards
pub record StepAfter : Type 0 where
  pub line : Line
  pub reply : Reply
  pub room : List ℕ

abbrev pub step_after : Step → List ℕ → StepAfter
step_after s r = record { line = s.line; reply = s.reply; room = r }

abbrev pub done_after : Line → ℕ → Closing → List ℕ → StepAfter
done_after l n c r = record { line = l; reply = Done n c; room = r }

-- and every byte of the gathering store
pub record ByteAfter : Type 0 where
  pub step : StepAfter
  pub store : List ℕ

abbrev pub byte_after : Step → List ℕ → List ℕ → ByteAfter
byte_after s store r = record { step = step_after s r; store = store }

pub record OpeningAfter : Type 0 where
  pub line : Line
  pub asked : Asked
  pub serial : ℕ
  pub reply : Reply
  pub room : List ℕ

abbrev pub opening_after : Opening → List ℕ → OpeningAfter
opening_after o r = record { line = o.line; asked = o.asked; serial = o.serial; reply = o.reply; room = r }

-- the session, what the call answers, and every byte of the room
abbrev pub After : Type 0
After = AfterCall Session Reply

abbrev pub after : Outcome → List ℕ → After
after o r = record { session = o.session; reply = o.reply; room = r }

-- ---- the serial

-- "The serial byte runs 21h to 7Fh and then begins again at 21h"
unfoldable pub following : ℕ → ℕ
following s = cond (ltb s 0x7F) (s + 1) 0x21

-- only a dispense pays, and has a serial
abbrev pub pays : ℕ → Bool
pays code = eqb code dispense_code

-- the serial of a command, s being the next one; 0 where it has none
unfoldable pub serial_for : ℕ → ℕ → ℕ
serial_for code s = cond (pays code) s 0

-- "a newly accepted dispense takes the next"
unfoldable pub serial_after : ℕ → ℕ → ℕ
serial_after code s = cond (pays code) (following s) s

-- the next one after what a byte or a tick answered, the open command having its own: however a command closes, nothing gives its serial back
abbrev pub serial_closed : Closing → ℕ → ℕ → ℕ
serial_closed Nothing own s = s
serial_closed (Answered answer) own s = s
serial_closed Refused own s = s
serial_closed Unknown own s = s

abbrev pub serial_left : Reply → ℕ → ℕ → ℕ
serial_left (NotDone why) own s = s
serial_left (Ok effect) own s = serial_closed effect.closing own s

-- ---- what is sent

-- bytes handed over, with the room as it is left
pub record Handed : Type 0 where
  pub put : ℕ
  pub room : List ℕ

abbrev pub handed : ℕ → List ℕ → Handed
handed n r = record { put = n; room = r }

abbrev pub bytes_put : Put → ℕ
bytes_put (Bytes n) = n
bytes_put (NotPut why) = 0

-- the command's frame at the room's start, with its own serial: "a resend keeps its serial"
unfoldable pub hand_over : Asked → List ℕ → Handed
hand_over a r =
    let w = write_command a.code a.counts a.serial r in
    handed (bytes_put w.answer) w.room

-- ---- what is closed

-- "Reset leaves the line unready for 2,000 ms more quiet"
unfoldable pub more_quiet : ℕ → ℕ
more_quiet code = cond (eqb code reset_code) 2_000 0

-- what the exchange says is to be done; the line is closed with the quiet that the command asks
abbrev pub acted : Todo → Line → Asked → List ℕ → StepAfter
acted Rest l a r = done_after l 0 Nothing r
acted HandOver l a r = done_after l (hand_over a r).put Nothing (hand_over a r).room
acted Nak l a r = done_after l 1 Nothing (set r 0 0x15)
acted LastNak l a r = done_after (closed l (long_quiet + more_quiet a.code)) 1 Unknown (set r 0 0x15)
acted CloseRefused l a r = done_after (closed l (quiet + more_quiet a.code)) 0 Refused r
acted CloseUnknown l a r = done_after (closed l (long_quiet + more_quiet a.code)) 0 Unknown r

-- ---- bytes

-- "Any other full frame (bad), or lateness inside one"
unfoldable pub bad_step : Line → Asked → List ℕ → StepAfter
bad_step l a r = acted (bad_frame l).todo (bad_frame l).line a r

-- error 1Dh, on the wire: "adding to 0x20" (000, chapter 4)
abbrev pub repeated : ℕ
repeated = 0x3D

-- "An answer with another serial is bad. Error 1Dh .. says the serial was repeated: nothing was paid by this request"
abbrev pub dispense_found : ℕ → ℕ → ℕ → Finding
dispense_found own e s = cond (eqb s own) (cond (eqb e repeated) Void Good) Bad

-- an answer with the code asked; own is the command's serial
abbrev pub found_by : ℕ → Answer → Finding
found_by own (Reset e) = Good
found_by own (Status e d0 d1 p) = Good
found_by own (Purged e m c r) = Good
found_by own (Dispensed e s c r) = dispense_found own e s
found_by own (Last l e s c r) = Good

-- what an answer is to the command that is open
unfoldable pub finding : ℕ → ℕ → Answer → Finding
finding code own answer = cond (eqb (answer_code answer) code) (found_by own answer) Bad

-- "Good answer with the code asked: send 06h and close as answered"; "after our 06h it closes as refused"
abbrev pub found_step : Finding → Answer → Line → Asked → List ℕ → StepAfter
found_step Bad answer l a r = bad_step l a r
found_step Good answer l a r = done_after (closed l (quiet + more_quiet a.code)) 1 (Answered answer) (set r 0 0x06)
found_step Void answer l a r = done_after (closed l (quiet + more_quiet a.code)) 1 Refused (set r 0 0x06)

abbrev pub judged_step : AnswerRead → Line → Asked → List ℕ → StepAfter
judged_step (Read answer) l a r = found_step (finding a.code a.serial answer) answer l a r
judged_step (NotRead fault) l a r = bad_step l a r

unfoldable pub judge_step : Line → Asked → List ℕ → List ℕ → StepAfter
judge_step l a store r = judged_step (read_answer (take a.span store)) l a r

-- what the exchange says of a byte b whose place in the store is at
abbrev pub byte_acted : Heard → Line → Asked → List ℕ → ℕ → ℕ → List ℕ → ByteAfter
byte_acted Keep l a store at b r = record { step = done_after l 0 Nothing r; store = set store at b }
byte_acted Judge l a store at b r = record { step = judge_step l a (set store at b) r; store = set store at b }
byte_acted (Do t) l a store at b r = record { step = acted t l a r; store = store }

-- "received bytes 1"
unfoldable pub byte_refusals : List ℕ → List (Rule Declined)
byte_refusals r = under (length r) least_room gives Room ∷ []

unfoldable pub byte_step : Line → Asked → List ℕ → ℕ → List ℕ → ByteAfter
byte_step l a store b r =
    judged (byte_refusals r) (λ why. byte_after (refused_step l why) store r)
    (byte_acted (heard l a.span b).heard (heard l a.span b).line a store l.gathered b r)

-- ---- ticks

-- "ticks 1 and 6"
unfoldable pub tick_refusals : ℕ → List ℕ → List (Rule Declined)
tick_refusals ms r = under (length r) least_room gives Room ∷ isnt (within 1 longest_tick ms) gives Tick ∷ []

unfoldable pub tick_step : Line → Asked → ℕ → List ℕ → StepAfter
tick_step l a ms r =
    judged (tick_refusals ms r) (λ why. step_after (refused_step l why) r) (acted (passed l ms).todo (passed l ms).line a r)

-- ---- requests

-- "Requests can meet 1 to 5": "the lowest that applies is given". Number 2 is of code and counts alone: the caller gives no serial
unfoldable pub request_refusals : Line → ℕ → Counts → List ℕ → List (Rule Declined)
request_refusals l code n r =
    under (length r) least_room gives Room
    ∷ isnt (askable code n) gives Range
    ∷ says (is_open l.phase) gives Open
    ∷ under 0 l.left gives Unquiet
    ∷ at_most command_limit l.accepted gives Spent
    ∷ []

abbrev pub command : ℕ → Counts → ℕ → Asked
command code n serial = record { code = code; counts = n; serial = serial; span = answer_length code }

-- "Request accepted: the frame is handed over", with the next serial where it is a dispense
unfoldable pub request_step : Line → Asked → ℕ → ℕ → Counts → List ℕ → OpeningAfter
request_step l a serial code n r =
    let new = command code n (serial_for code serial) in
    let w = hand_over new r in
    judged (request_refusals l code n r) (λ why. opening_after (refused_opening l a serial why) r)
    (record { line = opened l (l.accepted + 1); asked = new; serial = serial_after code serial; reply = Done w.put Nothing; room = w.room })

-- ---- the account, booked from what a call answered

abbrev pub closed_by : Account → Asked → Closing → Account
closed_by a c Nothing = a
closed_by a c (Answered answer) = account_answered a c.counts answer
closed_by a c Refused = account_refused a c.counts
closed_by a c Unknown = account_unknown a c.counts

abbrev pub booked_by : Account → Asked → Reply → Account
booked_by a c (NotDone why) = a
booked_by a c (Ok effect) = closed_by a c effect.closing

abbrev pub request_booked : Account → Asked → Reply → Account
request_booked a c (NotDone why) = a
request_booked a c (Ok effect) = account_opened a c.counts

-- ---- the session by value

-- "A fresh session has zero sums, no open command and zero quiet time"; "the first 21h"
unfoldable pub fresh_session : Session
fresh_session =
    record {
      line = fresh_line;
      asked = record { code = 0; counts = no_counts; serial = 0; span = 0 };
      account = fresh_account;
      store = replicate 30 0;
      serial = 0x21;
    }

unfoldable pub session_request : Session → ℕ → Counts → List ℕ → After
session_request s code n r =
    let w = request_step s.line s.asked s.serial code n r in
    record {
      session = record { line = w.line; asked = w.asked; account = request_booked s.account w.asked w.reply; store = s.store; serial = w.serial };
      reply = w.reply;
      room = w.room;
    }

unfoldable pub session_byte : Session → ℕ → List ℕ → After
session_byte s b r =
    let w = byte_step s.line s.asked s.store b r in
    record {
      session = record { line = w.step.line; asked = s.asked; account = booked_by s.account s.asked w.step.reply; store = w.store; serial = serial_left w.step.reply s.asked.serial s.serial };
      reply = w.step.reply;
      room = w.step.room;
    }

unfoldable pub session_tick : Session → ℕ → List ℕ → After
session_tick s ms r =
    let w = tick_step s.line s.asked ms r in
    record {
      session = record { line = w.line; asked = s.asked; account = booked_by s.account s.asked w.reply; store = s.store; serial = serial_left w.reply s.asked.serial s.serial };
      reply = w.reply;
      room = w.room;
    }
