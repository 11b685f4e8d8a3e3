-- The dispenser session, call by call (01, "The dispenser session" and "Numbers a call can answer").
use Rattle.std.specs.Prelude.{ℕ, ◌+◌, Bool, cond, ◌||◌, List, [], ◌∷◌, eqb, ltb, length, take, set, replicate, Ok}
use Rattle.refusals.specs.Rules.{Condition, Rule, says, under, at_most, within, both, isnt, judged, ◌gives◌}
use Rattle.refusals.specs.Put.{Put}
use Rattle.refusals.specs.Put.{Bytes, Refused as NotPut}
use Rattle.dispenser_frame_rules.specs.Table.{pay_upper_code, pay_lower_code, pay_both_code, answer_length}
use Rattle.dispenser_frame_rules.specs.Command.{sendable, write_command}
use Rattle.dispenser_frame_rules.specs.Answer.{answer_code, read_answer}
use Rattle.dispenser_frame_rules.specs.declared.answer.Cassette.{Cassette}
use Rattle.dispenser_frame_rules.specs.declared.answer.Cassette.TheVariants.{Upper, Lower}
use Rattle.dispenser_frame_rules.specs.declared.answer.Answer.{Answer}
use Rattle.dispenser_frame_rules.specs.declared.answer.Answer.TheVariants.{Purged, PaidOne, PaidBoth, Tested, Status}
use Rattle.dispenser_frame_rules.specs.AnswerRead.{AnswerRead}
use Rattle.dispenser_frame_rules.specs.AnswerRead.{Refused as NotRead}
use Rattle.exchange_rules.specs.Limits.{quiet, doubt_limit, least_room, command_limit, longest_tick}
use Rattle.exchange_rules.specs.Sums.{notes}
use Rattle.exchange_rules.specs.Exchange.{fresh_line, opened, closed, doubted, ends, is_open, heard, bad_frame, passed}
use Rattle.dispenser_rules.specs.Account.{account_opened, account_answered, account_refused, account_unknown}
use Rattle.dispenser_rules.specs.Requests.{fresh_account, advanced, newest_slot, unwritten, slots_after}
use Rattle.dispenser_rules.specs.declared.account.Account.{Account}
use Rattle.dispenser_rules.specs.declared.account.Cassettes.{Cassettes}
use Rattle.dispenser_rules.specs.declared.requests.Standing.{Standing}
use Rattle.dispenser_rules.specs.declared.requests.Standing.TheVariants.{Open as StillOpen, Answered as WasAnswered, Refused as WasRefused, Unknown as WasUnknown}
use Rattle.dispenser_rules.specs.declared.requests.Place.{Place}
use Rattle.dispenser_rules.specs.declared.requests.Requests.{Requests}
use Rattle.dispenser_rules.specs.declared.requests.Written.{Written}
use Rattle.exchange_rules.specs.declared.line.Phase.{Phase}
use Rattle.exchange_rules.specs.declared.line.Line.{Line}
use Rattle.exchange_rules.specs.declared.line.Todo.{Todo}
use Rattle.exchange_rules.specs.declared.line.Todo.TheVariants.{Nothing as Rest, HandOver, Nak, LastNak, CloseRefused, CloseUnknown}
use Rattle.exchange_rules.specs.declared.line.Heard.{Heard}
use Rattle.exchange_rules.specs.declared.line.Heard.TheVariants.{Keep, Judge, Do}
use Rattle.ledger.specs.Account.{answered, refused, unknown}
use Rattle.ledger.specs.Calls.{After as AfterCall}
use Rattle.refusals.specs.declared.Declined.{Declined}
use Rattle.refusals.specs.declared.Declined.TheVariants.{Room, Range, Open, Unquiet, Spent, Tick, Stopped}
use Rattle.dispenser_rules.specs.declared.session.Asked.{Asked}
use Rattle.dispenser_rules.specs.declared.session.Closing.{Closing}
use Rattle.dispenser_rules.specs.declared.session.Closing.TheVariants.{Nothing, Answered, Refused, Unknown}
use Rattle.dispenser_rules.specs.Reply.{Reply}
use Rattle.dispenser_rules.specs.Reply.{NotDone, Done}
use Rattle.dispenser_rules.specs.Step.{Step}
use Rattle.dispenser_rules.specs.declared.session.Opening.{Opening}
use Rattle.dispenser_rules.specs.declared.session.Session.{Session}
use Rattle.dispenser_rules.specs.Outcome.{Outcome}

-- ---- what a call leaves

abbrev pub stepped : Line → ℕ → Closing → Step
stepped l n c = record { line = l; reply = Done n c }

abbrev pub refused_step : Line → Declined → Step
refused_step l why = record { line = l; reply = NotDone why }

abbrev pub refused_opening : Line → Asked → Declined → Opening
refused_opening l a why = record { line = l; asked = a; reply = NotDone why }

-- a step, with every byte of the room afterwards
pub record StepAfter : Type 0 where
  pub line : Line
  pub reply : Reply
  pub room : List ℕ

abbrev pub step_after : Step → List ℕ → StepAfter
step_after s r = record { line = s.line; reply = s.reply; room = r }

abbrev pub done_after : Line → ℕ → Closing → List ℕ → StepAfter
done_after l n c r = record { line = l; reply = Done n c; room = r }

-- and every byte of the gathering store
pub record ByteAfter : Type 0 where
  pub step : StepAfter
  pub store : List ℕ

abbrev pub byte_after : Step → List ℕ → List ℕ → ByteAfter
byte_after s store r = record { step = step_after s r; store = store }

pub record OpeningAfter : Type 0 where
  pub line : Line
  pub asked : Asked
  pub reply : Reply
  pub room : List ℕ

abbrev pub opening_after : Opening → List ℕ → OpeningAfter
opening_after o r = record { line = o.line; asked = o.asked; reply = o.reply; room = r }

-- the session, what the call answers, and every byte of the room
abbrev pub After : Type 0
After = AfterCall Session Reply

abbrev pub after : Outcome → List ℕ → After
after o r = record { session = o.session; reply = o.reply; room = r }

-- ---- what is sent

-- bytes handed over, with the room as it is left
pub record Handed : Type 0 where
  pub put : ℕ
  pub room : List ℕ

abbrev pub handed : ℕ → List ℕ → Handed
handed n r = record { put = n; room = r }

abbrev pub bytes_put : Put → ℕ
bytes_put (Bytes n) = n
bytes_put (NotPut why) = 0

-- the command's frame at the room's start
unfoldable pub hand_over : Asked → List ℕ → Handed
hand_over a r =
    let w = write_command a.code a.upper a.lower r in
    handed (bytes_put w.answer) w.room

-- ---- what is closed

-- "Paying requests": pay upper, pay lower and pay both
unfoldable pub pays : ℕ → Bool
pays code = eqb code pay_upper_code || (eqb code pay_lower_code || eqb code pay_both_code)

-- what the exchange says is to be done
abbrev pub acted : Todo → Line → Asked → List ℕ → StepAfter
acted Rest l a r = done_after l 0 Nothing r
acted HandOver l a r = done_after l (hand_over a r).put Nothing (hand_over a r).room
acted Nak l a r = done_after l 1 Nothing (set r 0 0x15)
acted LastNak l a r = done_after (ends l (pays a.code) unknown) 1 Unknown (set r 0 0x15)
acted CloseRefused l a r = done_after (ends l (pays a.code) refused) 0 Refused r
acted CloseUnknown l a r = done_after (ends l (pays a.code) unknown) 0 Unknown r

-- ---- bytes

-- "Any other full frame (bad), or lateness inside one"
unfoldable pub bad_step : Line → Asked → List ℕ → StepAfter
bad_step l a r = acted (bad_frame l).todo (bad_frame l).line a r

-- "Good answer with the code asked: send 06h and close as answered."
abbrev pub judged_step : AnswerRead → Line → Asked → List ℕ → StepAfter
judged_step (Ok read) l a r =
    cond (eqb (answer_code read.answer) a.code) (done_after (ends (closed l quiet) (pays a.code) answered) 1 (Answered read.answer read.class) (set r 0 0x06)) (bad_step l a r)
judged_step (NotRead fault) l a r = bad_step l a r

unfoldable pub judge_step : Line → Asked → List ℕ → List ℕ → StepAfter
judge_step l a store r = judged_step (read_answer (take a.span store)) l a r

-- what the exchange says of a byte b whose place in the store is at
abbrev pub byte_acted : Heard → Line → Asked → List ℕ → ℕ → ℕ → List ℕ → ByteAfter
byte_acted Keep l a store at b r = record { step = done_after l 0 Nothing r; store = set store at b }
byte_acted Judge l a store at b r = record { step = judge_step l a (set store at b) r; store = set store at b }
byte_acted (Do t) l a store at b r = record { step = acted t l a r; store = store }

-- "received bytes 1"
unfoldable pub byte_refusals : List ℕ → List (Rule Declined)
byte_refusals r = under (length r) least_room gives Room ∷ []

unfoldable pub byte_step : Line → Asked → List ℕ → ℕ → List ℕ → ByteAfter
byte_step l a store b r =
    judged (byte_refusals r) (λ why. byte_after (refused_step l why) store r)
    (byte_acted (heard l a.span b).heard (heard l a.span b).line a store l.gathered b r)

-- ---- ticks

-- "ticks 1 and 6"
unfoldable pub tick_refusals : ℕ → List ℕ → List (Rule Declined)
tick_refusals ms r = under (length r) least_room gives Room ∷ isnt (within 1 longest_tick ms) gives Tick ∷ []

unfoldable pub tick_step : Line → Asked → ℕ → List ℕ → StepAfter
tick_step l a ms r =
    judged (tick_refusals ms r) (λ why. step_after (refused_step l why) r) (acted (passed l ms).todo (passed l ms).line a r)

-- ---- requests

-- "a command is open on this line"
abbrev pub opens : Phase → Condition
opens p = says (is_open p)

-- "two paying requests in succession which closed unknown .. From then on paying requests get the new number 7" (02, Q-9)
abbrev pub stopped : Line → ℕ → Condition
stopped l code = both (at_most doubt_limit l.doubts) (says (pays code))

-- "Requests can meet 1 to 5", and paying ones 7, "after number 5 in order": "the lowest that applies is given"
unfoldable pub request_refusals : Line → ℕ → ℕ → ℕ → List ℕ → List (Rule Declined)
request_refusals l code upper lower r =
    under (length r) least_room gives Room
    ∷ isnt (sendable code upper lower) gives Range
    ∷ opens l.phase gives Open
    ∷ under 0 l.left gives Unquiet
    ∷ at_most command_limit l.accepted gives Spent
    ∷ stopped l code gives Stopped
    ∷ []

abbrev pub command : ℕ → ℕ → ℕ → Asked
command code upper lower = record { code = code; upper = upper; lower = lower; span = answer_length code }

-- "Request accepted: the frame is handed over."
unfoldable pub request_step : Line → Asked → ℕ → ℕ → ℕ → List ℕ → OpeningAfter
request_step l a code upper lower r =
    let w = hand_over (command code upper lower) r in
    judged (request_refusals l code upper lower r) (λ why. opening_after (refused_opening l a why) r)
    (record { line = opened l (l.accepted + 1); asked = command code upper lower; reply = Done w.put Nothing; room = w.room })

-- ---- clear

-- "Clear is refused with 3 while a command is open"
unfoldable pub clear_refusals : Line → List (Rule Declined)
clear_refusals l = opens l.phase gives Open ∷ []

-- "else starts the succession afresh and changes no sum"
unfoldable pub clear_step : Line → Step
clear_step l = judged (clear_refusals l) (refused_step l) (stepped (doubted l 0) 0 Nothing)

-- ---- the sums, booked from what a call answered

abbrev pub closed_by : Cassettes → Asked → Closing → Cassettes
closed_by a c Nothing = a
closed_by a c (Answered answer class) = account_answered a c answer
closed_by a c Refused = account_refused a c
closed_by a c Unknown = account_unknown a c

abbrev pub booked_by : Cassettes → Asked → Reply → Cassettes
booked_by a c (NotDone why) = a
booked_by a c (Ok effect) = closed_by a c effect.closing

abbrev pub request_booked : Cassettes → Asked → Reply → Cassettes
request_booked a c (NotDone why) = a
request_booked a c (Ok effect) = account_opened a c

-- ---- the kept requests, written from what a call answered (02, Q-6: "the last 32 paying requests with code, counts asked, hand-overs and how each closed, .. an open
-- one as open")

-- the notes that an answer says were paid from each cassette
abbrev pub paid_one : Cassette → ℕ → Standing
paid_one Upper e = WasAnswered (notes e) (notes 0)
paid_one Lower e = WasAnswered (notes 0) (notes e)

abbrev pub paid_by : Answer → Standing
paid_by (Purged e) = WasAnswered (notes 0) (notes 0)
paid_by (PaidOne k chk exit e s r) = paid_one k exit
paid_by (PaidBoth uc ux lc lx e us ls ur lr) = WasAnswered (notes ux) (notes lx)
paid_by (Tested k chk e s r) = WasAnswered (notes 0) (notes 0)
paid_by (Status e s0 s1) = WasAnswered (notes 0) (notes 0)

-- how the command now stands, in the newest slot, n being its hand-overs; a command that does not pay is not kept
unfoldable pub wrote : Place → Asked → ℕ → Standing → Written
wrote p c n standing =
    cond (pays c.code)
    (record { slot = newest_slot p; request = record { code = c.code; upper = c.upper; lower = c.lower; handed = n; standing = standing } })
    unwritten

-- it is written where a frame was put, that is more than one byte, and where the command closed
abbrev pub written_at : Place → Asked → ℕ → ℕ → Closing → Written
written_at p c n put Nothing = cond (ltb 1 put) (wrote p c n StillOpen) unwritten
written_at p c n put (Answered answer class) = wrote p c n (paid_by answer)
written_at p c n put Refused = wrote p c n WasRefused
written_at p c n put Unknown = wrote p c n WasUnknown

abbrev pub written_by : Place → Asked → ℕ → Reply → Written
written_by p c n (NotDone why) = unwritten
written_by p c n (Ok effect) = written_at p c n effect.put effect.closing

-- an accepted paying request takes the next slot
abbrev pub place_after : Place → Asked → Reply → Place
place_after p c (NotDone why) = p
place_after p c (Ok effect) = cond (pays c.code) (advanced p) p

abbrev pub requests_at : Place → Requests → Asked → ℕ → Reply → Requests
requests_at p r c n reply = record { place = p; slots = slots_after r.slots (written_by p c n reply) }

-- ---- the account: after what a request answered, and after what a byte or a tick did

unfoldable pub account_asked : Account → Asked → ℕ → Reply → Account
account_asked a c n reply =
    record {
      cassettes = request_booked a.cassettes c reply;
      requests = requests_at (place_after a.requests.place c reply) a.requests c n reply;
    }

unfoldable pub account_heard : Account → Asked → ℕ → Reply → Account
account_heard a c n reply = record { cassettes = booked_by a.cassettes c reply; requests = requests_at a.requests.place a.requests c n reply }

-- ---- the session by value

-- "A fresh session has zero sums, no open command and zero quiet time."
unfoldable pub fresh_session : Session
fresh_session =
    record {
      line = fresh_line;
      asked = record { code = 0; upper = 0; lower = 0; span = 0 };
      account = fresh_account;
      store = replicate 21 0;
    }

unfoldable pub session_request : Session → ℕ → ℕ → ℕ → List ℕ → After
session_request s code upper lower r =
    let w = request_step s.line s.asked code upper lower r in
    record {
      session = record { line = w.line; asked = w.asked; account = account_asked s.account w.asked w.line.handed w.reply; store = s.store };
      reply = w.reply;
      room = w.room;
    }

unfoldable pub session_byte : Session → ℕ → List ℕ → After
session_byte s b r =
    let w = byte_step s.line s.asked s.store b r in
    record {
      session = record { line = w.step.line; asked = s.asked; account = account_heard s.account s.asked w.step.line.handed w.step.reply; store = w.store };
      reply = w.step.reply;
      room = w.step.room;
    }

unfoldable pub session_tick : Session → ℕ → List ℕ → After
session_tick s ms r =
    let w = tick_step s.line s.asked ms r in
    record {
      session = record { line = w.line; asked = s.asked; account = account_heard s.account s.asked w.line.handed w.reply; store = s.store };
      reply = w.reply;
      room = w.room;
    }

-- clear is lent no room
unfoldable pub session_clear : Session → After
session_clear s =
    let w = clear_step s.line in
    record {
      session = record { line = w.line; asked = s.asked; account = s.account; store = s.store };
      reply = w.reply;
      room = [];
    }
