-- A dispenser session over any unit (01, "The dispenser session" and "The account"): what the line's discipline, a unit's frames and its account make
-- together, call by call. R is what is asked of the unit, X what a good answer says, A the account, C the cassettes.
use Rattle.std.specs.Prelude.{ℕ, ◌+◌, Bool, List, [], ◌∷◌, length, take, set}
use Rattle.refusals.specs.Rules.{Condition, Rule, says, under, at_most, within, both, isnt, judged, ◌gives◌}
use Rattle.ledger.specs.Events.{Deed, asks, hears, waits, own, History}
use Rattle.ledger.specs.Line.{is_open as is_open_in, quiet_time, quiet_needed, accepted}
use Rattle.ledger.specs.Account.{Ending, answered, refused, unknown, Dispenser, Totals}
use Rattle.ledger.specs.Stopped.{succession}
use Rattle.ledger.specs.Calls.{After, Returned, gave, did, Host}
use Rattle.ledger.specs.Told.{Verdict, bad, good, void, Closing, none, by_answer, by_refusal, by_doubt, ending, Discipline}
use Rattle.refusals.specs.declared.Declined.{Declined}
use Rattle.refusals.specs.declared.Declined.TheVariants.{Room, Range, Open, Unquiet, Spent, Tick, Stopped}
use Rattle.exchange_rules.specs.Limits.{quiet, long_quiet, first_wait, answer_wait, nak_wait, frame_wait, hand_overs, nak_limit, doubt_limit, least_room, command_limit, longest_tick}
use Rattle.exchange_rules.specs.Exchange.{opened, closed, doubted, ends, is_open, heard, bad_frame, passed}
use Rattle.exchange_rules.specs.declared.notes.Sums.{Sums}
use Rattle.exchange_rules.specs.declared.line.Line.{Line}
use Rattle.exchange_rules.specs.declared.line.Todo.{Todo}
use Rattle.exchange_rules.specs.declared.line.Todo.TheVariants.{Nothing, HandOver, Nak, LastNak, CloseRefused, CloseUnknown}
use Rattle.exchange_rules.specs.declared.line.Heard.{Heard}
use Rattle.exchange_rules.specs.declared.line.Heard.TheVariants.{Keep, Judge, Do}

-- bytes handed over, with the room as it is left
pub record Handed : Type 0 where
  pub put : ℕ
  pub room : List ℕ

-- a unit: what can be sent, and in which bytes; what a full frame is; the quiet that a closing asks beyond the line's; which commands pay, so that two of them which
-- closed unknown stop it (a unit that is never stopped has none); what becomes of the account; and by `bytes` what is asked of each cassette and what an answer's bytes say of it; the length of its longest answer, and the greatest count there can be
pub record Model (R X A C : Type 0) : Type 1 where
  pub sendable : R → Condition
  pub layout : R → List ℕ
  pub hands : R → List ℕ → Handed
  pub judges : R → List ℕ → Verdict X
  pub more : R → ℕ
  pub pays : R → Bool
  pub cassette : A → C → Sums
  pub opens : A → R → A
  pub closes_refused : A → R → A
  pub closes_unknown : A → R → A
  pub answers : A → R → X → A
  pub bytes : Dispenser R C
  pub longest : ℕ
  pub greatest : ℕ

-- what a call answers: no more than every call does
abbrev pub Reply : Type 0 → Type 0
Reply X = Returned (Closing X)

-- a session: the line, what was last asked, the account and the gathering store
pub record Box (R A : Type 0) : Type 0 where
  pub line : Line
  pub asks : R
  pub account : A
  pub store : List ℕ

-- a step of the line, with every byte of the room
pub record StepAfter (X : Type 0) : Type 0 where
  pub line : Line
  pub reply : Reply X
  pub room : List ℕ

pub record ByteAfter (X : Type 0) : Type 0 where
  pub step : StepAfter X
  pub store : List ℕ

abbrev pub done_after : {X : Type 0} → Line → ℕ → Closing X → List ℕ → StepAfter X
done_after l n c r = record { line = l; reply = did n c; room = r }

-- "After an unknown closing the next command needs 95,200 ms of quiet instead of 5,200"
abbrev pub line_quiet : Ending → ℕ
line_quiet answered = quiet
line_quiet refused = quiet
line_quiet unknown = long_quiet

module _ {R X A C : Type 0} (U : Model R X A C) where
  -- the waits and limits of its line
  abbrev pub discipline : Discipline R X
  discipline =
      record {
        layout = U.layout;
        judges = U.judges;
        hand-overs = hand_overs;
        naks = nak_limit;
        first = first_wait;
        answer = answer_wait;
        after_nak = nak_wait;
        frame = frame_wait;
      }

  -- the quiet that a closing asks for: the line's, and what the unit asks beyond it
  abbrev pub quiet_after : R → Ending → ℕ
  quiet_after q end = line_quiet end + U.more q

  -- the line at a closing
  abbrev pub shut : R → Ending → Line → Line
  shut q end l = ends (closed l (quiet_after q end)) (U.pays q) end

  -- what the exchange says is to be done
  abbrev pub acted : Todo → Line → R → List ℕ → StepAfter X
  acted Nothing l q r = done_after l 0 none r
  acted HandOver l q r = done_after l (U.hands q r).put none (U.hands q r).room
  acted Nak l q r = done_after l 1 none (set r 0 0x15)
  acted LastNak l q r = done_after (shut q unknown l) 1 by_doubt (set r 0 0x15)
  acted CloseRefused l q r = done_after (shut q refused l) 0 by_refusal r
  acted CloseUnknown l q r = done_after (shut q unknown l) 0 by_doubt r

  -- "Any other full frame (bad), or lateness inside one"
  unfoldable pub bad_step : Line → R → List ℕ → StepAfter X
  bad_step l q r = acted (bad_frame l).todo (bad_frame l).line q r

  -- "Good answer with the code asked: send 06h and close as answered."; "after our 06h it closes as refused" (02, Q-3)
  abbrev pub judged_step : Verdict X → Line → R → List ℕ → StepAfter X
  judged_step bad l q r = bad_step l q r
  judged_step (good x) l q r = done_after (shut q answered l) 1 (by_answer x) (set r 0 0x06)
  judged_step void l q r = done_after (shut q refused l) 1 by_refusal (set r 0 0x06)

  unfoldable pub judge_step : Line → R → List ℕ → List ℕ → StepAfter X
  judge_step l q store r = judged_step (U.judges q (take (U.bytes.span q) store)) l q r

  -- what the exchange says of a byte b whose place in the store is at
  abbrev pub byte_acted : Heard → Line → R → List ℕ → ℕ → ℕ → List ℕ → ByteAfter X
  byte_acted Keep l q store at b r = record { step = done_after l 0 none r; store = set store at b }
  byte_acted Judge l q store at b r = record { step = judge_step l q (set store at b) r; store = set store at b }
  byte_acted (Do t) l q store at b r = record { step = acted t l q r; store = store }

  -- "received bytes 1"; "ticks 1 and 6"; "Requests can meet 1 to 5", and "paying requests get the new number 7, after number 5 in order"; "Clear is refused with 3
  -- while a command is open" (02, Q-9)
  unfoldable pub byte_refusals : List ℕ → List (Rule Declined)
  byte_refusals r = under (length r) least_room gives Room ∷ []

  unfoldable pub tick_refusals : ℕ → List ℕ → List (Rule Declined)
  tick_refusals ms r = under (length r) least_room gives Room ∷ isnt (within 1 longest_tick ms) gives Tick ∷ []

  unfoldable pub request_refusals : Line → R → List ℕ → List (Rule Declined)
  request_refusals l q r =
      under (length r) least_room gives Room
      ∷ isnt (U.sendable q) gives Range
      ∷ says (is_open l.phase) gives Open
      ∷ under 0 l.left gives Unquiet
      ∷ at_most command_limit l.accepted gives Spent
      ∷ both (at_most doubt_limit l.doubts) (says (U.pays q)) gives Stopped
      ∷ []

  unfoldable pub clear_refusals : Line → List (Rule Declined)
  clear_refusals l = says (is_open l.phase) gives Open ∷ []

  -- the account, booked from what a call answered
  abbrev pub closed_by : A → R → Closing X → A
  closed_by a q none = a
  closed_by a q (by_answer x) = U.answers a q x
  closed_by a q by_refusal = U.closes_refused a q
  closed_by a q by_doubt = U.closes_unknown a q

  abbrev pub booked_by : A → R → Reply X → A
  booked_by a q (gave why) = a
  booked_by a q (did n c) = closed_by a q c

  -- a session after a step, with its store
  abbrev pub next : Box R A → StepAfter X → List ℕ → Box R A
  next s w store = record { line = w.line; asks = s.asks; account = booked_by s.account s.asks w.reply; store = store }

  -- the session with one command more, just opened
  abbrev pub opening : Box R A → R → Box R A
  opening s q = record { line = opened s.line (s.line.accepted + 1); asks = q; account = U.opens s.account q; store = s.store }

  -- the call was declined
  abbrev pub left : Box R A → List ℕ → Declined → After (Box R A) (Reply X)
  left s r why = record { session = s; reply = gave why; room = r }

  -- the calls
  unfoldable pub called-request : Box R A → R → List ℕ → After (Box R A) (Reply X)
  called-request s q r =
      judged (request_refusals s.line q r) (left s r)
      (record { session = opening s q; reply = did (U.hands q r).put none; room = (U.hands q r).room })

  unfoldable pub heard_step : Box R A → ℕ → List ℕ → ByteAfter X
  heard_step s b r =
      byte_acted (heard s.line (U.bytes.span s.asks) b).heard (heard s.line (U.bytes.span s.asks) b).line s.asks s.store s.line.gathered b r

  abbrev pub of_step : Box R A → ByteAfter X → After (Box R A) (Reply X)
  of_step s w = record { session = next s w.step w.store; reply = w.step.reply; room = w.step.room }

  unfoldable pub called-byte : Box R A → ℕ → List ℕ → After (Box R A) (Reply X)
  called-byte s b r = judged (byte_refusals r) (left s r) (of_step s (heard_step s b r))

  unfoldable pub called-tick : Box R A → ℕ → List ℕ → After (Box R A) (Reply X)
  called-tick s ms r =
      judged (tick_refusals ms r) (left s r)
      (of_step s (record { step = acted (passed s.line ms).todo (passed s.line ms).line s.asks r; store = s.store }))

  -- "Clear .. starts the succession afresh and changes no sum"
  abbrev pub cleared : Box R A → Box R A
  cleared s = record { line = doubted s.line 0; asks = s.asks; account = s.account; store = s.store }

  unfoldable pub called-clear : Box R A → After (Box R A) (Reply X)
  called-clear s = judged (clear_refusals s.line) (left s []) (record { session = cleared s; reply = did 0 none; room = [] })

-- a call on a session, with any arguments and any room; O has the operator's clear, and is empty for a unit that is never stopped
pub data Call (R O : Type 0) : Type 0 where
  request : R → List ℕ → Call R O
  byte : ℕ → List ℕ → Call R O
  tick : ℕ → List ℕ → Call R O
  clear : O → Call R O

-- the room that is lent to it; clear is lent none
abbrev pub lent : {R O : Type 0} → Call R O → List ℕ
lent (request q r) = r
lent (byte b r) = r
lent (tick ms r) = r
lent (clear o) = []

abbrev pub deed : {R O : Type 0} → Call R O → Deed R O
deed (request q r) = asks q
deed (byte b r) = hears b
deed (tick ms r) = waits ms
deed (clear o) = own o

module _ {R X A C : Type 0} (U : Model R X A C) where
  abbrev pub called : {O : Type 0} → Box R A → Call R O → After (Box R A) (Reply X)
  called s (request q r) = called-request U s q r
  called s (byte b r) = called-byte U s b r
  called s (tick ms r) = called-tick U s ms r
  called s (clear o) = called-clear U s

  -- as its caller sees it
  abbrev pub host : {O : Type 0} → Host (Box R A) (Call R O) (Reply X) R O (Closing X) Ending
  host = record { called = called; deed = λ s c. deed c; returned = λ p. p; refused = gave; ending = ending }

  -- "Requests can meet 1 to 5, received bytes 1, ticks 1 and 6", paying requests 7 as well, and clear 3, told from the history
  unfoldable pub history_refusals : {O : Type 0} → History R O Ending → Call R O → List (Rule Declined)
  history_refusals h (byte b r) = under (length r) least_room gives Room ∷ []
  history_refusals h (tick ms r) = under (length r) least_room gives Room ∷ isnt (within 1 longest_tick ms) gives Tick ∷ []
  history_refusals h (request q r) =
      under (length r) least_room gives Room
      ∷ isnt (U.sendable q) gives Range
      ∷ says (is_open_in h) gives Open
      ∷ under (quiet_time h) (quiet_needed (quiet_after U) quiet h) gives Unquiet
      ∷ at_most command_limit (accepted h) gives Spent
      ∷ both (at_most doubt_limit (succession U.bytes U.pays h)) (says (U.pays q)) gives Stopped
      ∷ []
  history_refusals h (clear o) = says (is_open_in h) gives Open ∷ []

-- the sums that a session keeps, as plain numbers
abbrev pub plain : Sums → Totals
plain s =
    record {
      asked = s.asked.0;
      paid = s.paid.0;
      short = s.short.0;
      over = s.over.0;
      refused = s.refused.0;
      unknown = s.unknown.0;
      pending = s.pending.0;
      rejected = s.rejected.0;
    }
