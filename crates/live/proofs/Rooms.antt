-- What a session does never depends on what stood in the room that it was lent, but for the room itself: its length tells. Assumes nothing.
use Rattle.std.specs.Prelude.{Ok}
use Prim.Native.Nat.{ℕ, ◌+◌}
use mathlib.Core.Path.{◌≡◌, refl, ap, ◌∙◌}
use mathlib.Core.Bool.{Bool, true, false, cond}
use mathlib.Core.List.{List, [], ◌∷◌}
use lib.Dec.{eqb}
use lib.ListN.{length, take, set}
use Rattle.refusals.specs.Rules.{Rule, judged}
use Rattle.refusals.specs.Put.{Written, refused, laid}
use Rattle.dispenser_frame_rules.specs.Command.{command_refusals, command_frame, write_command}
use Rattle.dispenser_frame_rules.specs.Answer.{answer_code, read_answer}
use Rattle.dispenser_frame_rules.specs.AnswerRead.{AnswerRead}
use Rattle.dispenser_frame_rules.specs.AnswerRead.{Read, Refused as NotRead}
use Rattle.exchange_rules.specs.Exchange.{opened as taken, heard, bad_frame, passed}
use Rattle.exchange_rules.specs.declared.line.Heard.{Heard}
use Rattle.exchange_rules.specs.declared.line.Heard.TheVariants.{Keep, Judge, Do}
use Rattle.exchange_rules.specs.declared.line.Line.{Line}
use Rattle.exchange_rules.specs.declared.line.Todo.{Todo}
use Rattle.exchange_rules.specs.declared.line.Todo.TheVariants.{Nothing as Rest, HandOver, Nak, LastNak, CloseRefused, CloseUnknown}
use Rattle.dispenser_rules.specs.Session.{After, StepAfter, ByteAfter, OpeningAfter, refused_step, refused_opening, step_after, byte_after, opening_after, bytes_put, hand_over, acted, bad_step, judged_step, judge_step, byte_acted, byte_refusals, byte_step, tick_refusals, tick_step, request_refusals, command, request_step, account_asked, account_heard, session_request, session_byte, session_tick}
use Rattle.dispenser_rules.specs.declared.session.Asked.{Asked}
use Rattle.dispenser_rules.specs.declared.session.Opening.{Opening}
use Rattle.dispenser_rules.specs.Outcome.{Outcome}
use Rattle.dispenser_rules.specs.declared.session.Session.{Session}
use Rattle.dispenser_rules.specs.Step.{Step}
use Rattle.dispenser_rules.specs.declared.session.Closing.TheVariants.{Nothing}
use Rattle.dispenser_rules.specs.Reply.{Done}
use Rattle.refusals.specs.Put.{over}
use Rattle.ccnet_frame.specs.Frame.{frame}
use Rattle.ccnet_class.specs.declared.Class.{Class}
use Rattle.ccnet_class.specs.declared.Class.TheVariants.{Ack, Nak, Illegal, State, Busy, Rejecting, Failing, Escrow, Stacked, Returned, Unknown, Table}
use Rattle.validator_rules.specs.Bills.{booked_by}
use Rattle.validator_rules.specs.Line.{opened as taker_opened, heard as taker_heard, passed as taker_passed}
use Rattle.validator_rules.specs.Session.{After as TakerAfter, StepAfter as TakerStepAfter, LentAfter, HeardAfter, step_after as taker_step_after, lent_after, heard_after, stepped as taker_stepped, refused_step as taker_refused, found, table_found, damaged_step, answered_step, class_step, judged_step as taker_judged, judge_step as taker_judge, acted as taker_acted, byte_acted as taker_byte_acted, byte_refusals as taker_byte_refusals, byte_step as taker_byte_step, tick_refusals as taker_tick_refusals, tick_step as taker_tick_step, request_refusals as taker_request_refusals, request_step as taker_request_step, session_request as taker_request, session_byte as taker_byte, session_tick as taker_tick}
use Rattle.validator_rules.specs.declared.line.Heard.{Heard as TakerHeard}
use Rattle.validator_rules.specs.declared.line.Heard.TheVariants.{Skip, Keep as TakerKeep, Judge as TakerJudge, Wrong}
use Rattle.validator_rules.specs.declared.line.Line.{Line as TakerLine}
use Rattle.validator_rules.specs.declared.line.Todo.{Todo as TakerTodo}
use Rattle.validator_rules.specs.declared.line.Todo.TheVariants.{Nothing as TakerRest, CloseDamaged, CloseSilent}
use Rattle.validator_rules.specs.declared.session.Closing.TheVariants.{Nothing as TakerNothing}
use Rattle.validator_rules.specs.Found.{Found}
use Rattle.validator_rules.specs.Found.{Bad, Good}
use Rattle.validator_rules.specs.Outcome.{Outcome as TakerOutcome}
use Rattle.validator_rules.specs.declared.session.Session.{Session as Taker}
use Rattle.validator_rules.specs.declared.session.Step.{Step as TakerStep}

-- ---- of what was judged, f is what does not tell the room

cond_same : {A C : Type 0} (f : A → C) (t : Bool) (a b c d : A) → f a ≡ f c → f b ≡ f d → f (cond t a b) ≡ f (cond t c d)
cond_same f true a b c d x y = x
cond_same f false a b c d x y = y

judged-same : {A B C : Type 0} (f : A → C) (rs : List (Rule B)) (refuse turn : B → A) (done made : A)
    → ((why : B) → f (refuse why) ≡ f (turn why)) → f done ≡ f made → f (judged rs refuse done) ≡ f (judged rs turn made)
judged-same f [] refuse turn done made x y = y
judged-same f (r ∷ rs) refuse turn done made x y =
    cond_same f r.when.test (refuse r.gives) (judged rs refuse done) (turn r.gives) (judged rs turn made) (x r.gives)
    (judged-same f rs refuse turn done made x y)

-- in the rooms r and q
roomed : {A B C : Type 0} (f : A → C) (r q : List ℕ) (rules : List ℕ → List (Rule B)) (refuse : List ℕ → B → A) (done : List ℕ → A) → rules r ≡ rules q
    → ((why : B) → f (refuse r why) ≡ f (refuse q why)) → f (done r) ≡ f (done q) → f (judged (rules r) (refuse r) (done r)) ≡ f (judged (rules q) (refuse q) (done q))
roomed {B = B} f r q rules refuse done e x y =
    ap (λ (rs : List (Rule B)). f (judged rs (refuse r) (done r))) e ∙ judged-same f (rules q) (refuse r) (refuse q) (done r) (done q) x y

-- ---- the dispenser session

-- what a step leaves but for the room
abbrev bare : StepAfter → Step
bare w = record { line = w.line; reply = w.reply }

pub record Kept : Type 0 where
  pub step : Step
  pub store : List ℕ

abbrev kept : ByteAfter → Kept
kept w = record { step = bare w.step; store = w.store }

abbrev opened : OpeningAfter → Opening
opened w = record { line = w.line; asked = w.asked; reply = w.reply }

abbrev pub outcome : After → Outcome
outcome w = record { session = w.session; reply = w.reply }

module _ (r q : List ℕ) (e : length r ≡ length q) where
  put_same : (a : Asked) → (hand_over a r).put ≡ (hand_over a q).put
  unfolding hand_over write_command command_refusals
  put_same a =
      roomed (λ (w : Written). bytes_put w.answer) r q (command_refusals a.code a.upper a.lower) (λ z why. refused why z)
      (laid (command_frame a.code a.upper a.lower)) (rw e) (λ why. refl) refl

  acted-same : (t : Todo) (l : Line) (a : Asked) → bare (acted t l a r) ≡ bare (acted t l a q)
  acted-same Rest l a = refl
  acted-same HandOver l a = rw (put_same a)
  acted-same Nak l a = refl
  acted-same LastNak l a = refl
  acted-same CloseRefused l a = refl
  acted-same CloseUnknown l a = refl

  bad-same : (l : Line) (a : Asked) → bare (bad_step l a r) ≡ bare (bad_step l a q)
  unfolding bad_step
  bad-same l a = acted-same (bad_frame l).todo (bad_frame l).line a

  judged-step-same : (x : AnswerRead) (l : Line) (a : Asked) → bare (judged_step x l a r) ≡ bare (judged_step x l a q)
  judged-step-same (Ok read) l a = cond_same bare (eqb (answer_code read.answer) a.code) _ (bad_step l a r) _ (bad_step l a q) refl (bad-same l a)
  judged-step-same (NotRead fault) l a = bad-same l a

  judge-same : (l : Line) (a : Asked) (store : List ℕ) → bare (judge_step l a store r) ≡ bare (judge_step l a store q)
  unfolding judge_step
  judge-same l a store = judged-step-same (read_answer (take a.span store)) l a

  byte-acted-same : (h : Heard) (l : Line) (a : Asked) (store : List ℕ) (at b : ℕ) → kept (byte_acted h l a store at b r) ≡ kept (byte_acted h l a store at b q)
  byte-acted-same Keep l a store at b = refl
  byte-acted-same Judge l a store at b = rw (judge-same l a (set store at b))
  byte-acted-same (Do t) l a store at b = rw (acted-same t l a)

  byte-same : (l : Line) (a : Asked) (store : List ℕ) (b : ℕ) → kept (byte_step l a store b r) ≡ kept (byte_step l a store b q)
  unfolding byte_step byte_refusals
  byte-same l a store b =
      let h = heard l a.span b in
      roomed kept r q byte_refusals (λ z why. byte_after (refused_step l why) store z) (byte_acted h.heard h.line a store l.gathered b) (rw e) (λ why. refl)
      (byte-acted-same h.heard h.line a store l.gathered b)

  tick-same : (l : Line) (a : Asked) (ms : ℕ) → bare (tick_step l a ms r) ≡ bare (tick_step l a ms q)
  unfolding tick_step tick_refusals
  tick-same l a ms =
      roomed bare r q (tick_refusals ms) (λ z why. step_after (refused_step l why) z) (acted (passed l ms).todo (passed l ms).line a) (rw e) (λ why. refl)
      (acted-same (passed l ms).todo (passed l ms).line a)

  request-same : (l : Line) (a : Asked) (code upper lower : ℕ) → opened (request_step l a code upper lower r) ≡ opened (request_step l a code upper lower q)
  unfolding request_step request_refusals
  request-same l a code upper lower =
      let c = command code upper lower in
      roomed opened r q (request_refusals l code upper lower) (λ z why. opening_after (refused_opening l a why) z)
      (λ z. record { line = taken l (l.accepted + 1); asked = c; reply = Done (hand_over c z).put Nothing; room = (hand_over c z).room })
      (rw e) (λ why. refl) (rw (put_same c))

  pub session-request : (s : Session) (code upper lower : ℕ) → outcome (session_request s code upper lower r) ≡ outcome (session_request s code upper lower q)
  unfolding session_request
  session-request s code upper lower =
      ap (λ (w : Opening). record {
        session = record { line = w.line; asked = w.asked; account = account_asked s.account w.asked w.line.handed w.reply; store = s.store };
        reply = w.reply;
      }) (request-same s.line s.asked code upper lower)

  pub session-byte : (s : Session) (b : ℕ) → outcome (session_byte s b r) ≡ outcome (session_byte s b q)
  unfolding session_byte
  session-byte s b =
      ap (λ (w : Kept). record {
        session = record { line = w.step.line; asked = s.asked; account = account_heard s.account s.asked w.step.line.handed w.step.reply; store = w.store };
        reply = w.step.reply;
      }) (byte-same s.line s.asked s.store b)

  pub session-tick : (s : Session) (ms : ℕ) → outcome (session_tick s ms r) ≡ outcome (session_tick s ms q)
  unfolding session_tick
  session-tick s ms =
      ap (λ (w : Step). record {
        session = record { line = w.line; asked = s.asked; account = account_heard s.account s.asked w.line.handed w.reply; store = s.store };
        reply = w.reply;
      }) (tick-same s.line s.asked ms)

-- ---- the validator session

-- what a step leaves but for the room
record Lent : Type 0 where
  step : TakerStep
  store : List ℕ

abbrev lent : LentAfter → Lent
lent w = record { step = w.step; store = w.store }

-- and what a byte leaves, which may bring a bill table
record Brought : Type 0 where
  kept : Lent
  table : List ℕ

abbrev brought : HeardAfter → Brought
brought w = record { kept = lent w.lent; table = w.table }

abbrev pub taker_outcome : TakerAfter → TakerOutcome
taker_outcome w = record { session = w.session; reply = w.reply }

module _ (r q : List ℕ) (e : length r ≡ length q) where
  damaged-same : (l : TakerLine) → lent (damaged_step l r) ≡ lent (damaged_step l q)
  unfolding damaged_step
  damaged-same l = refl

  class_same : (c : Class) (l : TakerLine) → lent (class_step c l r) ≡ lent (class_step c l q)
  unfolding answered_step
  class_same Ack l = refl
  class_same Nak l = refl
  class_same Illegal l = refl
  class_same (State b) l = refl
  class_same (Busy b) l = refl
  class_same (Rejecting b) l = refl
  class_same (Failing b) l = refl
  class_same (Escrow y) l = refl
  class_same (Stacked y) l = refl
  class_same (Returned y) l = refl
  class_same Unknown l = refl
  class_same Table l = refl

  found-same : (f : Found) (l : TakerLine) → lent (taker_judged f l r) ≡ lent (taker_judged f l q)
  found-same Bad l = damaged-same l
  found-same (Good c) l = class_same c l

  taker-judge-same : (l : TakerLine) (n : ℕ) (store table : List ℕ) → brought (taker_judge l n store table r) ≡ brought (taker_judge l n store table q)
  unfolding taker_judge
  taker-judge-same l n store table =
      let f = found l.code (take n store) in
      ap (λ (w : Lent). record { kept = w; table = table_found f (take n store) table }) (found-same f l)

  taker-acted-same : (t : TakerTodo) (l : TakerLine) (store : List ℕ) → lent (taker_acted t l store r) ≡ lent (taker_acted t l store q)
  taker-acted-same TakerRest l store = refl
  taker-acted-same CloseDamaged l store = damaged-same l
  taker-acted-same CloseSilent l store = refl

  taker-heard-same : (h : TakerHeard) (l : TakerLine) (n : ℕ) (store table : List ℕ) (at b : ℕ)
      → brought (taker_byte_acted h l n store table at b r) ≡ brought (taker_byte_acted h l n store table at b q)
  taker-heard-same Skip l n store table at b = refl
  taker-heard-same TakerKeep l n store table at b = refl
  taker-heard-same TakerJudge l n store table at b = taker-judge-same l n (set store at b) table
  taker-heard-same Wrong l n store table at b = ap (λ (w : Lent). record { kept = w; table = table }) (damaged-same l)

  taker-byte-same : (l : TakerLine) (store table : List ℕ) (b : ℕ) → brought (taker_byte_step l store table b r) ≡ brought (taker_byte_step l store table b q)
  unfolding taker_byte_step taker_byte_refusals
  taker-byte-same l store table b =
      let h = taker_heard l b in
      roomed brought r q taker_byte_refusals (λ z why. heard_after (lent_after (taker_refused l why) store z) table) (taker_byte_acted h.heard h.line l.length store table l.gathered b) (rw e)
      (λ why. refl) (taker-heard-same h.heard h.line l.length store table l.gathered b)

  taker-tick-same : (l : TakerLine) (store : List ℕ) (ms : ℕ) → lent (taker_tick_step l store ms r) ≡ lent (taker_tick_step l store ms q)
  unfolding taker_tick_step taker_tick_refusals
  taker-tick-same l store ms =
      let w = taker_passed l ms in
      roomed lent r q (taker_tick_refusals ms) (λ z why. lent_after (taker_refused l why) store z) (taker_acted w.todo w.line store) (rw e) (λ why. refl)
      (taker-acted-same w.todo w.line store)

  taker-request-same : (l : TakerLine) (code : ℕ) (given : List ℕ) → (taker_request_step l code given r).step ≡ (taker_request_step l code given q).step
  unfolding taker_request_step taker_request_refusals
  taker-request-same l code given =
      let f = frame 0x03 (code ∷ given) in
      roomed (λ (w : TakerStepAfter). w.step) r q (taker_request_refusals l code given) (λ z why. taker_step_after (taker_refused l why) z)
      (λ z. taker_step_after (taker_stepped (taker_opened l code (l.accepted + 1)) (length f) TakerNothing) (over f z)) (rw e) (λ why. refl) refl

  pub taker-request : (s : Taker) (code : ℕ) (given : List ℕ) → taker_outcome (taker_request s code given r) ≡ taker_outcome (taker_request s code given q)
  unfolding taker_request
  taker-request s code given =
      ap (λ (w : TakerStep). record { session = record { line = w.line; bills = s.bills; store = s.store; table = s.table }; reply = w.reply }) (taker-request-same s.line code given)

  pub taker-byte : (s : Taker) (b : ℕ) → taker_outcome (taker_byte s b r) ≡ taker_outcome (taker_byte s b q)
  unfolding taker_byte
  taker-byte s b =
      ap (λ (w : Brought). record {
        session = record { line = w.kept.step.line; bills = booked_by s.bills w.kept.step.bill; store = w.kept.store; table = w.table };
        reply = w.kept.step.reply;
      }) (taker-byte-same s.line s.store s.table b)

  pub taker-tick : (s : Taker) (ms : ℕ) → taker_outcome (taker_tick s ms r) ≡ taker_outcome (taker_tick s ms q)
  unfolding taker_tick
  taker-tick s ms =
      ap (λ (w : Lent). record { session = record { line = w.step.line; bills = booked_by s.bills w.step.bill; store = w.store; table = s.table }; reply = w.step.reply })
      (taker-tick-same s.line s.store ms)
