-- The session of the Model 2000T is the shared session over its unit: each call, as it stands in the contracts, is that call. Assumes nothing.
use Rattle.std.specs.Prelude.{Ok}
use Prim.Native.Nat.{ℕ}
use mathlib.Core.Path.{◌≡◌, refl, sym, ap, ◌∙◌, subst}
use mathlib.Core.Bool.{Bool, true, false, cond}
use mathlib.Core.List.{List, [], ◌∷◌}
use lib.Dec.{eqb}
use lib.ListN.{set, take}
use Rattle.refusals.specs.Rules.{Rule, judged}
use Rattle.refusals.proofs.Rules.{either_way}
use Rattle.ledger.specs.Account.{Ending, answered, refused, unknown}
use Rattle.ledger.specs.Calls.{After as AfterCall, gave, did}
use Rattle.dispenser_frame_rules.specs.Table.{answer_length}
use Rattle.dispenser_frame_rules.specs.Answer.{answer_code, read_answer}
use Rattle.dispenser_frame_rules.specs.AnswerRead.{AnswerRead}
use Rattle.dispenser_frame_rules.specs.AnswerRead.{Refused as NotRead}
use Rattle.exchange_rules.specs.Limits.{quiet}
use Rattle.exchange_rules.specs.Exchange.{heard, bad_frame, passed, closed, ends}
use Rattle.ledger.specs.Told.{good, bad, by_refusal, by_doubt, ending as plain-ending}
use Rattle.exchange_rules.specs.Machine.{Box, left}
use Rattle.exchange_rules.specs.Owed.{saying, Session as SessionOver}
use Rattle.exchange_rules.specs.Machine as machine
use Rattle.exchange_rules.proofs.Closings.{Shut, ShutIn, bad-shut, heard-shut, passed-shut}
use Rattle.exchange_rules.specs.declared.line.Line.{Line}
use Rattle.exchange_rules.specs.declared.line.Todo.{Todo}
use Rattle.exchange_rules.specs.declared.line.Todo.TheVariants.{Nothing as Rest, HandOver, Nak, LastNak, CloseRefused, CloseUnknown}
use Rattle.exchange_rules.specs.declared.line.Heard.{Heard}
use Rattle.exchange_rules.specs.declared.line.Heard.TheVariants.{Keep, Judge, Do}
use Rattle.dispenser_rules.specs.Session.{pays, clear_refusals, clear_step, session_clear, StepAfter, ByteAfter, OpeningAfter, After, opening_after, refused_opening, byte_after, step_after, refused_step, done_after, acted, bad_step, judged_step, judge_step, byte_acted, byte_refusals, tick_refusals, request_refusals, byte_step, tick_step, request_step, booked_by, account_asked, account_heard, session_request, session_byte, session_tick}
use Rattle.dispenser_rules.specs.Calls.{Call, request, byte, tick, clear, called, Request, deed, returned, ending, host}
use Rattle.dispenser_rules.specs.Unit.{Good, asked_of, verdict, unit, request_of, box, means, lent, plain_closing}
use Rattle.dispenser_rules.specs.declared.account.Account.{Account}
use Rattle.dispenser_rules.specs.declared.account.Cassettes.{Cassettes}
use Rattle.dispenser_rules.specs.declared.session.Asked.{Asked}
use Rattle.dispenser_rules.specs.declared.session.Closing.{Closing}
use Rattle.dispenser_rules.specs.declared.session.Closing.TheVariants.{Nothing, Answered, Refused, Unknown}
use Rattle.dispenser_rules.specs.Reply.{Reply}
use Rattle.dispenser_rules.specs.Reply.{NotDone, Done}
use Rattle.dispenser_rules.specs.declared.session.Session.{Session}
use Rattle.dispenser_rules.specs.Step.{Step}

-- ---- what the shared session has of it

abbrev pub plain-reply : Reply → machine.Reply Good
plain-reply (NotDone why) = gave why
plain-reply (Ok effect) = did effect.put (plain_closing effect.closing)

abbrev pub plain-after : After → AfterCall (Box Request Cassettes) (machine.Reply Good)
plain-after w = record { session = box w.session; reply = plain-reply w.reply; room = w.room }

abbrev pub plain_step : StepAfter → machine.StepAfter Good
plain_step w = record { line = w.line; reply = plain-reply w.reply; room = w.room }

-- a call that is judged by rules, seen through a function
through : {A B D : Type 0} (g : A → D) (rs : List (Rule B)) (f : B → A) (x : A) → g (judged rs f x) ≡ judged rs (λ why. g (f why)) (g x)
through g [] f x = refl
through g (r ∷ rs) f x = go r.when.test (through g rs f x)
  where
    go : (t : Bool) → g (judged rs f x) ≡ judged rs (λ why. g (f why)) (g x)
        → g (cond t (f r.gives) (judged rs f x)) ≡ cond t (g (f r.gives)) (judged rs (λ why. g (f why)) (g x))
    go true e = refl
    go false e = e

-- ---- steps

module _ (q : Request) (r : List ℕ) where
  abbrev a : Asked
  a = asked_of q

  -- the line at a closing
  abbrev counting : Ending → Line → Line
  counting end m = ends m (pays q.code) end

  acted-same : (t : Todo) (l : Line) → Shut t l → plain_step (acted t l a r) ≡ machine.acted unit t l q r
  acted-same Rest l e = refl
  acted-same HandOver l e = refl
  acted-same Nak l e = refl
  acted-same LastNak l e = ap (λ (m : Line). machine.done_after (counting unknown m) 1 by_doubt (set r 0 0x15)) (sym e)
  acted-same CloseRefused l e = ap (λ (m : Line). machine.done_after (counting refused m) 0 by_refusal r) (sym e)
  acted-same CloseUnknown l e = ap (λ (m : Line). machine.done_after (counting unknown m) 0 by_doubt r) (sym e)

  bad-same : (l : Line) → plain_step (bad_step l a r) ≡ machine.bad_step unit l q r
  unfolding bad_step machine.bad_step
  bad-same l = acted-same (bad_frame l).todo (bad_frame l).line (bad-shut l)

  judged-same : (y : AnswerRead) (l : Line) → plain_step (judged_step y l a r) ≡ machine.judged_step unit (verdict q.code y) l q r
  judged-same (Ok read) l = go (eqb (answer_code read.answer) q.code)
    where
      go : (t : Bool)
          → plain_step (cond t (done_after (ends (closed l quiet) (pays q.code) answered) 1 (Answered read.answer read.class) (set r 0 0x06)) (bad_step l a r))
          ≡ machine.judged_step unit (cond t (good (record { answer = read.answer; class = read.class })) bad) l q r
      go true = refl
      go false = bad-same l
  judged-same (NotRead fault) l = bad-same l

  -- a byte's step with its store
  abbrev plain_byte : ByteAfter → machine.ByteAfter Good
  plain_byte w = record { step = plain_step w.step; store = w.store }

  byte-same : (t : Heard) (l : Line) (store : List ℕ) (at b : ℕ) → ShutIn t l → plain_byte (byte_acted t l a store at b r) ≡ machine.byte_acted unit t l q store at b r
  unfolding judge_step machine.judge_step
  byte-same Keep l store at b e = refl
  byte-same Judge l store at b e = ap (λ (w : machine.StepAfter Good). record { step = w; store = set store at b }) (judged-same (read_answer (take (answer_length q.code) (set store at b))) l)
  byte-same (Do t) l store at b e = ap (λ (w : machine.StepAfter Good). record { step = w; store = store }) (acted-same t l e)

-- ---- the three calls

-- the sums are booked alike
booked-done : (x : Cassettes) (q : Request) (n : ℕ) (c : Closing) → booked_by x (asked_of q) (Done n c) ≡ machine.booked_by unit x q (plain-reply (Done n c))
booked-done x q n Nothing = refl
booked-done x q n (Answered answer class) = refl
booked-done x q n Refused = refl
booked-done x q n Unknown = refl

booked-same : (x : Cassettes) (q : Request) (p : Reply) → booked_by x (asked_of q) p ≡ machine.booked_by unit x q (plain-reply p)
booked-same x q (NotDone why) = refl
booked-same x q (Ok effect) = booked-done x q effect.put effect.closing

-- the length of the answer that is kept is the code's
abbrev pub Keeps : Session → Type 0
Keeps s = s.asked.span ≡ answer_length s.asked.code

-- a session whose command is said by its request
abbrev with : Line → Request → Account → List ℕ → Session
with l q x store = record { line = l; asked = asked_of q; account = x; store = store }

module _ (l : Line) (q : Request) (x : Account) (store : List ℕ) where
  abbrev s : Session
  s = with l q x store

  -- after a step
  abbrev after-step : ByteAfter → After
  after-step w =
      record {
        session = record { line = w.step.line; asked = asked_of q; account = account_heard x (asked_of q) w.step.line.handed w.step.reply; store = w.store };
        reply = w.step.reply;
        room = w.step.room;
      }

  step_same : (r : List ℕ) (w : ByteAfter) (v : machine.ByteAfter Good) → plain_byte q r w ≡ v → plain-after (after-step w) ≡ machine.of_step unit (box s) v
  unfolding account_heard
  step_same r w v e =
      ap (λ (y : Cassettes). record { session = record { line = w.step.line; asks = q; account = y; store = w.store }; reply = plain-reply w.step.reply; room = w.step.room })
      (booked-same x.cassettes q w.step.reply)
      ∙ ap (machine.of_step unit (box s)) e

  request-same : (code upper lower : ℕ) (r : List ℕ)
      → plain-after (session_request s code upper lower r) ≡ machine.called-request unit (box s) (record { code = code; upper = upper; lower = lower }) r
  unfolding session_request request_step request_refusals account_asked machine.called-request machine.request_refusals
  request-same code upper lower r =
      through
      (λ (w : OpeningAfter). plain-after (record { session = record { line = w.line; asked = w.asked; account = account_asked x w.asked w.line.handed w.reply; store = store }; reply = w.reply; room = w.room }))
      (request_refusals l code upper lower r) (λ why. opening_after (refused_opening l (asked_of q) why) r) _

  heard-same : (b : ℕ) (r : List ℕ) → plain-after (session_byte s b r) ≡ machine.called-byte unit (box s) b r
  unfolding session_byte byte_step byte_refusals account_heard machine.called-byte machine.byte_refusals machine.heard_step
  heard-same b r =
      let t = heard l (answer_length q.code) b in
      through (λ (w : ByteAfter). plain-after (after-step w)) (byte_refusals r) (λ why. byte_after (refused_step l why) store r) _
      ∙ ap (λ (w : AfterCall (Box Request Cassettes) (machine.Reply Good)). judged (byte_refusals r) (left unit (box s) r) w)
      (step_same r (byte_acted t.heard t.line (asked_of q) store l.gathered b r) _ (byte-same q r t.heard t.line store l.gathered b (heard-shut l (answer_length q.code) b)))

  passed-same : (ms : ℕ) (r : List ℕ) → plain-after (session_tick s ms r) ≡ machine.called-tick unit (box s) ms r
  unfolding session_tick tick_step tick_refusals account_heard machine.called-tick machine.tick_refusals
  passed-same ms r =
      let t = passed l ms in
      through (λ (w : StepAfter). plain-after (after-step (record { step = w; store = store }))) (tick_refusals ms r) (λ why. step_after (refused_step l why) r) _
      ∙ ap (λ (w : AfterCall (Box Request Cassettes) (machine.Reply Good)). judged (tick_refusals ms r) (left unit (box s) r) w)
      (step_same r (record { step = acted t.todo t.line (asked_of q) r; store = store }) _
      (ap (λ (w : machine.StepAfter Good). record { step = w; store = store }) (acted-same q r t.todo t.line (passed-shut l ms))))

  clear-same : plain-after (session_clear s) ≡ machine.called-clear unit (box s)
  unfolding session_clear clear_step clear_refusals machine.called-clear machine.clear_refusals
  clear-same =
      through (λ (w : Step). plain-after (record { session = record { line = w.line; asked = asked_of q; account = x; store = store }; reply = w.reply; room = [] }))
      (clear_refusals l) (refused_step l) _

  called_same : (c : Call) → plain-after (called s c) ≡ machine.called unit (box s) (means c)
  called_same (request code upper lower r) = request-same code upper lower r
  called_same (byte b r) = heard-same b r
  called_same (tick ms r) = passed-same ms r
  called_same clear = clear-same

-- a session that keeps it is such a one
kept-with : (s : Session) → Keeps s → with s.line (request_of s.asked) s.account s.store ≡ s
kept-with s e = λ i. record { line = s.line; asked = record { code = s.asked.code; upper = s.asked.upper; lower = s.asked.lower; span = sym e i }; account = s.account; store = s.store }

pub session-same : (s : Session) (c : Call) → Keeps s → plain-after (called s c) ≡ machine.called unit (box s) (means c)
session-same s c e =
    subst (λ (x : Session). plain-after (called x c) ≡ machine.called unit (box x) (means c)) (kept-with s e)
    (called_same s.line (request_of s.asked) s.account s.store c)

-- what a call returned, its deed and its room are the same
pub saying-same : (p : Reply) → saying plain_closing (returned p) ≡ plain-reply p
saying-same (NotDone why) = refl
saying-same (Ok effect) = refl

pub deed-same : (c : Call) → deed c ≡ machine.deed (means c)
deed-same (request code upper lower r) = refl
deed-same (byte b r) = refl
deed-same (tick ms r) = refl
deed-same clear = refl

pub lent_same : (c : Call) → lent c ≡ machine.lent (means c)
lent_same (request code upper lower r) = refl
lent_same (byte b r) = refl
lent_same (tick ms r) = refl
lent_same clear = refl

pub ending-same : (c : Closing) → ending c ≡ plain-ending (plain_closing c)
ending-same Nothing = refl
ending-same (Answered answer class) = refl
ending-same Refused = refl
ending-same Unknown = refl

pub keeps-next : (s : Session) (c : Call) → Keeps s → Keeps (called s c).session
unfolding session_request request_step session_byte session_tick session_clear
keeps-next s (request code upper lower r) e =
    either_way (λ (w : OpeningAfter). w.asked.span ≡ answer_length w.asked.code) (request_refusals s.line code upper lower r)
    (λ why. opening_after (refused_opening s.line s.asked why) r) _ (λ why. e) (λ n. refl)
keeps-next s (byte b r) e = e
keeps-next s (tick ms r) e = e
keeps-next s clear e = e

abbrev pub session : SessionOver unit host
session =
    record {
      keeps = Keeps;
      box = box;
      means = λ s c. means c;
      says = plain_closing;
      lends = lent;
      kept = keeps-next;
      same = λ s c e k. ap (λ w. w.session) (session-same s c e);
      answers = λ s c e k. saying-same (called s c).reply ∙ ap (λ w. w.reply) (session-same s c e);
      room = λ s c e k. ap (λ w. w.room) (session-same s c e);
      deeds = λ s c. deed-same c;
      rooms = λ s c. lent_same c;
      endings = ending-same;
    }
