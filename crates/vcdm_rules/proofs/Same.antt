-- The session of the four-cassette unit is the shared session over its unit, its serial apart: each call, as it stands in the contracts, is that call. Assumes nothing.
use Rattle.vcdm_rules.specs.declared.session.Closing.{Closing}
use Rattle.std.specs.Prelude.{Ok}
use Prim.Native.Nat.{ℕ}
use mathlib.Core.Path.{◌≡◌, refl, sym, ap, ◌∙◌, subst}
use mathlib.Core.Bool.{Bool, true, false, cond, and-true, and-false}
use mathlib.Core.List.{List, [], ◌∷◌}
use native.Mathlib.Omega.{arith}
use lib.Dec.{eqb, leb, lit≤}
use lib.ListN.{set, take}
use Rattle.refusals.specs.Rules.{Rule, judged, same, under, within}
use Rattle.refusals.proofs.Rules.{either_way, holds-true, pick}
use Rattle.ledger.specs.Calls.{After as AfterCall, gave, did}
use Rattle.ledger.specs.Told.{ending as plain-ending}
use Rattle.vcdm_frame_rules.specs.Table.{line, answer_length}
use Rattle.vcdm_frame_rules.specs.Command.{serial_fits, askable, sendable}
use Rattle.vcdm_frame_rules.specs.Answer.{read_answer}
use Rattle.vcdm_frame_rules.specs.declared.command.Counts.{Counts}
use Rattle.vcdm_frame_rules.specs.declared.answer.Answer.{Answer}
use Rattle.vcdm_frame_rules.specs.AnswerRead.{AnswerRead}
use Rattle.vcdm_frame_rules.specs.AnswerRead.{Read, Refused as NotRead}
use Rattle.vcdm_frame_rules.proofs.Codes.{asks-notes}
use Rattle.exchange_rules.specs.Exchange.{heard, bad_frame, passed}
use Rattle.exchange_rules.specs.Machine.{Box, left}
use Rattle.exchange_rules.specs.Owed.{saying, Session as SessionOver}
use Rattle.exchange_rules.specs.Machine as machine
use Rattle.exchange_rules.specs.declared.line.Line.{Line}
use Rattle.exchange_rules.specs.declared.line.Todo.{Todo}
use Rattle.exchange_rules.specs.declared.line.Todo.TheVariants.{Nothing as Rest, HandOver, Nak, LastNak, CloseRefused, CloseUnknown}
use Rattle.exchange_rules.specs.declared.line.Heard.{Heard}
use Rattle.exchange_rules.specs.declared.line.Heard.TheVariants.{Keep, Judge, Do}
use Rattle.vcdm_rules.specs.Session.{StepAfter, ByteAfter, OpeningAfter, opening_after, refused_opening, byte_after, step_after, refused_step, following, serial_for, serial_after, serial_left, serial_closed, acted, bad_step, finding, found_step, judged_step, judge_step, byte_acted, byte_refusals, tick_refusals, request_refusals, byte_step, tick_step, request_step, booked_by, request_booked, session_request, session_byte, session_tick}
use Rattle.vcdm_rules.specs.Calls.{Call, request, byte, tick, Request, Counted, counted_by, called_counted, deed, returned, ending, host}
use Rattle.vcdm_rules.specs.Unit.{asked_of, plain_finding, verdict, unit, request_of, box, means, lent, plain_closing}
use Rattle.vcdm_rules.specs.declared.account.Account.{Account}
use Rattle.vcdm_rules.specs.declared.session.Asked.{Asked}
use Rattle.vcdm_rules.specs.declared.session.Finding.{Finding}
use Rattle.vcdm_rules.specs.declared.session.Finding.TheVariants.{Bad, Good, Void}
use Rattle.vcdm_rules.specs.declared.session.Closing.{Closing}
use Rattle.vcdm_rules.specs.declared.session.Closing.TheVariants.{Nothing, Answered, Refused, Unknown}
use Rattle.vcdm_rules.specs.Reply.{Reply}
use Rattle.vcdm_rules.specs.Reply.{NotDone, Done}

-- ---- what the shared session has of it

abbrev pub plain-reply : Reply → machine.Reply Answer
plain-reply (NotDone why) = gave why
plain-reply (Ok effect) = did effect.put (plain_closing effect.closing)

abbrev pub plain-after : AfterCall Counted Reply → AfterCall (Box Request Account) (machine.Reply Answer)
plain-after w = record { session = box w.session; reply = plain-reply w.reply; room = w.room }

abbrev plain_step : StepAfter → machine.StepAfter Answer
plain_step w = record { line = w.line; reply = plain-reply w.reply; room = w.room }

-- a call that is judged by rules, seen through a function
through : {A B D : Type 0} (g : A → D) (rs : List (Rule B)) (f : B → A) (x : A) → g (judged rs f x) ≡ judged rs (λ why. g (f why)) (g x)
through g [] f x = refl
through g (r ∷ rs) f x = go r.when.test (through g rs f x)
  where
    go : (t : Bool) → g (judged rs f x) ≡ judged rs (λ why. g (f why)) (g x)
        → g (cond t (f r.gives) (judged rs f x)) ≡ cond t (g (f r.gives)) (judged rs (λ why. g (f why)) (g x))
    go true e = refl
    go false e = e

-- ---- the serial

-- it stays 21h to 7Fh
abbrev pub Fits : ℕ → Type 0
Fits s = (within 0x21 0x7F s).holds

pub following-fits : (s : ℕ) → Fits s → Fits (following s)
unfolding following
following-fits s h = pick Fits (under s 0x7F) _ _ (λ u. (omega arith, omega arith)) (λ n. (lit≤ tt, lit≤ tt))

after-fits : (code s : ℕ) → Fits s → Fits (serial_after code s)
unfolding serial_after
after-fits code s h = pick Fits (same code 0x52) _ _ (λ e. following-fits s h) (λ n. h)

-- whatever a byte or a tick answered, the next one stays
closed-serial : (c : Closing) (own s : ℕ) → serial_closed c own s ≡ s
closed-serial Nothing own s = refl
closed-serial (Answered answer) own s = refl
closed-serial Refused own s = refl
closed-serial Unknown own s = refl

pub left_serial : (p : Reply) (own s : ℕ) → serial_left p own s ≡ s
left_serial (NotDone why) own s = refl
left_serial (Ok effect) own s = closed-serial effect.closing own s

-- so it never stands in the way: what can be asked can be sent
serial-fits : (code s : ℕ) → Fits s → (serial_fits (line code).asks (serial_for code s)).test ≡ true
unfolding serial_for
serial-fits code s h = rw (asks-notes code) (go (eqb code 0x52))
  where
    go : (t : Bool) → (serial_fits t (cond t s 0)).test ≡ true
    go true = holds-true (within 0x21 0x7F s) h
    go false = refl

pub sent-asked : (code : ℕ) (n : Counts) (s : ℕ) → Fits s → (sendable code n (serial_for code s)).test ≡ (askable code n).test
unfolding sendable askable
sent-asked code n s h = rw (serial-fits code s h) (simp and-true)

-- ---- steps

module _ (q : Request) (r : List ℕ) where
  abbrev a : Asked
  a = asked_of q

  acted-same : (t : Todo) (l : Line) → plain_step (acted t l a r) ≡ machine.acted unit t l q r
  acted-same Rest l = refl
  acted-same HandOver l = refl
  acted-same Nak l = refl
  acted-same LastNak l = refl
  acted-same CloseRefused l = refl
  acted-same CloseUnknown l = refl

  bad-same : (l : Line) → plain_step (bad_step l a r) ≡ machine.bad_step unit l q r
  unfolding bad_step machine.bad_step
  bad-same l = acted-same (bad_frame l).todo (bad_frame l).line

  found-same : (f : Finding) (x : Answer) (l : Line) → plain_step (found_step f x l a r) ≡ machine.judged_step unit (plain_finding f x) l q r
  found-same Bad x l = bad-same l
  found-same Good x l = refl
  found-same Void x l = refl

  judged-same : (y : AnswerRead) (l : Line) → plain_step (judged_step y l a r) ≡ machine.judged_step unit (verdict q y) l q r
  judged-same (Read x) l = found-same (finding q.code q.serial x) x l
  judged-same (NotRead fault) l = bad-same l

  -- a byte's step with its store
  abbrev plain_byte : ByteAfter → machine.ByteAfter Answer
  plain_byte w = record { step = plain_step w.step; store = w.store }

  byte-same : (t : Heard) (l : Line) (store : List ℕ) (at b : ℕ) → plain_byte (byte_acted t l a store at b r) ≡ machine.byte_acted unit t l q store at b r
  unfolding judge_step machine.judge_step
  byte-same Keep l store at b = refl
  byte-same Judge l store at b =
      ap (λ (w : machine.StepAfter Answer). record { step = w; store = set store at b }) (judged-same (read_answer (take (answer_length q.code) (set store at b))) l)
  byte-same (Do t) l store at b = ap (λ (w : machine.StepAfter Answer). record { step = w; store = store }) (acted-same t l)

-- ---- the three calls

-- the account is booked alike
booked-done : (x : Account) (q : Request) (n : ℕ) (c : Closing) → booked_by x (asked_of q) (Done n c) ≡ machine.booked_by unit x q (plain-reply (Done n c))
booked-done x q n Nothing = refl
booked-done x q n (Answered answer) = refl
booked-done x q n Refused = refl
booked-done x q n Unknown = refl

booked-same : (x : Account) (q : Request) (p : Reply) → booked_by x (asked_of q) p ≡ machine.booked_by unit x q (plain-reply p)
booked-same x q (NotDone why) = refl
booked-same x q (Ok effect) = booked-done x q effect.put effect.closing

-- a session whose command is said by its request, and whose serial its caller counts
abbrev with : Line → Request → Account → List ℕ → ℕ → Counted
with l q x store serial = record { session = record { line = l; asked = asked_of q; account = x; store = store; serial = serial }; serial = serial }

module _ (l : Line) (q : Request) (x : Account) (store : List ℕ) (serial : ℕ) (fits : Fits serial) where
  abbrev s : Counted
  s = with l q x store serial

  -- after a step
  abbrev after-step : ByteAfter → AfterCall Counted Reply
  after-step w =
      record {
        session = record {
          session = record { line = w.step.line; asked = asked_of q; account = booked_by x (asked_of q) w.step.reply; store = w.store; serial = serial_left w.step.reply q.serial serial };
          serial = serial;
        };
        reply = w.step.reply;
        room = w.step.room;
      }

  step_same : (r : List ℕ) (w : ByteAfter) (v : machine.ByteAfter Answer) → plain_byte q r w ≡ v → plain-after (after-step w) ≡ machine.of_step unit (box s) v
  step_same r w v e =
      ap (λ (y : Account). record { session = record { line = w.step.line; asks = q; account = y; store = w.store }; reply = plain-reply w.step.reply; room = w.step.room })
      (booked-same x q w.step.reply)
      ∙ ap (machine.of_step unit (box s)) e

  -- the rules of a request are the shared ones: its serial fits, and nothing stops this unit
  rules-same : (code : ℕ) (n : Counts) (r : List ℕ) (y : AfterCall (Box Request Account) (machine.Reply Answer))
      → judged (request_refusals l code n r) (left unit (box s) r) y
      ≡ judged (machine.request_refusals unit l (record { code = code; counts = n; serial = serial_for code serial }) r) (left unit (box s) r) y
  unfolding request_refusals machine.request_refusals
  rules-same code n r y = rw (sent-asked code n serial fits, and-false (leb 2 l.doubts))

  request-same : (code : ℕ) (n : Counts) (r : List ℕ)
      → plain-after (called_counted s (request code n r)) ≡ machine.called-request unit (box s) (record { code = code; counts = n; serial = serial_for code serial }) r
  unfolding session_request request_step machine.called-request
  request-same code n r =
      through
      (λ (w : OpeningAfter). plain-after (record {
        session = record {
          session = record { line = w.line; asked = w.asked; account = request_booked x w.asked w.reply; store = store; serial = w.serial };
          serial = counted_by (request code n r) w.reply serial;
        };
        reply = w.reply;
        room = w.room;
      }))
      (request_refusals l code n r) (λ why. opening_after (refused_opening l (asked_of q) serial why) r) _
      ∙ rules-same code n r _

  heard-same : (b : ℕ) (r : List ℕ) → plain-after (called_counted s (byte b r)) ≡ machine.called-byte unit (box s) b r
  unfolding session_byte byte_step byte_refusals machine.called-byte machine.byte_refusals machine.heard_step
  heard-same b r =
      let t = heard l (answer_length q.code) b in
      through (λ (w : ByteAfter). plain-after (after-step w)) (byte_refusals r) (λ why. byte_after (refused_step l why) store r) _
      ∙ ap (λ (w : AfterCall (Box Request Account) (machine.Reply Answer)). judged (byte_refusals r) (left unit (box s) r) w)
      (step_same r (byte_acted t.heard t.line (asked_of q) store l.gathered b r) _ (byte-same q r t.heard t.line store l.gathered b))

  passed-same : (ms : ℕ) (r : List ℕ) → plain-after (called_counted s (tick ms r)) ≡ machine.called-tick unit (box s) ms r
  unfolding session_tick tick_step tick_refusals machine.called-tick machine.tick_refusals
  passed-same ms r =
      let t = passed l ms in
      through (λ (w : StepAfter). plain-after (after-step (record { step = w; store = store }))) (tick_refusals ms r) (λ why. step_after (refused_step l why) r) _
      ∙ ap (λ (w : AfterCall (Box Request Account) (machine.Reply Answer)). judged (tick_refusals ms r) (left unit (box s) r) w)
      (step_same r (record { step = acted t.todo t.line (asked_of q) r; store = store }) _
      (ap (λ (w : machine.StepAfter Answer). record { step = w; store = store }) (acted-same q r t.todo t.line)))

  called_same : (c : Call) → plain-after (called_counted s c) ≡ machine.called unit (box s) (means serial c)
  called_same (request code n r) = request-same code n r
  called_same (byte b r) = heard-same b r
  called_same (tick ms r) = passed-same ms r

-- ---- any session that its calls lead to

-- the length of the answer that is kept is the code's; the serial is the one that its caller counts, and fits
pub record Keeps (x : Counted) : Type 0 where
  pub span : x.session.asked.span ≡ answer_length x.session.asked.code
  pub serial : x.session.serial ≡ x.serial
  pub fits : Fits x.serial

kept-with : (x : Counted) → Keeps x → with x.session.line (request_of x.session.asked) x.session.account x.session.store x.serial ≡ x
kept-with x k = λ i.
    record {
      session = record {
        line = x.session.line;
        asked = record { code = x.session.asked.code; counts = x.session.asked.counts; serial = x.session.asked.serial; span = sym k.span i };
        account = x.session.account;
        store = x.session.store;
        serial = sym k.serial i;
      };
      serial = x.serial;
    }

pub session-same : (x : Counted) (c : Call) → Keeps x → plain-after (called_counted x c) ≡ machine.called unit (box x) (means x.serial c)
session-same x c k =
    subst (λ (y : Counted). plain-after (called_counted y c) ≡ machine.called unit (box y) (means y.serial c)) (kept-with x k)
    (called_same x.session.line (request_of x.session.asked) x.session.account x.session.store x.serial k.fits c)

-- what a call returned, its deed and its room are the same
pub saying-same : (p : Reply) → saying plain_closing (returned p) ≡ plain-reply p
saying-same (NotDone why) = refl
saying-same (Ok effect) = refl

pub deed-same : (s : ℕ) (c : Call) → deed s c ≡ machine.deed (means s c)
deed-same s (request code n r) = refl
deed-same s (byte b r) = refl
deed-same s (tick ms r) = refl

pub lent_same : (s : ℕ) (c : Call) → lent c ≡ machine.lent (means s c)
lent_same s (request code n r) = refl
lent_same s (byte b r) = refl
lent_same s (tick ms r) = refl

pub ending-same : (c : Closing) → ending c ≡ plain-ending (plain_closing c)
ending-same Nothing = refl
ending-same (Answered answer) = refl
ending-same Refused = refl
ending-same Unknown = refl

-- a request that opens a command takes the serial where it is a dispense, in the session as by its caller's count
record OpensWell (code : ℕ) (n : Counts) (r : List ℕ) (counted : ℕ) (w : OpeningAfter) : Type 0 where
  span : w.asked.span ≡ answer_length w.asked.code
  serial : w.serial ≡ counted_by (request code n r) w.reply counted
  fits : Fits (counted_by (request code n r) w.reply counted)

pub keeps-next : (x : Counted) (c : Call) → Keeps x → Keeps (called_counted x c).session
unfolding session_request request_step session_byte session_tick
keeps-next x (request code n r) k =
    let s = x.session in
    let w : OpensWell code n r x.serial (request_step s.line s.asked s.serial code n r) =
    either_way (OpensWell code n r x.serial) (request_refusals s.line code n r)
    (λ why. opening_after (refused_opening s.line s.asked s.serial why) r) _
    (λ why. record { span = k.span; serial = k.serial; fits = k.fits })
    (λ none. record { span = refl; serial = ap (serial_after code) k.serial; fits = after-fits code x.serial k.fits }) in
    record { span = w.span; serial = w.serial; fits = w.fits }
keeps-next x (byte b r) k =
    record { span = k.span; serial = left_serial (called_counted x (byte b r)).reply x.session.asked.serial x.session.serial ∙ k.serial; fits = k.fits }
keeps-next x (tick ms r) k =
    record { span = k.span; serial = left_serial (called_counted x (tick ms r)).reply x.session.asked.serial x.session.serial ∙ k.serial; fits = k.fits }

abbrev pub session : SessionOver unit host
session =
    record {
      keeps = Keeps;
      box = box;
      means = λ x c. means x.serial c;
      says = plain_closing;
      lends = lent;
      kept = keeps-next;
      same = λ x c k h. ap (λ w. w.session) (session-same x c k);
      answers = λ x c k h. saying-same (called_counted x c).reply ∙ ap (λ w. w.reply) (session-same x c k);
      room = λ x c k h. ap (λ w. w.room) (session-same x c k);
      deeds = λ x c. deed-same x.serial c;
      rooms = λ x c. lent_same x.serial c;
      endings = ending-same;
    }
