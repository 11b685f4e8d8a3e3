-- Each number is given exactly when 01 says, a call that is declined leaves everything as it was, and a call that is done sends what its
-- closing calls for. Assumes nothing.
use Rattle.std.proofs.lemmas.Result.{IfOk-at_ok}
use Prim.Native.Nat.{ℕ}
use mathlib.Core.Path.{◌≡◌, refl, sym, ap, ◌∙◌}
use mathlib.Core.Bool.{true}
use mathlib.Core.List.{List, ◌∷◌}
use lib.ListN.{set, take}
use Rattle.refusals.specs.Rules.{Rule, judged}
use Rattle.refusals.proofs.Rules.{either_way}
use Rattle.ccnet_frame.specs.Frame.{frame}
use Rattle.ccnet_class.specs.declared.Class.{Class}
use Rattle.ccnet_class.specs.declared.Class.TheVariants.{Ack, Nak, Illegal, State, Busy, Rejecting, Failing, Escrow, Stacked, Returned, Unknown, Table}
use Rattle.ledger.specs.Calls.{IsDone}
use Rattle.ledger.proofs.Declining.{told-apart, rising, given-exactly}
use Rattle.validator_rules.specs.Line.{heard, passed}
use Rattle.validator_rules.specs.Bills.{booked_by}
use Rattle.validator_rules.specs.Session.{After, Sent, sent, sending, LentAfter, StepAfter, byte_refusals, tick_refusals, request_refusals, refused_step, step_after, lent_after, heard_after, after_step, after_byte, damaged_step, answered_step, class_step, judged_step, judge_step, found, acted, byte_acted, byte_step, tick_step, request_step, session_request, session_byte, session_tick}
use Rattle.validator_rules.specs.Calls.{returned}
use Rattle.validator_rules.specs.Promises.{ExactlyWhen, sends, Sends}
use Rattle.validator_rules.specs.declared.line.Line.{Line}
use Rattle.validator_rules.specs.declared.line.Todo.{Todo}
use Rattle.validator_rules.specs.declared.line.Todo.TheVariants.{Nothing, CloseDamaged, CloseSilent}
use Rattle.validator_rules.specs.declared.line.Heard.{Heard}
use Rattle.validator_rules.specs.declared.line.Heard.TheVariants.{Skip, Keep, Judge, Wrong}
use Rattle.refusals.specs.declared.Declined.{Declined}
use Rattle.validator_rules.specs.Reply.{Reply}
use Rattle.validator_rules.specs.Reply.{NotDone, Done}
use Rattle.validator_rules.specs.declared.session.Closing.{Closing}
use Rattle.validator_rules.specs.Found.{Found}
use Rattle.validator_rules.specs.Found.{Bad, Good}
use Rattle.validator_rules.specs.declared.session.Session.{Session}

-- a reply that is no refusal, with what it sends
record Told (p : Reply) (calls : Closing → Sent) (room : List ℕ) : Type 0 where
  put : ℕ
  closing : Closing
  is : p ≡ Done put closing
  sent_is : sent put room ≡ calls closing

is-done : {p : Reply} {calls : Closing → Sent} {room : List ℕ} → Told p calls room → IsDone (returned p)
is-done t = (t.put, (t.closing, ap returned t.is))

-- one law for what the three calls send: g makes the outcome of what was judged; refused, it has no closing, and done, it tells what it sends
module _ {A : Type 0} (rules : List (Rule Declined)) (refuse : Declined → A) (done : A) (g : A → After) (f : Closing → Sent)
    (says : (why : Declined) → (g (refuse why)).reply ≡ NotDone why) (told : Told (g done).reply f (g done).room) where
  tells : (n : ℕ) (c : Closing) → (g (judged rules refuse done)).reply ≡ Done n c → sent n (g (judged rules refuse done)).room ≡ f c
  tells =
      either_way (λ (a : A). (n : ℕ) (c : Closing) → (g a).reply ≡ Done n c → sent n (g a).room ≡ f c) rules refuse done
      (λ why n c e. absurd (told-apart.never why (n, (c, ap returned (sym (says why) ∙ e)))))
      (λ none n c e. IfOk-at_ok (λ x. sent x.put (g done).room ≡ f x.closing) (sym told.is ∙ e) told.sent_is)

-- ---- whatever is done, bytes and a closing are told, and what was sent is what the closing calls for

abbrev Tells : LentAfter → List ℕ → Type 0
Tells w r = Told w.step.reply (λ c. sends c r) w.room

module _ (l : Line) (r : List ℕ) where
  damaged-told : Tells (damaged_step l r) r
  unfolding damaged_step
  damaged-told = record { put = _; closing = _; is = refl; sent_is = refl }

  answered-told : (c : Class) → Tells (answered_step l c r) r
  unfolding answered_step
  answered-told c = record { put = _; closing = _; is = refl; sent_is = refl }

  class-told : (c : Class) → Tells (class_step c l r) r
  class-told Ack = record { put = _; closing = _; is = refl; sent_is = refl }
  class-told Nak = record { put = _; closing = _; is = refl; sent_is = refl }
  class-told Illegal = record { put = _; closing = _; is = refl; sent_is = refl }
  class-told (State b) = answered-told (State b)
  class-told (Busy b) = answered-told (Busy b)
  class-told (Rejecting b) = answered-told (Rejecting b)
  class-told (Failing b) = answered-told (Failing b)
  class-told (Escrow y) = answered-told (Escrow y)
  class-told (Stacked y) = answered-told (Stacked y)
  class-told (Returned y) = answered-told (Returned y)
  class-told Unknown = answered-told Unknown
  class-told Table = answered-told Table

  judged-told : (x : Found) → Tells (judged_step x l r) r
  judged-told Bad = damaged-told
  judged-told (Good c) = class-told c

  acted-told : (t : Todo) (store : List ℕ) → Tells (acted t l store r) r
  acted-told Nothing store = record { put = _; closing = _; is = refl; sent_is = refl }
  acted-told CloseDamaged store = damaged-told
  acted-told CloseSilent store = record { put = _; closing = _; is = refl; sent_is = refl }

  byte-told : (t : Heard) (n : ℕ) (store table : List ℕ) (at b : ℕ) → Tells (byte_acted t l n store table at b r).lent r
  unfolding judge_step
  byte-told Skip n store table at b = record { put = _; closing = _; is = refl; sent_is = refl }
  byte-told Keep n store table at b = record { put = _; closing = _; is = refl; sent_is = refl }
  byte-told Judge n store table at b = judged-told (found l.code (take n (set store at b)))
  byte-told Wrong n store table at b = damaged-told

-- ---- the three calls

-- the outcome of a request that was judged
abbrev opening : Session → StepAfter → After
opening s w = record { session = record { line = w.step.line; bills = s.bills; store = s.store; table = s.table }; reply = w.step.reply; room = w.room }

-- the numbers that the rules give rise
request-rises : (l : Line) (code : ℕ) (given r : List ℕ) → rising (request_refusals l code given r) ≡ true
unfolding request_refusals
request-rises l code given r = refl

byte-rises : (r : List ℕ) → rising (byte_refusals r) ≡ true
unfolding byte_refusals
byte-rises r = refl

tick-rises : (ms : ℕ) (r : List ℕ) → rising (tick_refusals ms r) ≡ true
unfolding tick_refusals
tick-rises ms r = refl

pub exactly-when : ExactlyWhen
unfolding session_request session_byte session_tick request_step byte_step tick_step booked_by
exactly-when =
    record {
      request = λ s code given r.
          given-exactly told-apart (λ why. step_after (refused_step s.line why) r) _ (opening s) (request-rises s.line code given r) (λ why. refl) (λ why. refl) (_, (_, refl));
      byte = λ s b r.
          let t = heard s.line b in
          given-exactly told-apart (λ why. heard_after (lent_after (refused_step s.line why) s.store r) s.table) _ (after_byte s) (byte-rises r) (λ why. refl) (λ why. refl)
          (is-done (byte-told t.line r t.heard s.line.length s.store s.table s.line.gathered b));
      tick = λ s ms r.
          let t = passed s.line ms in
          given-exactly told-apart (λ why. lent_after (refused_step s.line why) s.store r) _ (λ w. after_step s w s.table) (tick-rises ms r) (λ why. refl) (λ why. refl)
          (is-done (acted-told t.line r t.todo s.store));
    }

pub what-is-sent : Sends
unfolding session_request session_byte session_tick request_step byte_step tick_step booked_by
what-is-sent =
    record {
      request = λ s code given r.
          tells (request_refusals s.line code given r) (λ why. step_after (refused_step s.line why) r) _ (opening s)
          (λ c. sending (frame 0x03 (code ∷ given)) r) (λ why. refl) (record { put = _; closing = _; is = refl; sent_is = refl });
      byte = λ s b r.
          let t = heard s.line b in
          tells (byte_refusals r) (λ why. heard_after (lent_after (refused_step s.line why) s.store r) s.table) _ (after_byte s)
          (λ c. sends c r) (λ why. refl) (byte-told t.line r t.heard s.line.length s.store s.table s.line.gathered b);
      tick = λ s ms r.
          let t = passed s.line ms in
          tells (tick_refusals ms r) (λ why. lent_after (refused_step s.line why) s.store r) _ (λ w. after_step s w s.table)
          (λ c. sends c r) (λ why. refl) (acted-told t.line r t.todo s.store);
    }
