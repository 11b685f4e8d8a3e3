-- Each number is given exactly when 01 says, and a call that is declined leaves everything as it was. Assumes nothing.
use Rattle.std.specs.Prelude.{Ok}
use Prim.Native.Nat.{ℕ}
use mathlib.Core.Path.{◌≡◌, refl}
use mathlib.Core.List.{List, []}
use mathlib.Core.Bool.{Bool, true, false, cond}
use lib.Dec.{eqb}
use lib.ListN.{set, take}
use Rattle.dispenser_frame_rules.specs.Answer.{answer_code, read_answer}
use Rattle.dispenser_frame_rules.specs.AnswerRead.{AnswerRead}
use Rattle.dispenser_frame_rules.specs.AnswerRead.{Refused as NotRead}
use Rattle.ledger.specs.Calls.{IsDone}
use Rattle.ledger.proofs.Declining.{told-apart, rising, given-exactly}
use Rattle.exchange_rules.specs.Exchange.{bad_frame, heard, passed}
use Rattle.dispenser_rules.specs.Session.{StepAfter, refused_step, refused_opening, step_after, byte_after, opening_after, byte_refusals, tick_refusals, request_refusals, clear_refusals, acted, bad_step, judged_step, judge_step, byte_acted, account_heard, account_asked, byte_step, tick_step, request_step, clear_step, session_request, session_byte, session_tick, session_clear}
use Rattle.dispenser_rules.specs.Calls.{returned}
use Rattle.dispenser_rules.specs.Promises.{ExactlyWhen}
use Rattle.exchange_rules.specs.declared.line.Line.{Line}
use Rattle.exchange_rules.specs.declared.line.Todo.{Todo}
use Rattle.exchange_rules.specs.declared.line.Todo.TheVariants.{Nothing, HandOver, Nak, LastNak, CloseRefused, CloseUnknown}
use Rattle.exchange_rules.specs.declared.line.Heard.{Heard}
use Rattle.exchange_rules.specs.declared.line.Heard.TheVariants.{Keep, Judge, Do}
use Rattle.dispenser_rules.specs.declared.session.Asked.{Asked}

-- whatever is done, bytes and a closing are told
acted-told : (t : Todo) (l : Line) (a : Asked) (r : List ℕ) → IsDone (returned (acted t l a r).reply)
acted-told Nothing l a r = (_, (_, refl))
acted-told HandOver l a r = (_, (_, refl))
acted-told Nak l a r = (_, (_, refl))
acted-told LastNak l a r = (_, (_, refl))
acted-told CloseRefused l a r = (_, (_, refl))
acted-told CloseUnknown l a r = (_, (_, refl))

either-told : (t : Bool) (w v : StepAfter) → IsDone (returned w.reply) → IsDone (returned v.reply) → IsDone (returned (cond t w v).reply)
either-told true w v g h = g
either-told false w v g h = h

judged-told : (x : AnswerRead) (l : Line) (a : Asked) (r : List ℕ) → IsDone (returned (judged_step x l a r).reply)
unfolding bad_step
judged-told (Ok read) l a r =
    either-told (eqb (answer_code read.answer) a.code) _ _ (_, (_, refl)) (acted-told (bad_frame l).todo (bad_frame l).line a r)
judged-told (NotRead fault) l a r = acted-told (bad_frame l).todo (bad_frame l).line a r

byte-told : (t : Heard) (l : Line) (a : Asked) (store : List ℕ) (at b : ℕ) (r : List ℕ) → IsDone (returned (byte_acted t l a store at b r).step.reply)
unfolding judge_step
byte-told Keep l a store at b r = (_, (_, refl))
byte-told Judge l a store at b r = judged-told (read_answer (take a.span (set store at b))) l a r
byte-told (Do t) l a store at b r = acted-told t l a r

-- the numbers that the rules give rise
request-rises : (l : Line) (code upper lower : ℕ) (r : List ℕ) → rising (request_refusals l code upper lower r) ≡ true
unfolding request_refusals
request-rises l code upper lower r = refl

byte-rises : (r : List ℕ) → rising (byte_refusals r) ≡ true
unfolding byte_refusals
byte-rises r = refl

tick-rises : (ms : ℕ) (r : List ℕ) → rising (tick_refusals ms r) ≡ true
unfolding tick_refusals
tick-rises ms r = refl

clear-rises : (l : Line) → rising (clear_refusals l) ≡ true
unfolding clear_refusals
clear-rises l = refl

pub exactly-when : ExactlyWhen
unfolding session_request session_byte session_tick session_clear account_asked account_heard request_step byte_step tick_step clear_step
exactly-when =
    record {
      request = λ s code upper lower r.
          given-exactly told-apart (λ why. opening_after (refused_opening s.line s.asked why) r) _
          (λ w. record { session = record { line = w.line; asked = w.asked; account = account_asked s.account w.asked w.line.handed w.reply; store = s.store }; reply = w.reply; room = w.room })
          (request-rises s.line code upper lower r) (λ why. refl) (λ why. refl) (_, (_, refl));
      byte = λ s b r.
          let t = heard s.line s.asked.span b in
          given-exactly told-apart (λ why. byte_after (refused_step s.line why) s.store r) _
          (λ w. record { session = record { line = w.step.line; asked = s.asked; account = account_heard s.account s.asked w.step.line.handed w.step.reply; store = w.store }; reply = w.step.reply; room = w.step.room })
          (byte-rises r) (λ why. refl) (λ why. refl) (byte-told t.heard t.line s.asked s.store s.line.gathered b r);
      tick = λ s ms r.
          let t = passed s.line ms in
          given-exactly told-apart (λ why. step_after (refused_step s.line why) r) _
          (λ w. record { session = record { line = w.line; asked = s.asked; account = account_heard s.account s.asked w.line.handed w.reply; store = s.store }; reply = w.reply; room = w.room })
          (tick-rises ms r) (λ why. refl) (λ why. refl) (acted-told t.todo t.line s.asked r);
      clear = λ s.
          given-exactly told-apart (refused_step s.line) _
          (λ w. record { session = record { line = w.line; asked = s.asked; account = s.account; store = s.store }; reply = w.reply; room = [] })
          (clear-rises s.line) (λ why. refl) (λ why. refl) (_, (_, refl));
    }
