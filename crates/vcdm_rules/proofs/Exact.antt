-- Each number is given exactly when 01 says, and a call that is declined leaves everything as it was. Assumes nothing.
use Prim.Native.Nat.{ℕ}
use mathlib.Core.Path.{◌≡◌, refl}
use mathlib.Core.Bool.{true}
use mathlib.Core.List.{List}
use lib.ListN.{set, take}
use Rattle.vcdm_frame_rules.specs.Answer.{read_answer}
use Rattle.vcdm_frame_rules.specs.declared.command.Counts.{Counts}
use Rattle.vcdm_frame_rules.specs.declared.answer.Answer.{Answer}
use Rattle.vcdm_frame_rules.specs.AnswerRead.{AnswerRead}
use Rattle.vcdm_frame_rules.specs.AnswerRead.{Read, Refused as NotRead}
use Rattle.ledger.specs.Calls.{IsDone}
use Rattle.ledger.proofs.Declining.{told-apart, rising, given-exactly}
use Rattle.exchange_rules.specs.Exchange.{bad_frame, heard, passed}
use Rattle.vcdm_rules.specs.Session.{serial_left, refused_step, refused_opening, step_after, byte_after, opening_after, byte_refusals, tick_refusals, request_refusals, acted, bad_step, finding, found_step, judged_step, judge_step, byte_acted, booked_by, request_booked, byte_step, tick_step, request_step, session_request, session_byte, session_tick}
use Rattle.vcdm_rules.specs.Calls.{request, counted_by, returned}
use Rattle.vcdm_rules.specs.Promises.{ExactlyWhen}
use Rattle.exchange_rules.specs.declared.line.Line.{Line}
use Rattle.exchange_rules.specs.declared.line.Todo.{Todo}
use Rattle.exchange_rules.specs.declared.line.Todo.TheVariants.{Nothing, HandOver, Nak, LastNak, CloseRefused, CloseUnknown}
use Rattle.exchange_rules.specs.declared.line.Heard.{Heard}
use Rattle.exchange_rules.specs.declared.line.Heard.TheVariants.{Keep, Judge, Do}
use Rattle.vcdm_rules.specs.declared.session.Asked.{Asked}
use Rattle.vcdm_rules.specs.declared.session.Finding.{Finding}
use Rattle.vcdm_rules.specs.declared.session.Finding.TheVariants.{Bad, Good, Void}

-- whatever is done, bytes and a closing are told
acted-told : (t : Todo) (l : Line) (a : Asked) (r : List ℕ) → IsDone (returned (acted t l a r).reply)
acted-told Nothing l a r = (_, (_, refl))
acted-told HandOver l a r = (_, (_, refl))
acted-told Nak l a r = (_, (_, refl))
acted-told LastNak l a r = (_, (_, refl))
acted-told CloseRefused l a r = (_, (_, refl))
acted-told CloseUnknown l a r = (_, (_, refl))

found-told : (f : Finding) (x : Answer) (l : Line) (a : Asked) (r : List ℕ) → IsDone (returned (found_step f x l a r).reply)
unfolding bad_step
found-told Bad x l a r = acted-told (bad_frame l).todo (bad_frame l).line a r
found-told Good x l a r = (_, (_, refl))
found-told Void x l a r = (_, (_, refl))

judged-told : (y : AnswerRead) (l : Line) (a : Asked) (r : List ℕ) → IsDone (returned (judged_step y l a r).reply)
unfolding bad_step
judged-told (Read x) l a r = found-told (finding a.code a.serial x) x l a r
judged-told (NotRead fault) l a r = acted-told (bad_frame l).todo (bad_frame l).line a r

byte-told : (t : Heard) (l : Line) (a : Asked) (store : List ℕ) (at b : ℕ) (r : List ℕ) → IsDone (returned (byte_acted t l a store at b r).step.reply)
unfolding judge_step
byte-told Keep l a store at b r = (_, (_, refl))
byte-told Judge l a store at b r = judged-told (read_answer (take a.span (set store at b))) l a r
byte-told (Do t) l a store at b r = acted-told t l a r

-- the numbers that the rules give rise
request-rises : (l : Line) (code : ℕ) (n : Counts) (r : List ℕ) → rising (request_refusals l code n r) ≡ true
unfolding request_refusals
request-rises l code n r = refl

byte-rises : (r : List ℕ) → rising (byte_refusals r) ≡ true
unfolding byte_refusals
byte-rises r = refl

tick-rises : (ms : ℕ) (r : List ℕ) → rising (tick_refusals ms r) ≡ true
unfolding tick_refusals
tick-rises ms r = refl

pub exactly-when : ExactlyWhen
unfolding session_request session_byte session_tick request_step byte_step tick_step
exactly-when =
    record {
      request = λ x code n r.
          let s = x.session in
          given-exactly told-apart (λ why. opening_after (refused_opening s.line s.asked s.serial why) r) _
          (λ w. record {
            session = record {
              session = record { line = w.line; asked = w.asked; account = request_booked s.account w.asked w.reply; store = s.store; serial = w.serial };
              serial = counted_by (request code n r) w.reply x.serial;
            };
            reply = w.reply;
            room = w.room;
          })
          (request-rises s.line code n r) (λ why. refl) (λ why. refl) (_, (_, refl));
      byte = λ x b r.
          let s = x.session in
          let t = heard s.line s.asked.span b in
          given-exactly told-apart (λ why. byte_after (refused_step s.line why) s.store r) _
          (λ w. record {
            session = record {
              session = record { line = w.step.line; asked = s.asked; account = booked_by s.account s.asked w.step.reply; store = w.store; serial = serial_left w.step.reply s.asked.serial s.serial };
              serial = x.serial;
            };
            reply = w.step.reply;
            room = w.step.room;
          })
          (byte-rises r) (λ why. refl) (λ why. refl) (byte-told t.heard t.line s.asked s.store s.line.gathered b r);
      tick = λ x ms r.
          let s = x.session in
          let t = passed s.line ms in
          given-exactly told-apart (λ why. step_after (refused_step s.line why) r) _
          (λ w. record {
            session = record {
              session = record { line = w.line; asked = s.asked; account = booked_by s.account s.asked w.reply; store = s.store; serial = serial_left w.reply s.asked.serial s.serial };
              serial = x.serial;
            };
            reply = w.reply;
            room = w.room;
          })
          (tick-rises ms r) (λ why. refl) (λ why. refl) (acted-told t.todo t.line s.asked r);
    }
