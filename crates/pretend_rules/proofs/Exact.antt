-- The device answers each number exactly when its rules say, the lowest that applies, and a call that is declined leaves everything as it was. Assumes nothing.
use Rattle.std.specs.Prelude.{Ok}
use Prim.Native.Nat.{ℕ}
use mathlib.Core.Path.{◌≡◌, refl}
use mathlib.Core.Bool.{true}
use mathlib.Core.List.{List}
use lib.ListN.{take, set}
use Rattle.refusals.specs.Rules.{under}
use Rattle.refusals.proofs.Rules.{pick}
use Rattle.dispenser_frame_rules.specs.Command.{read_command}
use Rattle.dispenser_frame_rules.specs.declared.answer.Answer.{Answer}
use Rattle.dispenser_frame_rules.specs.CommandRead.{CommandRead}
use Rattle.dispenser_frame_rules.specs.CommandRead.{Read, Refused as NotRead}
use Rattle.ledger.specs.Calls.{IsDone}
use Rattle.ledger.proofs.Declining.{told-apart, rising, given-exactly}
use Rattle.pretend_rules.specs.Limits.{answer_limit}
use Rattle.pretend_rules.specs.Wire.{heard, passed}
use Rattle.pretend_rules.specs.Device.{StepAfter, step_after, byte_after, refused_step, acted, judged_step, judge_step, byte_acted, byte_refusals, tick_refusals, tell_refusals, byte_step, tick_step, tell_step, by_byte, by_tick, by_telling, device_byte, device_tick, device_tell}
use Rattle.pretend_rules.specs.Calls.{returned}
use Rattle.pretend_rules.specs.Promises.{ExactlyWhen}
use Rattle.pretend_rules.specs.declared.wire.Wire.{Wire}
use Rattle.pretend_rules.specs.declared.wire.Act.{Act}
use Rattle.pretend_rules.specs.declared.wire.Act.TheVariants.{Nothing, Nak, Again, Finish}
use Rattle.pretend_rules.specs.declared.wire.Heard.{Heard}
use Rattle.pretend_rules.specs.declared.wire.Heard.TheVariants.{Keep, Judge, Do}

-- whatever is done, bytes and what came of it are told
acted-told : (t : Act) (w : Wire) (a : Answer) (r : List ℕ) → IsDone (returned (acted t w a r).reply)
acted-told Nothing w a r = (_, (_, refl))
acted-told Nak w a r = (_, (_, refl))
acted-told Again w a r = (_, (_, refl))
acted-told Finish w a r = (_, (_, refl))

judged-told : (x : CommandRead) (w : Wire) (r : List ℕ) → IsDone (returned (judged_step x w r).reply)
judged-told (Ok command) w r =
    pick (λ (v : StepAfter). IsDone (returned v.reply)) (under w.answered answer_limit) _ _ (λ h. (_, (_, refl))) (λ n. (_, (_, refl)))
judged-told (NotRead fault) w r = (_, (_, refl))

byte-told : (t : Heard) (w : Wire) (a : Answer) (store : List ℕ) (at b : ℕ) (r : List ℕ) → IsDone (returned (byte_acted t w a store at b r).step.reply)
unfolding judge_step
byte-told Keep w a store at b r = (_, (_, refl))
byte-told Judge w a store at b r = judged-told (read_command (take w.span (set store at b))) w r
byte-told (Do t) w a store at b r = acted-told t w a r

-- the numbers that the rules give rise
byte-rises : (r : List ℕ) → rising (byte_refusals r) ≡ true
unfolding byte_refusals
byte-rises r = refl

tick-rises : (ms : ℕ) (r : List ℕ) → rising (tick_refusals ms r) ≡ true
unfolding tick_refusals
tick-rises ms r = refl

tell-rises : (w : Wire) (code : ℕ) (a : Answer) (r : List ℕ) → rising (tell_refusals w code a r) ≡ true
unfolding tell_refusals
tell-rises w code a r = refl

pub exactly-when : ExactlyWhen
unfolding device_byte byte_step device_tick tick_step device_tell tell_step
exactly-when =
    record {
      byte = λ d b r.
          let t = heard d.wire b in
          given-exactly told-apart (λ why. byte_after (refused_step d.wire why) d.store r) _
          (by_byte d)
          (byte-rises r) (λ why. refl) (λ why. refl) (byte-told t.heard t.wire d.answer d.store d.wire.gathered b r);
      tick = λ d ms r.
          let t = passed d.wire ms in
          given-exactly told-apart (λ why. step_after (refused_step d.wire why) r) _
          (by_tick d)
          (tick-rises ms r) (λ why. refl) (λ why. refl) (acted-told t.act t.wire d.answer r);
      tell = λ d a r.
          given-exactly told-apart (λ why. step_after (refused_step d.wire why) r) _
          (by_telling d a)
          (tell-rises d.wire d.code a r) (λ why. refl) (λ why. refl) (_, (_, refl));
    }
