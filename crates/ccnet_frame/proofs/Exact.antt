-- Each number is given exactly when 01 says and in its order, by the one law for every list of rules. Assumes nothing.
use Prim.Native.Nat.{ℕ}
use mathlib.Core.Path.{◌≡◌, refl}
use native.Mathlib.Omega.{arith}
use lib.ListN.{get_or}
use Rattle.refusals.proofs.Rules.{exactly}
use Rattle.refusals.proofs.Writing.{writes}
use Rattle.ccnet_frame.specs.Frame.{frame, frame_refusals, write_frame, faults, judge_sized, judge_frame}
use Rattle.ccnet_frame.specs.Promises.{ExactlyWhen, InOrder}
use Rattle.ccnet_frame.specs.Judged.{Good, Refused}

pub exactly-when : ExactlyWhen
unfolding write_frame judge_frame judge_sized faults
exactly-when =
    record {
      write = λ address body room. writes (frame_refusals address body room) (frame address body) room;
      read = λ s. exactly (faults s) Refused (Good (get_or s 1 0)) (λ x y e. cc) (λ x e. let z : ◌≡◌ {A = ℕ} 0 1 = cc in omega arith);
    }

pub in_order : InOrder
unfolding faults frame_refusals
in_order = record { read = λ s. refl; write = λ address body room. refl }
