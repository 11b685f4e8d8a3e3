-- Each number is given exactly when it is due and in its order, by the one law for every list of rules. Assumes nothing.
use Prim.Native.Nat.{ℕ}
use mathlib.Core.Path.{◌≡◌, refl}
use native.Mathlib.Omega.{arith}
use lib.ListN.{get_or}
use Rattle.refusals.proofs.Rules.{exactly}
use Rattle.refusals.proofs.Writing.{writes}
use Rattle.ccnet_wide.specs.Wide.{wide_frame, wide_refusals, write_wide, lead_at, wide_faults, judge_wide}
use Rattle.ccnet_wide.specs.Promises.{ExactlyWhen, InOrder}
use Rattle.ccnet_wide.specs.Judged.{Good, Refused}

pub exactly-when : ExactlyWhen
unfolding write_wide judge_wide
exactly-when =
    record {
      write = λ address lead given room. writes (wide_refusals address lead given room) (wide_frame address lead given) room;
      read = λ form s.
          exactly (wide_faults form s) Refused (Good (get_or s 1 0) (lead_at form s)) (λ x y e. cc)
          (λ x e. let z : ◌≡◌ {A = ℕ} 0 1 = cc in omega arith);
    }

pub in_order : InOrder
unfolding wide_faults wide_refusals
in_order = record { read = λ form s. refl; write = λ address lead given room. refl }
