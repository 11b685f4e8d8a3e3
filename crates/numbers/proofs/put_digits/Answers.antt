-- `numbers::put_digits` meets its contract. The invariant: the first i digits still to be put, and the room from i on, are the digits
-- of n. Assumes nothing.
use mathlib.Core.Path.{◌≡◌, ◌∙◌}
use mathlib.Core.List.{List, ◌++◌}
use Prim.Native.Nat.{ℕ, suc, ◌-◌, ◌/◌, ◌<◌}
use native.Mathlib.Nat.{le_refl}
use lib.ListN.{length, drop, set, length-set}
use lib.Seq.{drop-cons, append_snoc, lt-length-set, get_or-set_same, drop-set-lt}
use Rattle.numbers.specs.Decimal.{digit_of, digits}
use Rattle.numbers.proofs.Decimal.{digits-none, digits_last}
use native.Mathlib.Omega.{arith}
use Rattle.numbers.proofs.put_digits.Goals as goal

-- one digit more is put, before those that stand already
put_one : (j rest : ℕ) (room : List ℕ) (b : ℕ) → j < length room → b ≡ digit_of rest
    → digits j (rest / 10) ++ drop j (set room j b) ≡ digits (suc j) rest ++ drop (suc j) room
put_one j rest room b h e =
    rw (
      drop-cons (set room j b) j 0 (lt-length-set room j b h),
      get_or-set_same room j b 0 h,
      drop-set-lt (suc j) room j b (le_refl (suc j)),
      e,
      digits_last,
      append_snoc,
    )

pub loop-i-preserved : goal.loop-i-preserved
loop-i-preserved c =
    let turn = c.loop-i in
    let e : suc (turn.i - 1) ≡ turn.i = omega arith in (
      simp length-set turn.invariant.0,
      simp length-set (omega arith),
      put_one (turn.i - 1) turn.rest turn.room _ (omega arith) c.digit.ensures ∙ rw e turn.invariant.2,
    )

pub returns : goal.returns
returns c =
    let end = c.loop-i in
    let e : end.i ≡ 0 = omega arith in
    simp (e, digits-none) at end.invariant.2
