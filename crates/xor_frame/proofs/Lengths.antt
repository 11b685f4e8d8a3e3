-- A frame has a length exactly where its code is in the table. Assumes nothing.
use Prim.Native.Nat.{ℕ, ◌+◌}
use mathlib.Core.Path.{◌≡◌, refl}
use mathlib.Core.Bool.{Bool, true, false, cond}
use mathlib.Core.List.{List}
use native.Mathlib.Omega.{arith}
use Rattle.refusals.specs.Rules.{Condition}
use Rattle.xor_frame.specs.Layout.{Field, sizes}
use Rattle.xor_frame.specs.Frame.{length_with}

module _ (known : ℕ → Condition) (fields : ℕ → List Field) (code : ℕ) where
  pub length-known : (known code).test ≡ true → length_with known fields code ≡ 6 + sizes (fields code)
  unfolding length_with
  length-known e = rw e

  pub length_none : length_with known fields code ≡ 0 → (known code).test ≡ false
  unfolding length_with
  length_none = go (known code).test
    where
      go : (t : Bool) → cond t (6 + sizes (fields code)) 0 ≡ 0 → t ≡ false
      go true e = absurd (omega arith)
      go false e = refl

  pub length_some : (length_with known fields code ≡ 0 → ⊥) → (known code).test ≡ true
  unfolding length_with
  length_some = go (known code).test
    where
      go : (t : Bool) → (cond t (6 + sizes (fields code)) 0 ≡ 0 → ⊥) → t ≡ true
      go true n = refl
      go false n = absurd (n refl)
