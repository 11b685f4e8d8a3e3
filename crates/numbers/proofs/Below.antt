-- A test that passes for every number below a bound, computed once, passes for each of them. Assumes nothing.
use mathlib.Core.Path.{◌≡◌, refl, sym, ap, subst}
use mathlib.Core.Bool.{Bool, true, false}
use mathlib.Core.Logic.{◌⊎◌, inl, inr, ⊎_elim}
use Prim.Native.Nat.{ℕ, zero, suc, ◌<◌, suc-le-suc}
use native.Mathlib.Nat.{zero-lt-suc, not-suc-le-zero, le_of_suc-le-suc}
use lib.Dec.{T}

unfoldable pub both : Bool → Bool → Bool
both true b = b
both false b = false

unfoldable pub below : (ℕ → Bool) → ℕ → Bool
below f zero = true
below f (suc n) = both (f n) (below f n)

both_left : (a b : Bool) → T (both a b) → T a
unfolding both
both_left true b t = tt
both_left false b t = t

both_right : (a b : Bool) → T (both a b) → T b
unfolding both
both_right true b t = t
both_right false b t = absurd t

split-lt : (k n : ℕ) → k < suc n → (k ≡ n) ⊎ (k < n)
split-lt zero zero h = inl refl
split-lt zero (suc n) h = inr (zero-lt-suc n)
split-lt (suc k) zero h = absurd (not-suc-le-zero (le_of_suc-le-suc h))
split-lt (suc k) (suc n) h =
    ⊎_elim (λ (e : k ≡ n). inl (ap suc e)) (λ (l : k < n). inr (suc-le-suc l)) (split-lt k n (le_of_suc-le-suc h))

pub at : (f : ℕ → Bool) (n : ℕ) → T (below f n) → (k : ℕ) → k < n → T (f k)
unfolding below
at f zero t k h = absurd (not-suc-le-zero h)
at f (suc n) t k h =
    ⊎_elim (λ (e : k ≡ n). subst (λ (m : ℕ). T (f m)) (sym e) (both_left (f n) (below f n) t))
    (λ (l : k < n). at f n (both_right (f n) (below f n) t) k l)
    (split-lt k n h)
