-- Two lists are the same exactly where each number is. Assumes nothing.
use Prim.Native.Nat.{ℕ, ◌+◌, ◌≤◌, ◌<◌}
use mathlib.Core.Path.{◌≡◌, refl, sym, ap, ap₂, ◌∙◌, subst}
use mathlib.Core.Bool.{true, false}
use mathlib.Core.List.{List, [], ◌∷◌}
use native.Mathlib.Numerals.{add-one}
use lib.ListN.{length, get_or, drop, drop_of_length-le}
use lib.Seq.{drop-cons}
use borrow.Author.Tests.{eq-eqb}
use Rattle.refusals.proofs.Rules.{holds-true, fails-false}
use Rattle.parted.specs.Parting.{equal}

-- ---- what its test tells

equal-to : (s t : List ℕ) → (equal s t).holds → s ≡ t
unfolding equal
equal-to [] [] h = refl
equal-to [] (y ∷ t) h = absurd h
equal-to (x ∷ s) [] h = absurd h
equal-to (x ∷ s) (y ∷ t) h = ap₂ (λ (a : ℕ) (b : List ℕ). a ∷ b) h.0 (equal-to s t h.1)

equal-from : (s : List ℕ) → (equal s s).holds
unfolding equal
equal-from [] = tt
equal-from (x ∷ s) = (refl, equal-from s)

pub equal-true : (s t : List ℕ) → s ≡ t → (equal s t).test ≡ true
equal-true s t e = holds-true (equal s t) (subst (λ (u : List ℕ). (equal s u).holds) e (equal-from s))

pub equal-false : (s t : List ℕ) → (s ≡ t → ⊥) → (equal s t).test ≡ false
equal-false s t n = fails-false (equal s t) (λ h. n (equal-to s t h))

pub equal-shown : (s t : List ℕ) → (equal s t).test ≡ true → s ≡ t
equal-shown s t e = equal-to s t ((equal s t).tells.shown e)

pub equal-denied : (s t : List ℕ) → (equal s t).test ≡ false → s ≡ t → ⊥
equal-denied s t e q = (equal s t).tells.denied e (subst (λ (u : List ℕ). (equal s u).holds) q (equal-from s))

-- ---- one turn of the comparison

cons : (x y : ℕ) (s t : List ℕ) → x ≡ y → (equal (x ∷ s) (y ∷ t)).test ≡ (equal s t).test
unfolding equal
cons x y s t e = rw (eq-eqb x y e) refl

pub equal-on : (a b : List ℕ) (i : ℕ) → i < length a → i < length b → get_or a i 0 ≡ get_or b i 0
    → (equal (drop i a) (drop i b)).test ≡ (equal (drop (i + 1) a) (drop (i + 1) b)).test
equal-on a b i h k e = rw (drop-cons a i 0 h, drop-cons b i 0 k, add-one i) (cons _ _ _ _ e)

pub equal-apart : (a b : List ℕ) (i : ℕ) → (get_or a i 0 ≡ get_or b i 0 → ⊥) → (equal a b).test ≡ false
equal-apart a b i n = equal-false a b (λ e. n (ap (λ (l : List ℕ). get_or l i 0) e))

pub equal-end : (a b : List ℕ) (i : ℕ) → length a ≤ i → length b ≤ i → (equal (drop i a) (drop i b)).test ≡ true
equal-end a b i h k = equal-true _ _ (drop_of_length-le a h ∙ sym (drop_of_length-le b k))
