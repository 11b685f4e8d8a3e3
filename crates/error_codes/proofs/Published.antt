-- A byte stands in a list exactly where it stands at a place of it; it is listed exactly where its class is not unlisted, by one computed test of all 256. Assumes nothing.
use Prim.Native.Nat.{ℕ, zero, suc, ◌+◌, ◌≤◌, ◌<◌}
use mathlib.Core.Path.{◌≡◌, refl, sym, ap, ◌∙◌}
use native.Mathlib.Nat.{le_of_suc-le-suc, not-suc-le-zero}
use mathlib.Core.Bool.{Bool, true, false, true≢false}
use mathlib.Core.List.{List, [], ◌∷◌, ◌++◌}
use mathlib.Core.Logic.{◌⊎◌, inl, inr, ⊎_elim, ◌↔◌}
use native.Mathlib.Omega.{arith}
use lib.Dec.{T}
use lib.ListN.{length, get_or}
use Rattle.refusals.specs.Rules.{same, among}
use Rattle.refusals.proofs.Rules.{by_cases, holds-true, fails-false}
use Rattle.numbers.proofs.Below.{both, below, at}
use Rattle.error_codes.specs.Errors.{run, listed, error_class}
use Rattle.error_codes.specs.Promises.{Published}
use Rattle.error_codes.specs.declared.ErrorClass.{ErrorClass}
use Rattle.error_codes.specs.declared.ErrorClass.TheVariants.{Fine, OutOfNotes, NotSeated, Jam, CountInDoubt, OtherListed, Unlisted}

pub among-at : (b : ℕ) (xs : List ℕ) (i : ℕ) → i < length xs → get_or xs i 0 ≡ b → (among b xs).holds
unfolding among
among-at b [] i h e = absurd (not-suc-le-zero h)
among-at b (x ∷ xs) zero h e = inl e
among-at b (x ∷ xs) (suc i) h e = inr (among-at b xs i (le_of_suc-le-suc h) e)

pub among-place : (b : ℕ) (xs : List ℕ) → ((k : ℕ) → k < length xs → get_or xs k 0 ≡ b → ⊥) → (among b xs).holds → ⊥
unfolding among
among-place b [] n h = h
among-place b (x ∷ xs) n h = ⊎_elim (n 0 (omega arith)) (among-place b xs (λ k l. n (suc k) (omega arith))) h

-- ---- the list's five runs: a byte stands in a run exactly where it lies between its ends

among-left : (b : ℕ) (xs ys : List ℕ) → (among b xs).holds → (among b (xs ++ ys)).holds
unfolding among
among-left b [] ys h = absurd h
among-left b (x ∷ xs) ys h = ⊎_elim inl (λ m. inr (among-left b xs ys m)) h

among-right : (b : ℕ) (xs ys : List ℕ) → (among b ys).holds → (among b (xs ++ ys)).holds
unfolding among
among-right b [] ys h = h
among-right b (x ∷ xs) ys h = inr (among-right b xs ys h)

among-either : (b : ℕ) (xs ys : List ℕ) → (among b (xs ++ ys)).holds → (among b xs).holds ⊎ (among b ys).holds
unfolding among
among-either b [] ys h = inr h
among-either b (x ∷ xs) ys h = ⊎_elim (λ e. inl (inl e)) (λ m. ⊎_elim (λ l. inl (inr l)) inr (among-either b xs ys m)) h

run-between : (b low n : ℕ) → (among b (run low n)).holds ↔ ((low ≤ b) × (b < low + n))
unfolding among
run-between b low zero = (λ h. absurd h, λ h. omega arith)
run-between b low (suc n) = (
  ⊎_elim (λ (e : low ≡ b). (omega arith, omega arith)) (λ m. let w = (run-between b (suc low) n).0 m in (omega arith, omega arith)),
  λ h. by_cases (same low b) inl (λ d. inr ((run-between b (suc low) n).1 (omega arith, omega arith))),
)

-- a run, and what follows it
next : {A B : Type 0} (b low n : ℕ) (ys : List ℕ) → ((low ≤ b) × (b < low + n)) ↔ A → (among b ys).holds ↔ B
    → (among b (run low n ++ ys)).holds ↔ (A ⊎ B)
next b low n ys a r = (
  λ h. ⊎_elim (λ l. inl (a.0 ((run-between b low n).0 l))) (λ m. inr (r.0 m)) (among-either b (run low n) ys h),
  ⊎_elim (λ x. among-left b (run low n) ys ((run-between b low n).1 (a.1 x))) (λ y. among-right b (run low n) ys (r.1 y)),
)

-- ---- the class of every byte

named : ErrorClass → Bool
named Fine = true
named OutOfNotes = true
named NotSeated = true
named Jam = true
named CountInDoubt = true
named OtherListed = true
named Unlisted = false

alike : Bool → Bool → Bool
alike true b = b
alike false true = false
alike false false = true

alike-eq : (a b : Bool) → T (alike a b) → a ≡ b
unfolding alike
alike-eq true true t = refl
alike-eq true false t = absurd t
alike-eq false true t = absurd t
alike-eq false false t = refl

right : ℕ → Bool
right b = alike (listed b).test (named (error_class b))

every : T (below right 256)
unfolding below both right alike named listed among error_class
every = tt

listed-named : (b : ℕ) → b < 256 → (listed b).test ≡ named (error_class b)
unfolding right
listed-named b h = alike-eq (listed b).test (named (error_class b)) (at right 256 every b h)

unlisted-only : (x : ErrorClass) → named x ≡ false → x ≡ Unlisted
unfolding named
unlisted-only Fine e = absurd (true≢false e)
unlisted-only OutOfNotes e = absurd (true≢false e)
unlisted-only NotSeated e = absurd (true≢false e)
unlisted-only Jam e = absurd (true≢false e)
unlisted-only CountInDoubt e = absurd (true≢false e)
unlisted-only OtherListed e = absurd (true≢false e)
unlisted-only Unlisted e = refl

-- a byte that is not listed has the class unlisted
pub unlisted-class : (b : ℕ) → b < 256 → ((listed b).holds → ⊥) → error_class b ≡ Unlisted
unlisted-class b h n = unlisted-only (error_class b) (sym (listed-named b h) ∙ fails-false (listed b) n)

listed-class : (b : ℕ) → b < 256 → (listed b).holds → error_class b ≡ Unlisted → ⊥
unfolding named
listed-class b h l e = true≢false (sym (holds-true (listed b) l) ∙ listed-named b h ∙ ap named e)

pub published-exactly : Published
unfolding listed
published-exactly =
    record {
      many = refl;
      exactly = λ b.
          next b 0x30 9 _ (λ h. (h.0, omega arith), λ h. (h.0, omega arith))
          (next b 0x3A 4 _ (λ h. (h.0, omega arith), λ h. (h.0, omega arith))
          (next b 0x3F 12 _ (λ h. (h.0, omega arith), λ h. (h.0, omega arith))
          (next b 0x4C 1 _ (λ h. omega arith, λ e. (omega arith, omega arith))
          (λ h. let w = (run-between b 0x4E 1).0 h in omega arith, λ e. (run-between b 0x4E 1).1 (omega arith, omega arith)))));
      classed = λ b h. (listed-class b h, λ n. by_cases (listed b) (λ l. l) (λ m. absurd (n (unlisted-class b h m))));
    }
