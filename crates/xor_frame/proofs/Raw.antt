-- The reader's values: a count that is no two digits is 100, and one under 20h is 300, which no field may hold, so that one test of the
-- ranges tells whether all the fields fit. Assumes nothing.
use Rattle.std.specs.Option.{unwrap_or}
use Prim.Native.Nat.{ℕ, ◌+◌, ◌-◌, ◌≤◌, ◌<◌}
use mathlib.Core.Path.{◌≡◌, refl, sym, ap, ap₂}
use mathlib.Core.Bool.{Bool, true, false, cond, not, ◌&&◌, and-false}
use mathlib.Core.List.{List, [], ◌∷◌}
use native.Mathlib.Omega.{arith}
use lib.Dec.{leb}
use lib.ListN.{length, take, drop, get_or, length-drop}
use lib.Seq.{length-take-le}
use borrow.Author.Tests.{lt-leb, le-leb, le-ltb, lt-ltb}
use Rattle.refusals.specs.Rules.{within, under, at_most, judged}
use Rattle.refusals.proofs.Rules.{holds-true, by_cases, certain}
use Rattle.numbers.specs.Decimal.{digits_only, number, read_digits}
use Rattle.numbers.specs.Number.{Number}
use Rattle.numbers.specs.Number.{Of, NoNumber}
use Rattle.xor_frame.specs.Layout.{Field, count, byte, raised, free, size, all_fit, all_values, all_in_range}
use Rattle.xor_frame.specs.Parts.{count_at, lowered, field_faults}

-- ---- two bytes read as digits

abbrev pub counted : Number → ℕ
counted n = unwrap_or n 100

counted-by-test : (t : Bool) (m : ℕ) → counted (cond (not t) NoNumber (Of m)) ≡ cond t m 100
counted-by-test true m = refl
counted-by-test false m = refl

-- what `read_digits` finds in the two bytes from a place on is the count there
pub count-found : (s : List ℕ) (at : ℕ) → at + 2 ≤ length s → counted (read_digits (take (at + 2 - at) (drop at s))) ≡ count_at at s
unfolding read_digits count_at
count-found s at h =
    let k : at + 2 - at ≡ 2 = omega arith in
    let p = take 2 (drop at s) in
    let e : length p ≡ 2 = length-take-le 2 (drop at s) (simp length-drop (omega arith)) in
    rw (k, e) (counted-by-test (digits_only p).test (number p))

-- ---- the values of fields as the reader takes them

-- a field's value: a count as at `count_at`, a raised one as at `lowered`
abbrev pub raw_at : Field → ℕ → List ℕ → ℕ
raw_at (count low high) at s = count_at at s
raw_at (byte low high) at s = get_or s at 0
raw_at (raised low high) at s = lowered (get_or s at 0)
raw_at free at s = get_or s at 0

unfoldable pub raw_values : List Field → ℕ → List ℕ → List ℕ
raw_values [] at s = []
raw_values (f ∷ fs) at s = raw_at f at s ∷ raw_values fs (at + size f) s

-- ---- fields whose counts are all below 100, and below 300 where raised

abbrev pub Sound : List Field → Type 0
Sound [] = Unit {0}
Sound (count low high ∷ fs) = (high < 100) × Sound fs
Sound (byte low high ∷ fs) = Sound fs
Sound (raised low high ∷ fs) = (high < 300) × Sound fs
Sound (free ∷ fs) = Sound fs

count_fits : (t : Bool) (low high n : ℕ) → high < 100 → (t && (within low high n).test) ≡ (within low high (cond t n 100)).test
count_fits true low high n h = refl
count_fits false low high n h = sym (rw (lt-leb 100 high h) (and-false (leb low 100)))

at_least : (b : ℕ) → (b < 0x20 → ⊥) → 0x20 ≤ b
at_least b n = certain (at_most 0x20 b) (λ w. n (omega arith))

raised-fits : (b low high : ℕ) → high < 300 → (leb 0x20 b && (within low high (b - 0x20)).test) ≡ (within low high (lowered b)).test
unfolding lowered
raised-fits b low high h =
    by_cases (under b 0x20)
    (λ u. rw (lt-leb 0x20 b u, lt-ltb b 0x20 u) (sym (rw (lt-leb 300 high h) (and-false (leb low 300)))))
    (λ n. let g = at_least b n in rw (le-leb 0x20 b g, le-ltb b 0x20 g))

-- the fields fit exactly where the reader's values are in their ranges
pub raw-fits : (fs : List Field) (at : ℕ) (s : List ℕ) → Sound fs → (all_fit fs at s).test ≡ (all_in_range fs (raw_values fs at s)).test
unfolding all_fit all_in_range raw_values count_at
raw-fits [] at s h = refl
raw-fits (count low high ∷ fs) at s h =
    ap₂ ◌&&◌ (count_fits (digits_only (take 2 (drop at s))).test low high (number (take 2 (drop at s))) h.0) (raw-fits fs (at + 2) s h.1)
raw-fits (byte low high ∷ fs) at s h = ap (λ (t : Bool). (within low high (get_or s at 0)).test && t) (raw-fits fs (at + 1) s h)
raw-fits (raised low high ∷ fs) at s h = ap₂ ◌&&◌ (raised-fits (get_or s at 0) low high h.0) (raw-fits fs (at + 1) s h.1)
raw-fits (free ∷ fs) at s h = raw-fits fs (at + 1) s h

lowered-plain : (b : ℕ) → 0x20 ≤ b → lowered b ≡ b - 0x20
unfolding lowered
lowered-plain b h = rw (le-ltb b 0x20 h)

-- and then those are the fields' values
pub raw-values : (fs : List Field) (at : ℕ) (s : List ℕ) → (all_fit fs at s).holds → raw_values fs at s ≡ all_values fs at s
unfolding all_fit all_values raw_values count_at
raw-values [] at s h = refl
raw-values (count low high ∷ fs) at s h =
    ap₂ ◌∷◌ (rw (holds-true (digits_only (take 2 (drop at s))) h.0.0)) (raw-values fs (at + 2) s h.1)
raw-values (byte low high ∷ fs) at s h = ap (λ (l : List ℕ). get_or s at 0 ∷ l) (raw-values fs (at + 1) s h.1)
raw-values (raised low high ∷ fs) at s h = ap₂ ◌∷◌ (lowered-plain (get_or s at 0) h.0.0) (raw-values fs (at + 1) s h.1)
raw-values (free ∷ fs) at s h = ap (λ (l : List ℕ). get_or s at 0 ∷ l) (raw-values fs (at + 1) s h.1)

-- so reading goes by the reader's values alone, whatever is made of them
pub read-raw : {A : Type 0} (fs : List Field) (make : List ℕ → A) (bad : A) (s : List ℕ) → Sound fs
    → judged (field_faults fs s) (λ f. bad) (make (all_values fs 4 s)) ≡ cond (all_in_range fs (raw_values fs 4 s)).test (make (raw_values fs 4 s)) bad
read-raw fs make bad s h = rw (← raw-fits fs 4 s h) (go (all_fit fs 4 s).test refl)
  where
    go : (t : Bool) → (all_fit fs 4 s).test ≡ t → cond (not t) bad (make (all_values fs 4 s)) ≡ cond t (make (raw_values fs 4 s)) bad
    go true e = rw (raw-values fs 4 s ((all_fit fs 4 s).tells.shown e))
    go false e = refl
