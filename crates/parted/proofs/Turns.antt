-- One turn of the comparison: what stands in each recording, and that a turn which goes on comes nearer to the end. Assumes nothing.
use Prim.Native.Nat.{ℕ, zero, suc, ◌+◌, ◌-◌, ◌≤◌, ◌<◌}
use mathlib.Core.Path.{◌≡◌, refl, sym, ap, ◌∙◌, subst}
use mathlib.Core.Bool.{Bool, true, false, cond}
use mathlib.Core.List.{List}
use native.Mathlib.Omega.{arith}
use lib.ListN.{length, take, drop, length-drop}
use lib.Seq.{length-take-le}
use borrow.Author.Tests.{le-leb, lt-leb}
use Rattle.refusals.specs.Rules.{at_most}
use Rattle.refusals.proofs.Rules.{by_cases}
use Rattle.recording.specs.Taking.{found_at}
use Rattle.recording.specs.NextRecord.{NextRecord}
use Rattle.recording.specs.NextRecord.{Whole as IsWhole, Bad as IsBad}
use Rattle.recording.proofs.Starts.{whole-read}
use Rattle.parted.specs.Next.{Next}
use Rattle.parted.specs.declared.Parted.{Parted}
use Rattle.parted.specs.Due.{Due}
use Rattle.parted.specs.Due.{End, Whole, Faulty}
use Rattle.parted.specs.declared.Turn.{Turn}
use Rattle.parted.specs.declared.Turn.TheVariants.{On, Ends}
use Rattle.parted.specs.Parting.{equal, due_of, due_at, beside_record, beside_end, turn_by, turn_at, parted, turned, parting_in, parting_from, parting_of}
use Rattle.parted.proofs.Equal.{equal-shown}

-- ---- in one recording

pub due-end : (s : List ℕ) (at : ℕ) → length s ≤ at → due_at s at ≡ End
unfolding due_at
due-end s at h = rw (le-leb _ _ h)

pub due-inside : (s : List ℕ) (at : ℕ) → at < length s → due_at s at ≡ due_of (found_at s at)
unfolding due_at
due-inside s at h = rw (lt-leb _ _ h)

-- a record of n bytes
pub record Fits (s : List ℕ) (at n : ℕ) : Type 0 where
  pub some : 0 < n
  pub fits : at + n ≤ length s

pub due-fits : (s : List ℕ) (at n : ℕ) → due_at s at ≡ Whole n → Fits s at n
due-fits s at n e =
    by_cases (at_most (length s) at)
    (λ h. let q = sym (due-end s at h) ∙ e in let z : ◌≡◌ {A = ℕ} 0 1 = cc in absurd (omega arith))
    (λ h. let l : at < length s = omega arith in by l (found_at s at) refl (sym (due-inside s at l) ∙ e))
  where
    by : at < length s → (f : NextRecord) → found_at s at ≡ f → due_of f ≡ Whole n → Fits s at n
    by l (IsWhole x m) q w =
        let same : m ≡ n = cc in
        let r = whole-read s at l (found_at s at) refl q in
        subst (Fits s at) same (record { some = r.some; fits = r.fits })
    by l (IsBad why) q w = let z : ◌≡◌ {A = ℕ} 0 1 = cc in absurd (omega arith)

-- ---- in both

-- the same record of n bytes
pub record Same (s t : List ℕ) (at n : ℕ) : Type 0 where
  pub student : due_at s at ≡ Whole n
  pub reference : due_at t at ≡ Whole n
  pub bytes : take n (drop at s) ≡ take n (drop at t)

length-record : (s : List ℕ) (at n : ℕ) → due_at s at ≡ Whole n → length (take n (drop at s)) ≡ n
length-record s at n e = length-take-le n (drop at s) (simp length-drop (omega (arith, (due-fits s at n e).fits)))

pub turn_on : (s t : List ℕ) (at k : ℕ) → turn_at s t at ≡ On k → Same s t at k
unfolding turn_at
turn_on s t at k e = by (due_at s at) refl (due_at t at) refl e
  where
    apart : {A : Type 0} → ◌≡◌ {A = ℕ} 0 1 → A
    apart z = absurd (omega (arith, z))

    equals : (n m : ℕ) → due_at s at ≡ Whole n → due_at t at ≡ Whole m → (b : Bool) → (equal (take n (drop at s)) (take m (drop at t))).test ≡ b
        → cond b (On n) (beside_record s t at n End) ≡ On k → Same s t at k
    equals n m p q true b w =
        let same : n ≡ k = cc in
        let bytes = equal-shown _ _ b in
        let size : m ≡ n = sym (length-record t at m q) ∙ sym (ap length bytes) ∙ length-record s at n p in
        subst (Same s t at) same
        (record { student = p; reference = q ∙ ap Whole size; bytes = bytes ∙ ap (λ (j : ℕ). take j (drop at t)) size })
    equals n m p q false b w = apart cc

    by : (d : Due) → due_at s at ≡ d → (d' : Due) → due_at t at ≡ d' → turn_by s t at d ≡ On k → Same s t at k
    by End p End q w = apart (let v = sym (ap beside_end q) ∙ w in cc)
    by End p (Whole m) q w = apart (let v = sym (ap beside_end q) ∙ w in cc)
    by End p (Faulty why) q w = apart (let v = sym (ap beside_end q) ∙ w in cc)
    by (Whole n) p End q w = apart (let v = sym (ap (beside_record s t at n) q) ∙ w in cc)
    by (Whole n) p (Whole m) q w = equals n m p q _ refl (sym (ap (beside_record s t at n) q) ∙ w)
    by (Whole n) p (Faulty why) q w = apart (let v = sym (ap (beside_record s t at n) q) ∙ w in cc)
    by (Faulty why) p d q w = apart cc

-- by what stands in the student's
pub turn_by_lem : (s t : List ℕ) (at : ℕ) (d : Due) → due_at s at ≡ d → turn_by s t at d ≡ turn_at s t at
unfolding turn_at
turn_by_lem s t at d e = sym (ap (turn_by s t at) e)

-- each record compared where it stands: from its place to its end
module _ (s t : List ℕ) (at n m : ℕ) (e : due_at t at ≡ Whole m) {b : Bool}
    (q : b ≡ (equal (take (at + n - at) (drop at s)) (take (at + m - at) (drop at t))).test) where
  picks : beside_record s t at n (due_at t at) ≡ cond b (On n) (beside_record s t at n End)
  picks =
      let i : at + n - at ≡ n = omega arith in
      let j : at + m - at ≡ m = omega arith in
      rw (e, q, i, j) refl

  pub beside-on : b ≡ true → On n ≡ beside_record s t at n (due_at t at)
  beside-on h = sym (picks ∙ ap (λ (c : Bool). cond c (On n) (beside_record s t at n End)) h)

  pub beside-other : b ≡ false → beside_record s t at n End ≡ beside_record s t at n (due_at t at)
  beside-other h = sym (picks ∙ ap (λ (c : Bool). cond c (On n) (beside_record s t at n End)) h)

-- ---- turns enough

in_step : (f : ℕ) (s t : List ℕ) (at n : ℕ) → parting_in (suc f) s t at n ≡ turned (turn_at s t at) at n (λ k. parting_in f s t (at + k) (suc n))
unfolding parting_in
in_step f s t at n = refl

-- a turn, and what comes of the rest where it goes on
turned_same : (at n : ℕ) (g h : ℕ → Parted) (u : Turn) → ((k : ℕ) → u ≡ On k → g k ≡ h k) → turned u at n g ≡ turned u at n h
turned_same at n g h (On k) e = e k refl
turned_same at n g h (Ends next) e = refl

-- as many as the student has bytes left, and one, are as good as more
enough : (f g : ℕ) (s t : List ℕ) (at n : ℕ) → at ≤ length s → length s < at + f → length s < at + g → parting_in f s t at n ≡ parting_in g s t at n
enough zero g s t at n l h k = absurd (omega arith)
enough (suc f) zero s t at n l h k = absurd (omega arith)
enough (suc f) (suc g) s t at n l h k =
    in_step f s t at n
    ∙ turned_same at n _ _ (turn_at s t at) (λ j e.
    let r = due-fits s at j (turn_on s t at j e).student in
    enough f g s t (at + j) (suc n) r.fits (omega (arith, h, r.some)) (omega (arith, k, r.some)))
    ∙ sym (in_step g s t at n)

pub from_in : (f : ℕ) (s t : List ℕ) (at n : ℕ) → at ≤ length s → length s < at + f → parting_in f s t at n ≡ parting_from s t at n
unfolding parting_from
from_in f s t at n l h = enough f (suc (length s)) s t at n l h (omega arith)

-- a turn, and from the next record's place on
from_step : (s t : List ℕ) (at n : ℕ) → parting_from s t at n ≡ turned (turn_at s t at) at n (λ k. parting_from s t (at + k) (suc n))
unfolding parting_from
from_step s t at n =
    in_step (length s) s t at n
    ∙ turned_same at n _ _ (turn_at s t at) (λ k e.
    let r = due-fits s at k (turn_on s t at k e).student in
    from_in (length s) s t (at + k) (suc n) r.fits (omega (arith, r.some)))

pub from_on : (s t : List ℕ) (at n k : ℕ) → turn_at s t at ≡ On k → parting_from s t at n ≡ parting_from s t (at + k) (suc n)
from_on s t at n k e = from_step s t at n ∙ ap (λ (u : Turn). turned u at n (λ j. parting_from s t (at + j) (suc n))) e

pub from-ends : (s t : List ℕ) (at n : ℕ) (next : Next) → turn_at s t at ≡ Ends next → parting_from s t at n ≡ parted at n next
from-ends s t at n next e = from_step s t at n ∙ ap (λ (u : Turn). turned u at n (λ j. parting_from s t (at + j) (suc n))) e

pub from_start : (s t : List ℕ) → parting_from s t 0 0 ≡ parting_of s t
unfolding parting_of
from_start s t = refl

-- ---- where it ends

in-later : (f : ℕ) (s t : List ℕ) (at n : ℕ) → at ≤ (parting_in f s t at n).at
unfolding parting_in
in-later zero s t at n = omega arith
in-later (suc f) s t at n = by (λ k. in-later f s t (at + k) (suc n)) (turn_at s t at)
  where
    by : ((k : ℕ) → at + k ≤ (parting_in f s t (at + k) (suc n)).at) → (u : Turn) → at ≤ (turned u at n (λ k. parting_in f s t (at + k) (suc n))).at
    by go (On k) = omega (arith, go k)
    by go (Ends next) = omega arith

-- not before its start
pub from-later : (s t : List ℕ) (at n : ℕ) → at ≤ (parting_from s t at n).at
unfolding parting_from
from-later s t at n = in-later (suc (length s)) s t at n

-- within both, and behind no more records than bytes

pub record Within (s t : List ℕ) (p : Parted) : Type 0 where
  pub student : p.at ≤ length s
  pub reference : p.at ≤ length t
  pub records : p.records ≤ p.at

in_within : (f : ℕ) (s t : List ℕ) (at n : ℕ) → at ≤ length s → at ≤ length t → n ≤ at → Within s t (parting_in f s t at n)
unfolding parting_in
in_within zero s t at n h k i = record { student = h; reference = k; records = i }
in_within (suc f) s t at n h k i = by (λ j. in_within f s t (at + j) (suc n)) (turn_at s t at) refl
  where
    by : ((j : ℕ) → at + j ≤ length s → at + j ≤ length t → suc n ≤ at + j → Within s t (parting_in f s t (at + j) (suc n)))
        → (u : Turn) → turn_at s t at ≡ u → Within s t (turned u at n (λ j. parting_in f s t (at + j) (suc n)))
    by go (On j) e =
        let same = turn_on s t at j e in
        let fit = due-fits s at j same.student in
        go j fit.fits (due-fits t at j same.reference).fits (omega (arith, fit.some))
    by go (Ends next) e = record { student = h; reference = k; records = i }

pub parted-within : (s t : List ℕ) → Within s t (parting_of s t)
unfolding parting_of parting_from
parted-within s t = in_within (suc (length s)) s t 0 0 (omega arith) (omega arith) (omega arith)
