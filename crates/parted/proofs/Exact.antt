-- Two recordings part exactly where the longest run of equal whole records ends, and exactly as what follows it says. Assumes nothing.
use Prim.Native.Nat.{ℕ, zero, suc, ◌+◌, ◌≤◌, ◌<◌}
use mathlib.Core.Path.{◌≡◌, refl, sym, ap, ap₂, ◌∙◌, subst}
use mathlib.Core.List.{List, [], ◌∷◌, ◌++◌, append_assoc, append-nil}
use native.Mathlib.Omega.{arith}
use lib.ListN.{length, drop, drop_of_length-le}
use lib.Seq.{drop-drop, drop-length}
use Rattle.numbers.specs.Promises.{AllBytes}
use Rattle.recording.specs.Record.{record_bytes, laid, AllInRange}
use Rattle.recording.specs.declared.Record.{Record}
use Rattle.recording.proofs.Exact.{none-laid, more-laid}
use Rattle.parted.specs.Next.{Next}
use Rattle.parted.specs.declared.Parted.{Parted}
use Rattle.parted.specs.declared.Turn.{Turn}
use Rattle.parted.specs.declared.Turn.TheVariants.{On, Ends}
use Rattle.parted.specs.Parting.{turn_at, parted, turned, parting_in, parting_from, parting_of}
use Rattle.parted.specs.Promises.{Run, Starts, Sound, Follows, ExactlyWhen, EqualRecordings}
use Rattle.parted.proofs.Turns.{due-fits, turn_on, from-ends, from_start}
use Rattle.parted.proofs.Standing.{faulty-some, behind-record}
use Rattle.parted.proofs.Turning.{on-to, ends-to, ends-from}
use Rattle.parted.proofs.Omitted.{length-laid, passed}

-- ---- from a place on: the records that are passed over, and what follows them

record Ahead (s t : List ℕ) (at n : ℕ) (p : Parted) : Type 0 where
  good : List Record
  fit : AllInRange good
  count : p.records ≡ n + length good
  place : p.at ≡ at + length (laid good)
  student : drop at s ≡ laid good ++ drop p.at s
  reference : drop at t ≡ laid good ++ drop p.at t
  follows : Follows (drop p.at s) (drop p.at t) p.next

-- a record, and then those
module _ (x : Record) (good : List Record) (s : List ℕ) (at n q : ℕ) (e : n ≡ length (record_bytes x)) where
  one_more : Starts x (drop at s) → drop (at + n) s ≡ laid good ++ drop q s → drop at s ≡ laid (x ∷ good) ++ drop q s
  one_more w f =
      behind-record x (drop at s) w
      ∙ ap (λ (l : List ℕ). record_bytes x ++ l) (drop-drop (length (record_bytes x)) at s ∙ ap (λ (k : ℕ). drop (at + k) s) (sym e) ∙ f)
      ∙ sym (append_assoc (record_bytes x) (laid good) (drop q s))
      ∙ ap (λ (l : List ℕ). l ++ drop q s) (sym (more-laid x good))

module _ (s t : List ℕ) (h : AllBytes s) (k : AllBytes t) where
  stops : (at n : ℕ) (next : Next) → turn_at s t at ≡ Ends next → Ahead s t at n (parted at n next)
  stops at n next e =
      record {
        good = [];
        fit = tt;
        count = omega arith;
        place = omega (arith, ap length none-laid);
        student = sym (ap (λ (l : List ℕ). l ++ drop at s) none-laid);
        reference = sym (ap (λ (l : List ℕ). l ++ drop at t) none-laid);
        follows = ends-to s t at h k next e;
      }

  goes : (at n j : ℕ) (p : Parted) → turn_at s t at ≡ On j → Ahead s t (at + j) (suc n) p → Ahead s t at n p
  goes at n j p e a =
      let r = on-to s t at h k j e in
      let x = r.0 in
      let size = r.1.0 in
      record {
        good = x ∷ a.good;
        fit = (r.1.1.0.fit, a.fit);
        count = omega (arith, a.count);
        place = omega (arith, a.place, size, length-laid x a.good);
        student = one_more x a.good s at j p.at size r.1.1.0 a.student;
        reference = one_more x a.good t at j p.at size r.1.1.1 a.reference;
        follows = a.follows;
      }

  ahead : (f at n : ℕ) → at ≤ length s → length s < at + f → Ahead s t at n (parting_in f s t at n)
  unfolding parting_in
  ahead zero at n l m = absurd (omega arith)
  ahead (suc f) at n l m = by (λ j. ahead f (at + j) (suc n)) (turn_at s t at) refl
    where
      by : ((j : ℕ) → at + j ≤ length s → length s < at + j + f → Ahead s t (at + j) (suc n) (parting_in f s t (at + j) (suc n)))
          → (u : Turn) → turn_at s t at ≡ u → Ahead s t at n (turned u at n (λ j. parting_in f s t (at + j) (suc n)))
      by go (On j) e =
          let fit = due-fits s at j (turn_on s t at j e).student in
          goes at n j (parting_in f s t (at + j) (suc n)) e (go j fit.fits (omega (arith, m, fit.some)))
      by go (Ends next) e = stops at n next e

  said : Ahead s t 0 0 (parting_of s t)
  unfolding parting_of parting_from
  said = ahead (suc (length s)) 0 0 (omega arith) (omega arith)

  -- ---- both ways

  run-to : (p : Parted) → parting_of s t ≡ p → Run s t p.at p.records × Follows (drop p.at s) (drop p.at t) p.next
  run-to p e =
      let a = subst (Ahead s t 0 0) e said in (
        record {
          good = a.good;
          fit = a.fit;
          count = omega (arith, a.count);
          place = omega (arith, a.place);
          student = a.student;
          reference = a.reference;
        },
        a.follows,
      )

  run-from : (p : Parted) → Run s t p.at p.records → Follows (drop p.at s) (drop p.at t) p.next → parting_of s t ≡ p
  run-from p r f =
      sym (from_start s t)
      ∙ passed r.good s t (drop p.at s) (drop p.at t) 0 0 h k r.fit r.student r.reference
      ∙ ap₂ (λ (i j : ℕ). parting_from s t i j) (omega (arith, r.place)) (omega (arith, r.count))
      ∙ from-ends s t p.at p.records p.next (ends-from s t p.at h k p.next f)

pub exactly-when : ExactlyWhen
exactly-when s t h k p = (run-to s t h k p, λ r. run-from s t h k p r.0 r.1)

-- ---- equal recordings

empty : (l : List ℕ) → length l ≡ 0 → l ≡ []
empty [] e = refl
empty (b ∷ l) e = absurd (omega arith)

nothing-sound : (l : List ℕ) → l ≡ [] → Sound l
nothing-sound l e why f = omega (arith, faulty-some f, ap length e)

pub equal-recordings : EqualRecordings
equal-recordings s t n h k = (
  λ e.
      let r = (exactly-when s t h k _).0 e in
      let rest = empty (drop (length t) s) r.1.0 in
      let run = r.0 in
      record {
        good = run.good;
        fit = run.fit;
        count = run.count;
        student = run.student ∙ ap (λ (l : List ℕ). laid run.good ++ l) rest ∙ append-nil (laid run.good);
        reference = run.reference ∙ ap (λ (l : List ℕ). laid run.good ++ l) (drop-length t) ∙ append-nil (laid run.good);
      },
  λ q.
      let size : length t ≡ length (laid q.good) = ap length q.reference in
      let none : (u : List ℕ) → u ≡ laid q.good → drop (length t) u ≡ [] = λ u e. drop_of_length-le u {i = length t} (omega (arith, size, ap length e)) in
      let whole : (u : List ℕ) → u ≡ laid q.good → u ≡ laid q.good ++ drop (length t) u
      = λ u e. e ∙ sym (append-nil (laid q.good)) ∙ ap (λ (l : List ℕ). laid q.good ++ l) (sym (none u e)) in
      (exactly-when s t h k _).1 (
        record {
          good = q.good;
          fit = q.fit;
          count = q.count;
          place = size;
          student = whole s q.student;
          reference = whole t q.reference;
        },
        (ap length (none s q.student), nothing-sound _ (none t q.reference)),
      ),
)
