-- What stands where a record is due is told by the bytes from there on, and by nothing else. Assumes nothing.
use Prim.Native.Nat.{ℕ, ◌+◌, ◌≤◌, ◌<◌}
use mathlib.Core.Path.{◌≡◌, refl, sym, ap, ◌∙◌, subst}
use mathlib.Core.List.{List, ◌++◌}
use native.Mathlib.Omega.{arith}
use lib.ListN.{length, drop, length-drop, length-append}
use lib.Seq.{drop-drop, drop-append_seam}
use Rattle.refusals.specs.Rules.{at_most}
use Rattle.refusals.proofs.Rules.{by_cases}
use Rattle.numbers.specs.Promises.{AllBytes}
use Rattle.recording.specs.Record.{record_bytes}
use Rattle.recording.specs.Taking.{found_at}
use Rattle.recording.specs.Promises.{Faulty as Fault-in, kind, value, number, cut}
use Rattle.recording.specs.declared.Fault.{Fault}
use Rattle.recording.specs.declared.Record.{Record}
use Rattle.recording.specs.NextRecord.{NextRecord}
use Rattle.recording.specs.NextRecord.{Whole as IsWhole, Bad as IsBad}
use Rattle.recording.proofs.Back.{length-record}
use Rattle.recording.proofs.Exact.{taken-at-once}
use Rattle.parted.specs.Due.{Due}
use Rattle.parted.specs.Due.{End, Whole, Faulty}
use Rattle.parted.specs.Promises.{Starts, Sound}
use Rattle.parted.specs.Parting.{due_of, due_at}
use Rattle.parted.proofs.Turns.{due-end, due-inside}

-- what stands at the start of bytes u
pub data Stands (u : List ℕ) : Due → Type 0 where
  nothing : length u ≡ 0 → Stands u End
  one : (x : Record) → Starts x u → Stands u (Whole (length (record_bytes x)))
  none : (why : Fault) → Fault-in why u → Stands u (Faulty why)

pub faulty-some : {why : Fault} {u : List ℕ} → Fault-in why u → 0 < length u
faulty-some (kind k t h) = omega arith
faulty-some (value k ns t h l b n) = omega arith
faulty-some (number k ns t h l b e) = omega arith
faulty-some (cut k ns t h l b e) = omega arith

-- a record that starts there is followed by the rest
pub behind-record : (x : Record) (u : List ℕ) (w : Starts x u) → u ≡ record_bytes x ++ drop (length (record_bytes x)) u
behind-record x u w =
    w.are ∙ ap (λ (l : List ℕ). record_bytes x ++ l) (sym (ap (drop (length (record_bytes x))) w.are ∙ drop-append_seam (record_bytes x) w.rest))

pub starts-some : (x : Record) (u : List ℕ) → Starts x u → length (record_bytes x) ≤ length u
starts-some x u w = omega (arith, simp length-append at (ap length w.are))

module _ (s : List ℕ) (at : ℕ) (h : AllBytes s) where
  -- the place lies inside, where bytes stand there
  inside : 0 < length (drop at s) → at < length s
  inside l = omega (arith, simp length-drop at l)

  pub due-stands : Stands (drop at s) (due_at s at)
  due-stands =
      by_cases (at_most (length s) at)
      (λ l. subst (Stands (drop at s)) (sym (due-end s at l)) (nothing (simp length-drop (omega arith))))
      (λ n.
      let l : at < length s = omega arith in
      subst (Stands (drop at s)) (sym (due-inside s at l)) (by l (found_at s at) refl))
    where
      by : at < length s → (f : NextRecord) → found_at s at ≡ f → Stands (drop at s) (due_of f)
      by l (IsWhole x n) e =
          let r = (taken-at-once.whole s at h l x n).0 e in
          subst (λ (k : ℕ). Stands (drop at s) (Whole k)) (sym r.1) (one x (record { fit = r.0; rest = drop (at + n) s; are = r.2 }))
      by l (IsBad why) e = none why ((taken-at-once.faulty s at h l why).0 e)

  pub stands-due : (d : Due) → Stands (drop at s) d → due_at s at ≡ d
  stands-due d (nothing e) = due-end s at (omega (arith, simp length-drop at e))
  stands-due d (one x w) =
      let l = inside (omega (arith, starts-some x (drop at s) w, length-record x)) in
      due-inside s at l
      ∙ ap due_of
      ((taken-at-once.whole s at h l x (length (record_bytes x))).1
      (w.fit, refl, behind-record x (drop at s) w ∙ ap (λ (t : List ℕ). record_bytes x ++ t) (drop-drop (length (record_bytes x)) at s)))
  stands-due d (none why f) =
      let l = inside (faulty-some f) in
      due-inside s at l ∙ ap due_of ((taken-at-once.faulty s at h l why).1 f)

  -- what is an end or a record there shows no fault
  pub sound-end : due_at s at ≡ End → Sound (drop at s)
  sound-end e why f = let q = sym e ∙ stands-due (Faulty why) (none why f) in let z : ◌≡◌ {A = ℕ} 0 1 = cc in omega arith

  pub sound-whole : {n : ℕ} → due_at s at ≡ Whole n → Sound (drop at s)
  sound-whole e why f = let q = sym e ∙ stands-due (Faulty why) (none why f) in let z : ◌≡◌ {A = ℕ} 0 1 = cc in omega arith

-- the same bytes, the same record
pub due-same : (s t : List ℕ) (at i : ℕ) → AllBytes s → AllBytes t → drop at s ≡ drop i t → due_at s at ≡ due_at t i
due-same s t at i h k e = stands-due s at h (due_at t i) (subst (λ (u : List ℕ). Stands u (due_at t i)) (sym e) (due-stands t i k))
