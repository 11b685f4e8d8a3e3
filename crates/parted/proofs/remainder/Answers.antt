-- `parted::remainder` meets its contract: a part of the one that `parting` names. Assumes nothing.
use mathlib.Core.Path.{◌≡◌, refl, sym, ap, ◌∙◌, subst}
use Prim.Native.Nat.{ℕ}
use mathlib.Core.List.{List}
use denote.Ref.{Bor}
use Rattle.parted.specs.Next.{Next}
use Rattle.parted.specs.Next.{Rest}
use Rattle.parted.specs.declared.Parted.{Parted}
use Rattle.parted.specs.Remainder.{IsHandedBack}
use Rattle.parted.proofs.Turns.{parted-within}
use native.Mathlib.Omega.{arith}
use Rattle.parted.proofs.remainder.Goals as goal

pub slice_bounds-result-count : goal.slice_bounds-result-count
slice_bounds-result-count c =
    let here = c.args in
    omega (arith, (parted-within here.student.now here.reference.now).student, ap (λ p. p.at) c.parting-parted.ensures)

pub slice_bounds-result-start : goal.slice_bounds-result-start
slice_bounds-result-start c =
    let here = c.args in
    omega (arith, (parted-within here.student.now here.reference.now).student, ap (λ p. p.at) c.parting-parted.ensures)

pub slice_bounds-result-count-in-Ok-Reference : goal.slice_bounds-result-count-in-Ok-Reference
slice_bounds-result-count-in-Ok-Reference c =
    let here = c.args in
    omega (arith, (parted-within here.student.now here.reference.now).reference, ap (λ p. p.at) c.parting-parted.ensures)

pub slice_bounds-result-start-in-Ok-Reference : goal.slice_bounds-result-start-in-Ok-Reference
slice_bounds-result-start-in-Ok-Reference c =
    let here = c.args in
    omega (arith, (parted-within here.student.now here.reference.now).reference, ap (λ p. p.at) c.parting-parted.ensures)

-- what is handed back by what was found
handed-as : (s t r : Bor (List ℕ)) (p q : Parted) (next : Next) → p ≡ q → p.next ≡ next → IsHandedBack next p.at s t r → IsHandedBack q.next q.at s t r
handed-as s t r p q next e f h =
    subst (λ (x : Parted). IsHandedBack x.next x.at s t r) e (subst (λ (n : Next). IsHandedBack n p.at s t r) (sym f) h)

pub returns-in-Ok-Student : goal.returns-in-Ok-Student
returns-in-Ok-Student c =
    let here = c.args in
    handed-as here.student here.reference _ _ _ _ c.parting-parted.ensures (c.in-Ok-Student.is ∙ ap Rest (rw c.in-Ok-Student.is at c.in-Ok-Student.field-0-is)) (record { bytes = refl; place = refl })

pub returns-in-Ok-Reference : goal.returns-in-Ok-Reference
returns-in-Ok-Reference c =
    let here = c.args in
    handed-as here.student here.reference _ _ _ _ c.parting-parted.ensures (c.in-Ok-Reference.is ∙ ap Rest (rw c.in-Ok-Reference.is at c.in-Ok-Reference.field-0-is)) (record { bytes = refl; place = refl })

pub returns-in-Err : goal.returns-in-Err
returns-in-Err c =
    let here = c.args in
    handed-as here.student here.reference _ _ _ _ c.parting-parted.ensures c.in-Err.is (record { bytes = refl; place = refl })
