-- `parted::beside_record` meets its contract: each record is compared where it stands. Assumes nothing.
use mathlib.Core.Path.{sym, ap, ◌∙◌}
use Rattle.std.specs.Prelude.{Ok}
use Rattle.parted.specs.Parting.{beside_record}
use Rattle.parted.proofs.Turns.{due-fits, beside-on, beside-other}
use native.Mathlib.Omega.{arith}
use Rattle.parted.proofs.beside_record.Goals as goal

pub overflow_add-at : goal.overflow_add-at
overflow_add-at c = let here = c.args in omega (arith, (due-fits here.student.now here.at here.n c.requires).fits)

pub slice_bounds-is_equal-end : goal.slice_bounds-is_equal-end
slice_bounds-is_equal-end c = let here = c.args in omega (arith, (due-fits here.student.now here.at here.n c.requires).fits)

pub overflow_add-at-in-Ok-Some : goal.overflow_add-at-in-Ok-Some
overflow_add-at-in-Ok-Some c = let here = c.args in omega (arith, (due-fits here.reference.now here.at _ (sym c.due_at.ensures ∙ (c.in-Ok-Some.is ∙ ap Ok c.in-Ok-Some.field-0-is))).fits)

pub slice_bounds-is_equal-end-in-Ok-Some : goal.slice_bounds-is_equal-end-in-Ok-Some
slice_bounds-is_equal-end-in-Ok-Some c = let here = c.args in omega (arith, (due-fits here.reference.now here.at _ (sym c.due_at.ensures ∙ (c.in-Ok-Some.is ∙ ap Ok c.in-Ok-Some.field-0-is))).fits)

pub returns-then-is_equal : goal.returns-then-is_equal
returns-then-is_equal c =
    let here = c.args in
    beside-on here.student.now here.reference.now here.at here.n _ (sym c.due_at.ensures ∙ (c.in-Ok-Some.is ∙ ap Ok c.in-Ok-Some.field-0-is)) c.is_equal.ensures c.if-is_equal.true

pub returns-in-Ok-None : goal.returns-in-Ok-None
returns-in-Ok-None c = let here = c.args in sym (ap (beside_record here.student.now here.reference.now here.at here.n) (sym c.due_at.ensures ∙ (c.in-Ok-None.is ∙ ap Ok c.in-Ok-None.field-0-is)))

pub returns-else-is_equal : goal.returns-else-is_equal
returns-else-is_equal c =
    let here = c.args in
    beside-other here.student.now here.reference.now here.at here.n _ (sym c.due_at.ensures ∙ (c.in-Ok-Some.is ∙ ap Ok c.in-Ok-Some.field-0-is)) c.is_equal.ensures c.if-is_equal.false

pub returns-in-Err : goal.returns-in-Err
returns-in-Err c = let here = c.args in sym (ap (beside_record here.student.now here.reference.now here.at here.n) (sym c.due_at.ensures ∙ c.in-Err.is))
