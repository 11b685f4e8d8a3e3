-- `parted::turn_at` meets its contract. Assumes nothing.
use mathlib.Core.Path.{sym, ap, ◌∙◌}
use Rattle.std.specs.Prelude.{Ok}
use Rattle.parted.proofs.Turns.{turn_by_lem}
use Rattle.parted.proofs.turn_at.Goals as goal

pub beside_record-requires : goal.beside_record-requires
beside_record-requires c = sym c.due_at.ensures ∙ (c.in-Ok-Some.is ∙ ap Ok c.in-Ok-Some.field-0-is)

pub returns-in-Ok-None : goal.returns-in-Ok-None
returns-in-Ok-None c = c.beside_end.ensures ∙ turn_by_lem _ _ _ _ (sym c.due_at.ensures ∙ (c.in-Ok-None.is ∙ ap Ok c.in-Ok-None.field-0-is))

pub returns-in-Ok-Some : goal.returns-in-Ok-Some
returns-in-Ok-Some c = c.beside_record.ensures ∙ turn_by_lem _ _ _ _ (sym c.due_at.ensures ∙ (c.in-Ok-Some.is ∙ ap Ok c.in-Ok-Some.field-0-is))

pub returns-in-Err : goal.returns-in-Err
returns-in-Err c = let here = c.args in turn_by_lem here.student.now here.reference.now _ _ (sym c.due_at.ensures ∙ c.in-Err.is)
