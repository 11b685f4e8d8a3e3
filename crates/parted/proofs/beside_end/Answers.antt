-- `parted::beside_end` meets its contract. Assumes nothing.
use mathlib.Core.Path.{sym, ap, ◌∙◌}
use Rattle.std.specs.Prelude.{Ok}
use Rattle.parted.specs.Parting.{beside_end}
use Rattle.parted.proofs.beside_end.Goals as goal

pub returns-in-Ok-None : goal.returns-in-Ok-None
returns-in-Ok-None c = sym (ap beside_end (sym c.due_at.ensures ∙ (c.in-Ok-None.is ∙ ap Ok c.in-Ok-None.field-0-is)))

pub returns-in-Ok-Some : goal.returns-in-Ok-Some
returns-in-Ok-Some c = sym (ap beside_end (sym c.due_at.ensures ∙ (c.in-Ok-Some.is ∙ ap Ok c.in-Ok-Some.field-0-is)))

pub returns-in-Err : goal.returns-in-Err
returns-in-Err c = sym (ap beside_end (sym c.due_at.ensures ∙ c.in-Err.is))
