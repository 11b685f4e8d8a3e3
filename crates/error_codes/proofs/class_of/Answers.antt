-- `error_codes::class_of` meets its contract. Assumes nothing.
use mathlib.Core.Path.{ap}
use Rattle.refusals.specs.Rules.{among}
use Rattle.error_codes.specs.Errors.{listed, error_class}
use Rattle.error_codes.proofs.class_of.Goals as goal

pub returns-then-first-error : goal.returns-then-first-error
unfolding error_class listed among
returns-then-first-error c = ap error_class c.if-first-error.true
