-- `dispenser_rules::errors::LastErrors::fresh` meets its contract. Assumes nothing.
use mathlib.Core.Path.{refl}
use Rattle.dispenser_rules.specs.Errors.{no_errors}
use Rattle.dispenser_rules.proofs.errors.LastErrors.fresh.Goals as goal

pub returns : goal.returns
unfolding no_errors
returns c = refl
