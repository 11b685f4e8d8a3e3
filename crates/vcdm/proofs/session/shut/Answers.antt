-- `vcdm::session::shut` meets its contract. Assumes nothing.
use mathlib.Core.Path.{◌∙◌}
use Rattle.vcdm_rules.proofs.Judged.{more-most}
use native.Mathlib.Omega.{arith}
use Rattle.vcdm.proofs.session.shut.Goals as goal

pub overflow_add-need : goal.overflow_add-need
overflow_add-need c = omega (arith, c.more_quiet.ensures, more-most c.args.code)

pub returns : goal.returns
returns c = c.closed.ensures ∙ rw c.more_quiet.ensures
