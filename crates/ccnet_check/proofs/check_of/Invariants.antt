-- `ccnet_check::check_of` meets its contract: the bytes left, after the check so far, give the check of all. Assumes nothing.
use mathlib.Core.Path.{◌≡◌}
use lib.ListN.{drop}
use Rattle.ccnet_check.specs.Check.{check_from, check}
use Rattle.ccnet_check.proofs.check_of.Given as goal

abbrev pub invariant-loop-b : goal.invariant-loop-b
invariant-loop-b l = check_from l.c (drop l.b-index l.s) ≡ check l.s
