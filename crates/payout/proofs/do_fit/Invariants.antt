-- `payout::do_fit` meets its contract: whether the cassettes from i on fit is whether all of them do. Assumes nothing.
use mathlib.Core.Path.{◌≡◌}
use lib.ListN.{drop}
use Rattle.payout.specs.Plan.{cassettes_fit}
use Rattle.payout.proofs.do_fit.Given as goal

abbrev pub invariant-loop-i : goal.invariant-loop-i
invariant-loop-i l = (cassettes_fit l.values l.stocks).test ≡ (cassettes_fit (drop l.i l.values) (drop l.i l.stocks)).test
