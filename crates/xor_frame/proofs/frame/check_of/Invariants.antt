-- `xor_frame::frame::check_of` meets its contract: what is left of the bytes, after the sum so far, gives the check of all.
-- Assumes nothing.
use mathlib.Core.Path.{◌≡◌}
use lib.ListN.{drop}
use Rattle.xor_frame.specs.Frame.{check_from, check}
use Rattle.xor_frame.proofs.frame.check_of.Given as goal

abbrev pub invariant-loop-b : goal.invariant-loop-b
invariant-loop-b l = check_from l.sum (drop l.b-index l.s) ≡ check l.s
