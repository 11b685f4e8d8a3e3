-- Each look that goes on passes over some bytes, a window at most, and no more records than bytes.
use Rattle.std.proofs.Common.{◌-◌, ◌≤◌}
use Rattle.compare.proofs.compare_files.Given as goal

abbrev pub invariant-loop-at : goal.invariant-loop-at
invariant-loop-at l = (l.records ≤ l.at) × (l.at ≤ 4_295_032_831)

abbrev pub decreases-loop-at : goal.decreases-loop-at
decreases-loop-at l = 4_295_032_831 - l.at
