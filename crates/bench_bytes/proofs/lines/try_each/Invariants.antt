use Rattle.std.proofs.Common.{◌+◌, ◌≤◌}
use Rattle.bench_bytes.proofs.lines.try_each.Given as goal

abbrev pub invariant-loop-b : goal.invariant-loop-b
invariant-loop-b g l = l.taken ≤ l.b
