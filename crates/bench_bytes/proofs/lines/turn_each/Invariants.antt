use Rattle.std.proofs.Common.{◌≤◌}
use Rattle.bench_bytes.proofs.lines.turn_each.Given as goal

abbrev pub invariant-loop-k : goal.invariant-loop-k
invariant-loop-k g l = l.refused ≤ l.k
