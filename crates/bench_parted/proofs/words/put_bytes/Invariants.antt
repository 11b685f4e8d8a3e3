use Rattle.std.proofs.Common.{length, ◌≤◌}
use Rattle.bench_parted.proofs.words.put_bytes.Given as goal

abbrev pub invariant-loop-held : goal.invariant-loop-held
invariant-loop-held l = l.n ≤ length l.yielded
