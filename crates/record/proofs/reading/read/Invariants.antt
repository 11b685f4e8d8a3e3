use Rattle.std.proofs.Common.{◌≡◌, length}
use Rattle.record.proofs.reading.read.Given as goal

abbrev pub invariant-loop : goal.invariant-loop
invariant-loop g l = length l.piece ≡ length l.initial.piece
