use Rattle.std.proofs.Common.{length, ◌≤◌}
use Rattle.sheet.proofs.words.part.Given as goal

abbrev pub invariant-loop : goal.invariant-loop
invariant-loop l = l.at ≤ length l.s
