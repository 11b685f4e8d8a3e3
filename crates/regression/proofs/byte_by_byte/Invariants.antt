use Rattle.grading_rules.specs.Promises.{Counted}
use Rattle.regression.proofs.byte_by_byte.Given as goal

abbrev pub invariant-loop-i : goal.invariant-loop-i
invariant-loop-i l = Counted l.replay
