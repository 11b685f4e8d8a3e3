-- What is fed stays counted.
use Rattle.grading_rules.specs.Promises.{Counted}
use Rattle.feeding.proofs.fed_from.Given as goal

abbrev pub invariant-loop : goal.invariant-loop
invariant-loop g l = Counted l.replay
