-- `grading_step::counted` meets its contract. Assumes nothing.
use Rattle.grading_step.proofs.counted.Goals as goal

pub returns-then-declined : goal.returns-then-declined
returns-then-declined c = rw c.if-declined.true
