-- `grading_step::validator_byte` meets its contract. Assumes nothing.
use Rattle.validator_rules.specs.Session.{session_byte}
use Rattle.grading_step.specs.Scaffolding.{joined, entered}
use Rattle.grading_step.proofs.Steps.{by_byte}
use Rattle.grading_step.proofs.validator_byte.Goals as goal

pub returns : goal.returns
unfolding session_byte entered
returns c =
    λ a bs store.
    let args = c.args in
    simp (c.assembled.ensures, c.counted-declined.ensures, c.taker_declines.ensures) (by_byte (joined args.run a bs store args.store255.now args.table.now) c.step_byte-step.ensures)
