-- `grading_step::cleared` meets its contract. Assumes nothing.
use Rattle.dispenser_rules.specs.Session.{session_clear}
use Rattle.validator_rules.specs.Bills.{booked_by}
use Rattle.grading_step.specs.Scaffolding.{entered}
use Rattle.grading_step.proofs.cleared.Goals as goal

pub returns : goal.returns
unfolding session_clear booked_by entered
returns c = λ a bs store store255 table. simp (c.assembled.ensures, c.counted-declined.ensures, c.payer_declines.ensures, c.step_clear-step.ensures)
