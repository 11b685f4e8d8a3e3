-- `grading_step::commanded` meets its contract. Assumes nothing.
use Rattle.validator_rules.specs.Session.{session_request}
use Rattle.validator_rules.specs.Bills.{booked_by}
use Rattle.grading_step.specs.Scaffolding.{joined, entered}
use Rattle.grading_step.proofs.Steps.{by-request}
use Rattle.grading_step.proofs.commanded.Goals as goal

pub returns : goal.returns
unfolding session_request booked_by entered
returns c =
    λ a bs store store255 table.
    let args = c.args in
    simp (c.assembled.ensures, c.counted-declined.ensures, c.taker_declines.ensures) (by-request (joined args.run a bs store store255 table) c.step_request-step.ensures)
