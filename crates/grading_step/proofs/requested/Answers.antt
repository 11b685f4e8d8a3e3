-- `grading_step::requested` meets its contract. Assumes nothing.
use Rattle.dispenser_rules.specs.Session.{session_request, account_asked}
use Rattle.validator_rules.specs.Bills.{booked_by}
use Rattle.grading_step.specs.Scaffolding.{entered}
use Rattle.grading_step.proofs.requested.Goals as goal

pub returns : goal.returns
unfolding session_request account_asked booked_by entered
returns c = λ a bs store store255 table. simp (c.assembled.ensures, ← c.step_request-step.ensures, c.counted-declined.ensures, c.payer_declines.ensures)
