-- `grading_step::booked` meets its contract. Assumes nothing.
use Rattle.grading_step.proofs.booked.Goals as goal

pub returns-in-Asked : goal.returns-in-Asked
returns-in-Asked c = rw (c.in-Asked.is, c.booked_request.ensures, c.advance-place.ensures, c.erred-errors.ensures)

pub returns-in-Heard : goal.returns-in-Heard
returns-in-Heard c = rw (c.in-Heard.is, c.booked.ensures, c.erred-errors-in-Heard.ensures)
