-- `grading_step::written` meets its contract. Assumes nothing.
use Rattle.grading_step.proofs.written.Goals as goal

pub returns-in-Nothing : goal.returns-in-Nothing
returns-in-Nothing c = rw c.in-Nothing.is c.unwritten.ensures

pub returns-in-Asked : goal.returns-in-Asked
returns-in-Asked c = rw c.in-Asked.is c.write_down.ensures

pub returns-in-Heard : goal.returns-in-Heard
returns-in-Heard c = rw c.in-Heard.is c.write_down-in-Heard.ensures
