-- `grading::desk::is_begun` meets its contract. Assumes nothing.
use Rattle.grading.proofs.Loops.{not-due, past-kind}
use Rattle.grading.proofs.desk.is_begun.Goals as goal

pub returns-in_default : goal.returns-in_default
returns-in_default c = not-due c.args.reader.place (past-kind _ c.in_default.not-Kind)
