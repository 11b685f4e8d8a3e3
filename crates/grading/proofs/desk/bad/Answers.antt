-- `grading::desk::bad` meets its contract. Assumes nothing.
use Rattle.grading.proofs.desk.bad.Goals as goal

pub returns : goal.returns
returns c = simp (c.fresh.ensures, c.fresh-2.ensures)
