-- `grading::desk::broken` meets its contract. Assumes nothing.
use Rattle.grading_rules.specs.Feeding.{broken_at}
use Rattle.grading.proofs.desk.broken.Goals as goal

pub returns : goal.returns
unfolding broken_at
returns c = simp c.fresh.ensures
