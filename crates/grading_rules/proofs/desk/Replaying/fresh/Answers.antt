-- `grading_rules::desk::Replaying::fresh` meets its contract. Assumes nothing.
use Rattle.grading_rules.specs.Feeding.{fresh_replay}
use Rattle.grading_rules.proofs.desk.Replaying.fresh.Goals as goal

pub returns : goal.returns
unfolding fresh_replay
returns c = simp (c.fresh.ensures, c.fresh-2.ensures)
