-- `grading_rules::desk::Desk::fresh` meets its contract. Assumes nothing.
use Rattle.grading_rules.specs.Replay.{fresh_desk}
use Rattle.grading_rules.proofs.desk.Desk.fresh.Goals as goal

pub returns : goal.returns
unfolding fresh_desk
returns c = simp (c.fresh.ensures, c.fresh-2.ensures, c.fresh-3.ensures)
