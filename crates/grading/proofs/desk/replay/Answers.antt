-- `grading::desk::replay` meets its contract. Assumes nothing.
use mathlib.Core.Path.{sym, subst}
use Rattle.grading_rules.specs.Promises.{Counted}
use Rattle.grading_rules.proofs.Cuts.{counted-fed, stays-counted}
use Rattle.grading.proofs.Loops.{replays}
use Rattle.grading.proofs.desk.replay.Goals as goal

pub feed-requires : goal.feed-requires
feed-requires c = subst Counted (sym c.fresh.ensures) stays-counted.at_first

pub ended-requires : goal.ended-requires
ended-requires c =
    subst Counted (sym c.feed.ensures) (counted-fed _ _ (subst Counted (sym c.fresh.ensures) stays-counted.at_first))

pub returns : goal.returns
returns c = replays _ c.fresh.ensures c.feed.ensures c.ended.ensures
