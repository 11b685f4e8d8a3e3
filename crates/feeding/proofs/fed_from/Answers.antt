-- What is fed stays counted. Assumes nothing.
use Rattle.std.proofs.Common.{subst, sym}
use Rattle.grading_rules.specs.Promises.{Counted}
use Rattle.grading_rules.proofs.Cuts.{counted-fed, stays-counted}
use Rattle.feeding.proofs.fed_from.Goals as goal
use Rattle.feeding.proofs.fed_from.Goals.{else-loop-test, then-loop-test+in-Ok-eq0, then-loop-test+in-Ok+then-is_bad}

pub loop-init : goal.loop-init
loop-init g c = subst Counted (sym c.fresh-replay.ensures) stays-counted.at_first

pub loop-preserved : goal.loop-preserved
loop-preserved g c = subst Counted (sym c.feed-replay.ensures) (counted-fed _ _ c.loop.invariant)

pub left-requires-2 : goal.left-requires-2
left-requires-2 g c =
    elim c.loop-test.branch [
      | else-loop-test w ↦ subst Counted (sym w.replay-is) c.loop.invariant
      | then-loop-test+in-Ok-eq0 w ↦ subst Counted (sym w.replay-is) c.loop.invariant
      | then-loop-test+in-Ok+then-is_bad w ↦ subst Counted (sym w.replay-is) (subst Counted (sym w.feed-replay.ensures) (counted-fed _ _ c.loop.invariant))
    ]
