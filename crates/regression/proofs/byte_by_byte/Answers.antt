-- What is fed stays counted. Assumes nothing.
use Rattle.std.proofs.Common.{subst, sym}
use Rattle.grading_rules.specs.Promises.{Counted}
use Rattle.grading_rules.proofs.Cuts.{counted-fed, stays-counted}
use Rattle.regression.proofs.byte_by_byte.Goals as goal

pub loop-i-init : goal.loop-i-init
loop-i-init c = subst Counted (sym c.fresh-replay.ensures) stays-counted.at_first

pub feed-next-requires : goal.feed-next-requires
feed-next-requires c = subst Counted (sym c.feed-one.ensures) (counted-fed _ _ c.loop-i.invariant)

pub loop-i-preserved : goal.loop-i-preserved
loop-i-preserved c = subst Counted (sym c.feed-next.ensures) (counted-fed _ _ (subst Counted (sym c.feed-one.ensures) (counted-fed _ _ c.loop-i.invariant)))
