-- What is fed stays counted. Assumes nothing.
use Rattle.std.proofs.Common.{subst, sym}
use Rattle.grading_rules.specs.Promises.{Counted}
use Rattle.grading_rules.proofs.Cuts.{counted-fed, stays-counted}
use Rattle.regression.proofs.in_two.Goals as goal

pub feed-first-requires : goal.feed-first-requires
feed-first-requires c = subst Counted (sym c.fresh.ensures) stays-counted.at_first

pub feed-second-requires : goal.feed-second-requires
feed-second-requires c = subst Counted (sym c.feed-first.ensures) (counted-fed _ _ (subst Counted (sym c.fresh.ensures) stays-counted.at_first))

pub ended-requires : goal.ended-requires
ended-requires c =
    let first = subst Counted (sym c.feed-first.ensures) (counted-fed _ _ (subst Counted (sym c.fresh.ensures) stays-counted.at_first)) in
    subst Counted (sym c.feed-second.ensures) (counted-fed _ _ first)
