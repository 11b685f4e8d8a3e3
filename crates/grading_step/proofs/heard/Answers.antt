-- `grading_step::heard` meets its contract: where nothing closed and no frame was put, the books stay as they are; where something is booked, no more is read of the bytes put than
-- whether they are more than one. Assumes nothing.
use mathlib.Core.Path.{subst}
use borrow.Author.Tests.{lt-ltb, le-ltb}
use Rattle.grading_step.specs.Scaffolding.{ShortBy, Short, entered}
use Rattle.grading_step.proofs.heard.Goals as goal

pub returns-then-put-gt1 : goal.returns-then-put-gt1
unfolding entered
returns-then-put-gt1 c = λ a q n. rw (c.in-Ok.is, c.in-Nothing.is, lt-ltb _ _ c.if-put-gt1.true)

pub returns-then-again : goal.returns-then-again
unfolding entered
returns-then-again c = λ a q n. rw (c.in-Ok.is, c.in-Nothing.is, le-ltb _ _ c.if-put-gt1.false)

pub returns-in-Err : goal.returns-in-Err
unfolding entered
returns-in-Err c = λ a q n. rw c.in-Err.is

pub returns-else-again : goal.returns-else-again
unfolding entered
returns-else-again c =
    let short = subst (ShortBy _) c.in-Nothing.is (subst Short c.in-Ok.is (c.requires c.if-again.false)) in
    λ a q n. rw (c.in-Ok.is, c.in-Nothing.is, le-ltb _ _ short)

pub returns-in-Answered : goal.returns-in-Answered
unfolding entered
returns-in-Answered c = λ a q n. rw (c.in-Ok.is, c.in-Answered.is)

pub returns-in-Refused : goal.returns-in-Refused
unfolding entered
returns-in-Refused c = λ a q n. rw (c.in-Ok.is, c.in-Refused.is)

pub returns-in-Unknown : goal.returns-in-Unknown
unfolding entered
returns-in-Unknown c = λ a q n. rw (c.in-Ok.is, c.in-Unknown.is)
