-- `ccnet_frame::lay` meets its contract: the head, the body behind it, and behind both their check. Assumes nothing.
use mathlib.Core.Path.{◌≡◌, ◌∙◌}
use mathlib.Core.List.{◌++◌}
use lib.ListN.{length-set}
use Rattle.ccnet_check.specs.Check.{check}
use Rattle.ccnet_check.proofs.Checks.{check-append}
use Rattle.ccnet_frame.proofs.Laying.{over-more, closed-laid}
use borrow.Author.Rules.{rules}
use Rattle.ccnet_frame.proofs.lay.Goals as goal

pub bounds-room-end-2 : goal.bounds-room-end-2
bounds-room-end-2 c = simp length-set (search rules)

pub shape_of-room : goal.shape_of-room
shape_of-room c = simp length-set (search rules)

pub returns : goal.returns
unfolding check
returns c =
    let head = c.args.head.now in
    let body = c.args.body.now in
    let room = c.args.room.now in
    let opened = c.put-opened.ensures in
    let filled = c.put-sum.ensures in
    let sum : c.put-sum.result ≡ check (head ++ body) = filled.0 ∙ rw (opened.0, check-append) in
    rw (over-more head body room _ _ opened.1 filled.1) (closed-laid head body room _ c.requires sum)
