-- `ccnet_frame::put` meets its contract: the room's first i bytes, and the bytes left laid from there on, are all the bytes laid
-- from the start; and those left, after the check so far, give the check after all. Assumes nothing.
use mathlib.Core.Path.{◌≡◌, ◌∙◌}
use Prim.Native.Nat.{◌<◌}
use native.Mathlib.Numerals.{add-one}
use lib.ListN.{length, length-set}
use lib.Seq.{drop-cons}
use Rattle.refusals.proofs.Writing.{over-one}
use Rattle.ccnet_check.proofs.Checks.{check-next, check-end}
use Rattle.ccnet_frame.proofs.Laying.{over-end}
use native.Mathlib.Omega.{arith}
use Rattle.ccnet_frame.proofs.put.Goals as goal

pub loop-i-preserved : goal.loop-i-preserved
loop-i-preserved c =
    let l = c.loop-i in
    let s = c.args.bytes.now in
    let h : l.i < length s = c.loop-i-test.true in
    let r : l.i < length l.room = omega (arith, c.requires) in (
      simp length-set l.invariant.0,
      rw (add-one l.i) (over-one _ _ _ l.room l.i (drop-cons s l.i 0 h) r ∙ l.invariant.1),
      rw (add-one, c.with_byte-sum.ensures, ← check-next, ← drop-cons s l.i 0 h) l.invariant.2,
    )

pub returns : goal.returns
returns c =
    let l = c.loop-i in
    let s = c.args.bytes.now in
    let e : l.i ≡ length s = omega arith in (
      check-end l.sum l.i _ s e l.invariant.2,
      over-end s l.room _ l.i e l.invariant.1,
    )
