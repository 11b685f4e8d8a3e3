-- `xor_frame::frame::check_of` meets its contract: what is left of the bytes, after the sum so far, gives the check of all.
-- Assumes nothing.
use native.Mathlib.Numerals.{add-one}
use native.Mathlib.Omega.{arith}
use lib.Seq.{drop-cons}
use Rattle.xor_frame.proofs.Check.{check-next, check-end}
use Rattle.xor_frame.proofs.frame.check_of.Goals as goal

pub loop-b-preserved : goal.loop-b-preserved
loop-b-preserved c =
    let l = c.loop-b in
    rw (add-one, ← check-next, ← drop-cons c.args.s.now l.b-index 0 c.loop-b-test.true) l.invariant

pub returns : goal.returns
returns c =
    let l = c.loop-b in
    check-end l.sum l.b-index c.args.s.now (omega arith) l.invariant
