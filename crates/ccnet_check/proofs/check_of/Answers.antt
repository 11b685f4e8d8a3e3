-- `ccnet_check::check_of` meets its contract: the bytes left, after the check so far, give the check of all. Assumes nothing.
use mathlib.Core.Path.{refl}
use native.Mathlib.Numerals.{add-one}
use lib.Seq.{drop-cons}
use Rattle.ccnet_check.specs.Check.{check}
use Rattle.ccnet_check.proofs.Checks.{check-next, check-end}
use native.Mathlib.Omega.{arith}
use Rattle.ccnet_check.proofs.check_of.Goals as goal

pub loop-b-init : goal.loop-b-init
unfolding check
loop-b-init c = refl

pub loop-b-preserved : goal.loop-b-preserved
loop-b-preserved c =
    let l = c.loop-b in
    rw (add-one, c.with_byte-c.ensures, ← check-next, ← drop-cons c.args.s.now l.b-index 0 c.loop-b-test.true) l.invariant

pub returns : goal.returns
returns c =
    let l = c.loop-b in
    check-end l.c l.b-index _ c.args.s.now (omega arith) l.invariant
