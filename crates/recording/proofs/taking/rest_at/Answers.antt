-- `recording::taking::rest_at` meets its contract. The invariant: the reader goes on from i to what is found. Assumes nothing.
use mathlib.Core.Path.{◌≡◌, refl, sym, ap, ◌∙◌}
use Rattle.std.specs.Prelude.{Ok}
use Rattle.recording.specs.Outcome.{More, Whole}
use Rattle.recording.proofs.Glances.{found-start, goes_on, is_whole, is-bad, found-end}
use native.Mathlib.Omega.{arith}
use Rattle.recording.proofs.taking.rest_at.Goals as goal

pub loop-i-init : goal.loop-i-init
loop-i-init c = found-start _ _ _

pub loop-i-preserved : goal.loop-i-preserved
loop-i-preserved c =
    let turn = c.loop-i in
    let inside : Ok c.in-Ok-None.field-0 ≡ More = ap Ok (rw c.in-Ok-None.is at c.in-Ok-None.field-0-is) in
    goes_on turn.reader _ turn.i _ c.loop-i-test.true c.byte-step.result c.byte-step.ensures turn.invariant _ (omega arith) (c.in-Ok-None.is ∙ inside)

pub returns-in-Ok-Some : goal.returns-in-Ok-Some
returns-in-Ok-Some c =
    let turn = c.loop-i in
    let inside : Ok c.in-Ok-Some.field-0 ≡ Whole c.in-Ok-Some.x = ap Ok (rw c.in-Ok-Some.is at c.in-Ok-Some.field-0-is) in
    is_whole turn.reader _ turn.i _ c.loop-i-test.true c.byte-step.result c.byte-step.ensures turn.invariant _ (omega arith) (c.in-Ok-Some.is ∙ inside)

pub returns-in-Err : goal.returns-in-Err
returns-in-Err c =
    let turn = c.loop-i in
    is-bad turn.reader _ turn.i _ c.loop-i-test.true c.byte-step.result c.byte-step.ensures turn.invariant _ refl c.in-Err.is

pub returns : goal.returns
returns c = let end = c.loop-i in sym (found-end end.reader end.i _ _ end.i c.loop-i-test.false) ∙ end.invariant
