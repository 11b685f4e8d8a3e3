-- `recording::judge` meets its contract. The invariant: the reader goes on from i as the whole recording is judged. Assumes nothing.
use mathlib.Core.Path.{sym, ap, ◌∙◌}
use Rattle.recording.specs.Reading.{read_recording, verdict_of, verdict}
use Rattle.recording.proofs.Folds.{taking-end, taking-bad, taking-on, verdict-closing}
use Rattle.recording.proofs.judge.Goals as goal

pub loop-i-init : goal.loop-i-init
unfolding verdict read_recording
loop-i-init c = rw c.fresh-reader.ensures

pub returns-in-Err : goal.returns-in-Err
returns-in-Err c =
    let turn = c.loop-i in
    let is = taking-bad turn.reader _ turn.i c.loop-i-test.true c.taken-step.result c.taken-step.ensures c.in-Err.is in
    sym (ap verdict_of is) ∙ turn.invariant

pub loop-i-preserved : goal.loop-i-preserved
loop-i-preserved c =
    let turn = c.loop-i in
    sym (taking-on turn.reader _ turn.i c.loop-i-test.true c.taken-step.result c.taken-step.ensures c.in_default.not-Err) ∙ turn.invariant

pub returns : goal.returns
returns c =
    let end = c.loop-i in
    c.ended.ensures ∙ sym (verdict-closing _) ∙ sym (ap verdict_of (taking-end end.reader end.i _ end.i c.loop-i-test.false)) ∙ end.invariant
