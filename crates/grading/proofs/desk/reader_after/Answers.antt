-- `grading::desk::reader_after` meets its contract. The invariant: the reader goes on from i as from the start. Assumes nothing.
use mathlib.Core.Path.{refl, sym, ◌∙◌}
use Rattle.grading.proofs.Loops.{after_one, after-end}
use borrow.Author.Rules.{rules}
use Rattle.grading.proofs.desk.reader_after.Goals as goal

pub loop-i-init : goal.loop-i-init
loop-i-init c = (search rules, refl)

pub loop-i-preserved : goal.loop-i-preserved
loop-i-preserved c =
    let turn = c.loop-i in (
      search rules,
      after_one turn.reader turn.p _ turn.i c.loop-i-test.true c.taken.result c.taken.ensures ∙ turn.invariant.1,
    )

pub returns : goal.returns
returns c = let end = c.loop-i in sym (after-end end.reader end.p _ end.i c.loop-i-test.false) ∙ end.invariant.1
