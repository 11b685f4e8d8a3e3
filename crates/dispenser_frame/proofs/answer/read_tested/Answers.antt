-- `dispenser_frame::answer::read_tested` meets its contract, the two fixed bytes first. Assumes nothing.
use mathlib.Core.Path.{sym, ◌∙◌}
use mathlib.Core.Bool.{and-false}
use borrow.Author.Tests.{eq-eqb, ne_eqb}
use Rattle.xor_frame.proofs.Raw.{raw_values}
use Rattle.dispenser_frame_rules.specs.Answer.{answer_fits}
use Rattle.dispenser_frame_rules.proofs.Codes.{test_fields}
use Rattle.dispenser_frame.proofs.Reading.{tested-read}
use Rattle.dispenser_frame.proofs.answer.read_tested.Goals as goal
use Rattle.dispenser_frame.proofs.answer.read_tested.Goals.{then-s-ne48-via-then-s-ne48, then-s-ne48-via-else-s-ne48+then-s-ne48-2}

pub classed-requires-clause-judged : goal.classed-requires-clause-judged
unfolding answer_fits
classed-requires-clause-judged c = simp (test_fields, c.tested_fits.ensures)

pub returns : goal.returns
unfolding raw_values
returns c =
    sym (tested-read c.args.cassette c.args.s.now ∙ (simp (eq-eqb _ _ c.if-s-ne48.false, eq-eqb _ _ c.if-s-ne48-2.false, ← c.count-chk.ensures, ← c.count-rejects.ensures)) ∙ sym c.classed.ensures)

pub returns-then-s-ne48 : goal.returns-then-s-ne48
returns-then-s-ne48 c =
    sym (
    tested-read c.args.cassette c.args.s.now
    ∙ (
    elim c.then-s-ne48.branch [
      | then-s-ne48-via-then-s-ne48 w ↦ simp (ne_eqb _ _ w.if-s-ne48.true)
      | then-s-ne48-via-else-s-ne48+then-s-ne48-2 w ↦ simp (ne_eqb _ _ w.if-s-ne48-2.true, and-false)
    ]
    )
    )
