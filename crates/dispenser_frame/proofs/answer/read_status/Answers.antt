-- `dispenser_frame::answer::read_status` meets its contract, the fixed byte first; sensor 1 may be any byte. Assumes nothing.
use mathlib.Core.Path.{sym, ◌∙◌}
use mathlib.Core.Bool.{and-true}
use lib.ListN.{get_or}
use borrow.Author.Tests.{eq-eqb, ne_eqb}
use Rattle.xor_frame.specs.Layout.{all_in_range}
use Rattle.xor_frame.proofs.Raw.{raw_values}
use Rattle.dispenser_frame_rules.specs.Table.{table, line_in}
use Rattle.dispenser_frame_rules.specs.Answer.{answer_fits}
use Rattle.dispenser_frame_rules.proofs.Codes.{any-byte}
use Rattle.dispenser_frame.proofs.Reading.{status-read}
use native.Mathlib.Omega.{arith}
use Rattle.dispenser_frame.proofs.answer.read_status.Goals as goal

pub returns-then-s-ne48 : goal.returns-then-s-ne48
returns-then-s-ne48 c = sym (status-read c.args.s.now ∙ simp (ne_eqb _ _ c.if-s-ne48.true))

pub classed-requires-clause-judged : goal.classed-requires-clause-judged
unfolding answer_fits all_in_range table line_in
classed-requires-clause-judged c =
    let b = any-byte (get_or c.args.s.now 7 0) (omega (arith, c.type_inv.s 7)) in
    simp (b, c.status_fits.ensures, and-true)

pub returns : goal.returns
unfolding raw_values
returns c = sym (status-read c.args.s.now ∙ (simp (eq-eqb _ _ c.if-s-ne48.false)) ∙ sym c.classed.ensures)
