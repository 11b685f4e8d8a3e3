-- `dispenser_frame::answer::read_purged` meets its contract: the one field. Assumes nothing.
use mathlib.Core.Path.{sym, ◌∙◌}
use mathlib.Core.Bool.{and-true}
use Rattle.xor_frame.specs.Layout.{all_in_range}
use Rattle.xor_frame.proofs.Raw.{raw_values}
use Rattle.dispenser_frame_rules.specs.Table.{table, line_in}
use Rattle.dispenser_frame_rules.specs.Answer.{answer_fits}
use Rattle.dispenser_frame.proofs.Reading.{purged-read}
use Rattle.dispenser_frame.proofs.answer.read_purged.Goals as goal

pub classed-requires-clause-judged : goal.classed-requires-clause-judged
unfolding answer_fits all_in_range table line_in
classed-requires-clause-judged c = simp (c.is_error.ensures, and-true)

pub returns : goal.returns
unfolding raw_values
returns c = c.classed.ensures ∙ sym (purged-read c.args.s.now)
