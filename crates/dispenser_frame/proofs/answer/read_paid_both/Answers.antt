-- `dispenser_frame::answer::read_paid_both` meets its contract, field by field. Assumes nothing.
use mathlib.Core.Path.{sym, ◌∙◌}
use Rattle.xor_frame.proofs.Raw.{raw_values}
use Rattle.dispenser_frame_rules.specs.Table.{table, line_in}
use Rattle.dispenser_frame_rules.specs.Answer.{answer_fits}
use Rattle.dispenser_frame.proofs.Reading.{paid-both-read}
use Rattle.dispenser_frame.proofs.answer.read_paid_both.Goals as goal

pub classed-requires-clause-judged : goal.classed-requires-clause-judged
unfolding answer_fits table line_in
classed-requires-clause-judged c = c.paid_both_fits-fit.ensures

pub returns : goal.returns
unfolding raw_values
returns c =
    c.classed.ensures
    ∙ rw (c.count-upper_chk.ensures, c.count-upper_exit.ensures, c.count-lower_chk.ensures, c.count-lower_exit.ensures, c.count-upper_rejects.ensures, c.count-lower_rejects.ensures)
    (sym (paid-both-read c.args.s.now))
