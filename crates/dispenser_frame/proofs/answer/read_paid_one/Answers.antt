-- `dispenser_frame::answer::read_paid_one` meets its contract, field by field. Assumes nothing.
use mathlib.Core.Path.{sym, ◌∙◌}
use Rattle.xor_frame.proofs.Raw.{raw_values}
use Rattle.dispenser_frame_rules.specs.Answer.{answer_fits}
use Rattle.dispenser_frame_rules.proofs.Codes.{pay-fields}
use Rattle.dispenser_frame.proofs.Reading.{paid-one-read}
use Rattle.dispenser_frame.proofs.answer.read_paid_one.Goals as goal

pub classed-requires-clause-judged : goal.classed-requires-clause-judged
unfolding answer_fits
classed-requires-clause-judged c = simp (pay-fields, c.paid_one_fits.ensures)

pub returns : goal.returns
unfolding raw_values
returns c =
    c.classed.ensures ∙ rw (c.count-chk.ensures, c.count-exit.ensures, c.count-rejects.ensures) (sym (paid-one-read c.args.cassette c.args.s.now))
