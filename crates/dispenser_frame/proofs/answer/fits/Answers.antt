-- `dispenser_frame::answer::fits` meets its contract, kind by kind of answer. Assumes nothing.
use mathlib.Core.Bool.{and-true}
use Rattle.xor_frame.specs.Layout.{all_in_range}
use Rattle.dispenser_frame_rules.specs.Table.{table, line_in}
use Rattle.dispenser_frame_rules.specs.Answer.{answer_fits}
use Rattle.dispenser_frame_rules.proofs.Codes.{pay-fields, test_fields, any-byte}
use native.Mathlib.Omega.{arith}
use Rattle.dispenser_frame.proofs.answer.fits.Goals as goal

pub returns-in-Purged : goal.returns-in-Purged
unfolding answer_fits all_in_range table line_in
returns-in-Purged c = rw c.in-Purged.is (simp (c.is_error.ensures, and-true))

pub returns-in-PaidOne : goal.returns-in-PaidOne
unfolding answer_fits
returns-in-PaidOne c = rw c.in-PaidOne.is (simp (pay-fields, c.paid_one_fits.ensures))

pub returns-in-PaidBoth : goal.returns-in-PaidBoth
unfolding answer_fits table line_in
returns-in-PaidBoth c = rw c.in-PaidBoth.is c.paid_both_fits.ensures

pub returns-in-Tested : goal.returns-in-Tested
unfolding answer_fits
returns-in-Tested c = rw c.in-Tested.is (simp (test_fields, c.tested_fits.ensures))

pub returns-in-Status : goal.returns-in-Status
unfolding answer_fits all_in_range table line_in
returns-in-Status c =
    let b = any-byte c.in-Status.sensor1 (omega arith) in
    rw c.in-Status.is (simp (b, c.status_fits.ensures, and-true))
