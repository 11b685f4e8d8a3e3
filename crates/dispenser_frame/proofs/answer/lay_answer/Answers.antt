-- `dispenser_frame::answer::lay_answer` meets its contract: the bytes and their check are the frame, kind by kind of answer. Assumes nothing.
use Rattle.numbers.specs.Decimal.{digits}
use Rattle.xor_frame.specs.Layout.{sizes, all_bytes}
use Rattle.dispenser_frame_rules.specs.Table.{table, line_in}
use Rattle.xor_frame.specs.Frame.{frame}
use Rattle.dispenser_frame_rules.specs.Answer.{answer_frame}
use Rattle.xor_frame.proofs.Check.{laid_by}
use Rattle.dispenser_frame_rules.proofs.Codes.{pay-fields, test_fields}
use native.Mathlib.Omega.{arith}
use Rattle.dispenser_frame.proofs.answer.lay_answer.Goals as goal

pub lay-requires : goal.lay-requires
unfolding sizes table line_in
lay-requires c = let h = simp c.in-Purged.is at c.requires in omega arith

pub lay-requires-in-PaidOne : goal.lay-requires-in-PaidOne
unfolding sizes table line_in
lay-requires-in-PaidOne c = let h = simp (c.in-PaidOne.is, pay-fields) at c.requires in omega arith

pub lay-requires-in-PaidBoth : goal.lay-requires-in-PaidBoth
unfolding sizes table line_in
lay-requires-in-PaidBoth c = let h = simp c.in-PaidBoth.is at c.requires in omega arith

pub lay-requires-in-Tested : goal.lay-requires-in-Tested
unfolding sizes table line_in
lay-requires-in-Tested c = let h = simp (c.in-Tested.is, test_fields) at c.requires in omega arith

pub lay-requires-in-Status : goal.lay-requires-in-Status
unfolding sizes table line_in
lay-requires-in-Status c = let h = simp c.in-Status.is at c.requires in omega arith

pub returns-in-Purged : goal.returns-in-Purged
unfolding answer_frame frame all_bytes digits table line_in
returns-in-Purged c = laid_by _ _ c.lay.ensures (rw c.in-Purged.is)

pub returns-in-PaidOne : goal.returns-in-PaidOne
unfolding answer_frame frame all_bytes digits table line_in
returns-in-PaidOne c = laid_by _ _ c.lay-in-PaidOne.ensures (rw c.in-PaidOne.is (simp (pay-fields, c.pay_code.ensures, c.two_digits-c.ensures, c.two_digits-x.ensures, c.two_digits-r.ensures)))

pub returns-in-PaidBoth : goal.returns-in-PaidBoth
unfolding answer_frame frame all_bytes digits table line_in
returns-in-PaidBoth c = laid_by _ _ c.lay-in-PaidBoth.ensures (rw c.in-PaidBoth.is (simp (c.two_digits-uc.ensures, c.two_digits-ux.ensures, c.two_digits-lc.ensures, c.two_digits-lx.ensures, c.two_digits-ur.ensures, c.two_digits-lr.ensures)))

pub returns-in-Tested : goal.returns-in-Tested
unfolding answer_frame frame all_bytes digits table line_in
returns-in-Tested c = laid_by _ _ c.lay-in-Tested.ensures (rw c.in-Tested.is (simp (test_fields, c.test_code.ensures, c.two_digits-c-in-Tested.ensures, c.two_digits-r-in-Tested.ensures)))

pub returns-in-Status : goal.returns-in-Status
unfolding answer_frame frame all_bytes digits table line_in
returns-in-Status c = laid_by _ _ c.lay-in-Status.ensures (rw c.in-Status.is)
