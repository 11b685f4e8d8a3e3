-- `grading_step::dispenser_byte` meets its contract. Assumes nothing.
use Rattle.dispenser_rules.specs.Session.{session_byte, account_heard}
use Rattle.validator_rules.specs.Bills.{booked_by}
use Rattle.grading_step.specs.Scaffolding.{joined}
use Rattle.grading_step.proofs.Steps.{by-heard, entered-heard}
use Rattle.grading_step.proofs.Again.{byte-heard}
use Rattle.grading_step.proofs.dispenser_byte.Goals as goal

pub heard-entry-requires : goal.heard-entry-requires
heard-entry-requires c = byte-heard _ _ _ _ _ c.step_byte-step.ensures

pub returns : goal.returns
unfolding session_byte account_heard booked_by
returns c =
    λ a bs store255 table.
    let args = c.args in
    let n = c.step_byte-step.result.line.handed in
    simp (c.assembled.ensures, c.heard-entry.ensures a args.run.asked n, entered-heard a args.run.asked n c.step_byte-step.result.reply, c.counted-declined.ensures, c.payer_declines.ensures)
    (by-heard (joined args.run a bs args.store.now store255 table) c.step_byte-step.ensures)
