-- `grading_step::ticked` meets its contract. Assumes nothing.
use Rattle.dispenser_rules.specs.Session.{session_tick, account_heard}
use Rattle.validator_rules.specs.Session.{session_tick as taker_tick}
use Rattle.grading_step.specs.Scaffolding.{joined}
use Rattle.grading_step.proofs.Steps.{by-tick, entered-heard}
use Rattle.grading_step.proofs.Again.{tick-heard}
use native.Mathlib.Omega.{arith}
use Rattle.grading_step.proofs.ticked.Goals as goal

pub overflow_add-records : goal.overflow_add-records
overflow_add-records c = record { fits = omega (arith, c.requires.records_bound) }

pub heard-entry-requires : goal.heard-entry-requires
heard-entry-requires c = λ e. tick-heard _ _ _ _ c.step_tick-step.ensures

pub returns : goal.returns
unfolding session_tick account_heard taker_tick
returns c =
    λ a bs store table.
    let args = c.args in
    let n = c.step_tick-step.result.line.handed in
    simp (c.assembled.ensures, c.heard-entry.ensures a args.run.asked n, entered-heard a args.run.asked n c.step_tick-step.result.reply, c.counted-declined.ensures, c.either-refused.ensures, c.taker_declines.ensures, c.payer_declines.ensures)
    (by-tick (joined args.run a bs store args.store255.now table) c.step_tick-step.ensures c.step_tick-taken.ensures)
