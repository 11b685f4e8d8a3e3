-- `grading_step::step` meets its contract, kind by kind. Assumes nothing.
use Rattle.grading_step.proofs.step.Goals as goal

pub returns-in-Request : goal.returns-in-Request
returns-in-Request c = λ a bs. let args = c.args in rw c.in-Request.is (c.requested.ensures a bs args.store.now args.store255.now args.table.now)

pub returns-in-DispenserByte : goal.returns-in-DispenserByte
returns-in-DispenserByte c = λ a bs. let args = c.args in rw c.in-DispenserByte.is (c.dispenser_byte.ensures a bs args.store255.now args.table.now)

pub returns-in-Tick : goal.returns-in-Tick
returns-in-Tick c = λ a bs. let args = c.args in rw c.in-Tick.is (c.ticked.ensures a bs args.store.now args.table.now)

pub returns-in-ValidatorByte : goal.returns-in-ValidatorByte
returns-in-ValidatorByte c = λ a bs. let args = c.args in rw c.in-ValidatorByte.is (c.validator_byte.ensures a bs args.store.now)

pub returns-in-Command : goal.returns-in-Command
returns-in-Command c = λ a bs. let args = c.args in rw c.in-Command.is (c.commanded.ensures a bs args.store.now args.store255.now args.table.now)

pub returns-in-Clear : goal.returns-in-Clear
returns-in-Clear c = λ a bs. let args = c.args in rw c.in-Clear.is (c.cleared.ensures a bs args.store.now args.store255.now args.table.now)
