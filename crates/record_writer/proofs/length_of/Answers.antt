-- `record_writer::length_of` meets its contract, kind by kind. Assumes nothing.
use mathlib.Core.Path.{refl, ap, ◌∙◌}
use lib.ListN.{length}
use Rattle.recording.specs.declared.Record.TheVariants.{DispenserByte, Tick, ValidatorByte, Command}
use Rattle.record_writer.proofs.Laying.{record-clear, length-one, length-request, bytes_of}
use native.Mathlib.Omega.{arith}
use Rattle.record_writer.proofs.length_of.Goals as goal

pub overflow_add-result : goal.overflow_add-result
overflow_add-result c = omega (arith, c.size_of.ensures.most)

pub overflow_add-result-in-Request : goal.overflow_add-result-in-Request
overflow_add-result-in-Request c = omega (arith, c.size_of-in-Request.ensures.most, c.size_of.ensures.most)

pub overflow_add-result-in-Request-2 : goal.overflow_add-result-in-Request-2
overflow_add-result-in-Request-2 c = omega (arith, c.size_of-in-Request-2.ensures.most, c.size_of-in-Request.ensures.most, c.size_of.ensures.most)

pub overflow_add-result-in-DispenserByte : goal.overflow_add-result-in-DispenserByte
overflow_add-result-in-DispenserByte c = omega (arith, c.size_of-in-DispenserByte.ensures.most)

pub overflow_add-result-in-Tick : goal.overflow_add-result-in-Tick
overflow_add-result-in-Tick c = omega (arith, c.size_of-in-Tick.ensures.most)

pub overflow_add-result-in-ValidatorByte : goal.overflow_add-result-in-ValidatorByte
overflow_add-result-in-ValidatorByte c = omega (arith, c.size_of-in-ValidatorByte.ensures.most)

pub overflow_add-result-in-Command : goal.overflow_add-result-in-Command
overflow_add-result-in-Command c = omega (arith, c.size_of-in-Command.ensures.most)

pub returns-in-Request : goal.returns-in-Request
returns-in-Request c =
    omega
    (arith, c.size_of-in-Request-2.ensures.groups, c.size_of-in-Request.ensures.groups, c.size_of.ensures.groups, ap bytes_of c.in-Request.is ∙ length-request _ _ _)

pub returns-in-DispenserByte : goal.returns-in-DispenserByte
returns-in-DispenserByte c = omega (arith, c.size_of-in-DispenserByte.ensures.groups, ap bytes_of c.in-DispenserByte.is ∙ length-one (DispenserByte _) _ refl)

pub returns-in-Tick : goal.returns-in-Tick
returns-in-Tick c = omega (arith, c.size_of-in-Tick.ensures.groups, ap bytes_of c.in-Tick.is ∙ length-one (Tick _) _ refl)

pub returns-in-ValidatorByte : goal.returns-in-ValidatorByte
returns-in-ValidatorByte c = omega (arith, c.size_of-in-ValidatorByte.ensures.groups, ap bytes_of c.in-ValidatorByte.is ∙ length-one (ValidatorByte _) _ refl)

pub returns-in-Command : goal.returns-in-Command
returns-in-Command c = omega (arith, c.size_of-in-Command.ensures.groups, ap bytes_of c.in-Command.is ∙ length-one (Command _) _ refl)

pub returns-in-Clear : goal.returns-in-Clear
returns-in-Clear c = omega (arith, ap bytes_of c.in-Clear.is, ap length record-clear)
