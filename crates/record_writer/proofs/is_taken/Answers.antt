-- `record_writer::is_taken` meets its contract, kind by kind. Assumes nothing.
use mathlib.Core.Path.{refl}
use borrow.Author.Tests.{le-leb}
use borrow.Author.Rules.{rules}
use Rattle.record_writer.proofs.is_taken.Goals as goal

pub returns-in-Request : goal.returns-in-Request
returns-in-Request c = rw c.in-Request.is c.is_request.ensures

pub returns-in-DispenserByte : goal.returns-in-DispenserByte
returns-in-DispenserByte c = rw (c.in-DispenserByte.is, le-leb c.in-DispenserByte._b 255 (search rules)) refl

pub returns-in-ValidatorByte : goal.returns-in-ValidatorByte
returns-in-ValidatorByte c = rw (c.in-ValidatorByte.is, le-leb c.in-ValidatorByte._b 255 (search rules)) refl

pub returns-in-Command : goal.returns-in-Command
returns-in-Command c = rw c.in-Command.is c.is_command.ensures
