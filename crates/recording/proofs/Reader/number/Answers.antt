-- `recording::Reader::number` meets its contract, place by place. Assumes nothing.
use Rattle.recording.proofs.Reader.number.Goals as goal

pub returns-in-Kind : goal.returns-in-Kind
returns-in-Kind c = simp (c.in-Kind.is, c.more.ensures)

pub returns-in-Code : goal.returns-in-Code
returns-in-Code c = simp (c.in-Code.is, c.more-in-Code.ensures, c.next_number.ensures)

pub returns-in-Upper : goal.returns-in-Upper
returns-in-Upper c = simp (c.in-Upper.is, c.more-in-Upper.ensures, c.next_number-in-Upper.ensures)

pub returns-in-Lower : goal.returns-in-Lower
returns-in-Lower c = simp (c.in-Lower.is, c.request.ensures)

pub returns-in-FromDispenser : goal.returns-in-FromDispenser
returns-in-FromDispenser c = simp (c.in-FromDispenser.is, c.dispenser_byte.ensures)

pub returns-in-Milliseconds : goal.returns-in-Milliseconds
returns-in-Milliseconds c = simp (c.in-Milliseconds.is, c.whole.ensures)

pub returns-in-FromValidator : goal.returns-in-FromValidator
returns-in-FromValidator c = simp (c.in-FromValidator.is, c.validator_byte.ensures)

pub returns-in-ToValidator : goal.returns-in-ToValidator
returns-in-ToValidator c = simp (c.in-ToValidator.is, c.command.ensures)

pub returns-in-Broken : goal.returns-in-Broken
returns-in-Broken c = simp (c.in-Broken.is, c.refused.ensures)
