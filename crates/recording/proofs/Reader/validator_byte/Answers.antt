-- `recording::Reader::validator_byte` meets its contract. Assumes nothing.
use Rattle.recording.specs.Reading.{byte_read}
use Rattle.refusals.proofs.Rules.{tests}
use Rattle.recording.proofs.Reader.validator_byte.Goals as goal

pub returns-then-n-gt255 : goal.returns-then-n-gt255
unfolding byte_read
returns-then-n-gt255 c = search (tests, ← c.refused.ensures)

pub returns : goal.returns
unfolding byte_read
returns c = search (tests, ← c.whole.ensures)
