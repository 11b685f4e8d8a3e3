-- `recording::Reader::group` meets its contract. Assumes nothing.
use Rattle.recording.specs.Reading.{grouped}
use Rattle.recording.proofs.Reader.group.Goals as goal

pub returns-in-Some-More : goal.returns-in-Some-More
unfolding grouped
returns-in-Some-More c = simp (← c.next_group.ensures, c.in-Some-More.is, c.in-Some-More.field-0-is, c.more.ensures, c.grown.ensures)

pub returns-in-Some-Last : goal.returns-in-Some-Last
unfolding grouped
returns-in-Some-Last c = simp (← c.next_group.ensures, c.in-Some-Last.is, c.in-Some-Last.field-0-is, c.number.ensures)

pub returns-in-None : goal.returns-in-None
unfolding grouped
returns-in-None c = simp (← c.next_group.ensures, c.in-None.is, c.refused.ensures)
