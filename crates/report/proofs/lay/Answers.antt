-- `report::lay` meets its contract. Assumes nothing.
use mathlib.Core.Path.{refl}
use Rattle.refusals.specs.Put.{over}
use Rattle.refusals.proofs.Writing.{writing-refused, writing-laid}
use Rattle.report.proofs.lay.Goals as goal

pub returns-then-room-bytes : goal.returns-then-room-bytes
returns-then-room-bytes c = writing-refused _ _ c.if-room-bytes.true

pub returns : goal.returns
unfolding over
returns c = writing-laid _ _ _ _ c.if-room-bytes.false refl (rw c.copy_from_slice.ensures.after refl)
