-- `bill_table::lay` meets its contract. Assumes nothing.
use mathlib.Core.Path.{refl}
use Rattle.refusals.specs.Put.{over}
use Rattle.bill_table.proofs.lay.Goals as goal

pub returns : goal.returns
unfolding over
returns c = rw c.copy_from_slice.ensures.after refl
