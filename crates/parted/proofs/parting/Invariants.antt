-- `parted::parting` meets its contract. The invariant: from here on the two part as they do from the start on, and no record is empty. Assumes nothing.
use mathlib.Core.Path.{◌≡◌}
use Prim.Native.Nat.{◌-◌, ◌≤◌}
use lib.ListN.{length}
use Rattle.parted.specs.Parting.{parting_from, parting_of}
use Rattle.parted.proofs.parting.Given as goal

abbrev pub invariant-loop-n : goal.invariant-loop-n
invariant-loop-n l = (l.at ≤ length l.student) × (l.records ≤ l.at) × (parting_from l.student l.reference l.at l.records ≡ parting_of l.student l.reference)

abbrev pub decreases-loop-n : goal.decreases-loop-n
decreases-loop-n l = length l.student - l.at
