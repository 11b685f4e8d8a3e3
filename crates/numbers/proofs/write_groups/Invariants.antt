-- `numbers::write_groups` meets its contract. The invariant: the bytes put so far, and the groups of the rest after them, are the groups
-- of n. Assumes nothing.
use mathlib.Core.Path.{◌≡◌}
use mathlib.Core.List.{◌++◌}
use Prim.Native.Nat.{◌+◌}
use lib.ListN.{length, take}
use Rattle.numbers.specs.Seven.{groups}
use Rattle.numbers.proofs.write_groups.Given as goal

abbrev pub invariant-loop-b : goal.invariant-loop-b
invariant-loop-b l =
    (l.b-index + length (groups l.rest) ≡ length (groups l.n)) × (take l.b-index l.b-items ++ groups l.rest ≡ groups l.n)
