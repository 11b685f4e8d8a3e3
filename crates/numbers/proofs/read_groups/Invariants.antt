-- `numbers::read_groups` meets its contract. The invariant: reading on from i, after what the groups before it say, gives what reading
-- from the start gives. Assumes nothing.
use mathlib.Core.Path.{◌≡◌}
use Prim.Native.Nat.{◌<◌}
use lib.ListN.{drop}
use Rattle.numbers.specs.Seven.{read_from, read_groups}
use Rattle.numbers.proofs.Groups.{Weight}
use Rattle.numbers.proofs.read_groups.Given as goal

abbrev pub invariant-loop-i : goal.invariant-loop-i
invariant-loop-i l = (l.acc < l.w) × Weight l.i l.w × (read_from l.i l.acc l.w (drop l.i l.s) ≡ read_groups l.s)
