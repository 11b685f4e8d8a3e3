-- `numbers::put_digits` meets its contract. The invariant: the first i digits still to be put, and the room from i on, are the digits
-- of n. Assumes nothing.
use mathlib.Core.Path.{◌≡◌}
use mathlib.Core.List.{◌++◌}
use Prim.Native.Nat.{◌≤◌}
use lib.ListN.{length, drop}
use Rattle.numbers.specs.Decimal.{digits}
use Rattle.numbers.proofs.put_digits.Given as goal

abbrev pub invariant-loop-i : goal.invariant-loop-i
invariant-loop-i l =
    (length l.room ≡ length l.initial.room) × (l.i ≤ length l.room) × (digits l.i l.rest ++ drop l.i l.room ≡ digits (length l.initial.room) l.n)
