-- `numbers::read_digits` meets its contract. The invariant: n has as many digits as were read, at most, and what is left to read, after n, says the number
-- of the whole, and is all digits exactly where the whole is. Assumes nothing.
use mathlib.Core.Path.{◌≡◌}
use Prim.Native.Nat.{◌^◌, ◌<◌}
use lib.ListN.{drop}
use Rattle.numbers.specs.Decimal.{digits_only, number_from, number}
use Rattle.numbers.proofs.read_digits.Given as goal

abbrev pub invariant-loop-b : goal.invariant-loop-b
invariant-loop-b l =
    (l.n < 10 ^ l.b-index)
    × (number_from l.n (drop l.b-index l.s) ≡ number l.s)
    × ((digits_only (drop l.b-index l.s)).test ≡ (digits_only l.s).test)
