-- `numbers::places_of` meets its contract. The invariant: k counts the rest as one digit, and with all the rest's digits it is how many
-- n has. Assumes nothing.
use mathlib.Core.Path.{◌≡◌}
use Prim.Native.Nat.{◌+◌, ◌≤◌}
use Rattle.numbers.specs.Decimal.{places}
use Rattle.numbers.proofs.places_of.Given as goal

abbrev pub invariant-loop-rest : goal.invariant-loop-rest
invariant-loop-rest l = (l.k + l.rest ≤ l.n + 1) × (l.k + places l.base l.rest ≡ places l.base l.n + 1)

abbrev pub decreases-loop-rest : goal.decreases-loop-rest
decreases-loop-rest l = l.rest
