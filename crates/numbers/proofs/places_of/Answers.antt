-- `numbers::places_of` meets its contract. The invariant: k counts the rest as one digit, and with all the rest's digits it is how many
-- n has. Assumes nothing.
use Prim.Native.Nat.{ℕ, ◌/◌, ◌≤◌, ◌<◌}
use native.Mathlib.Nat.{div-lt_self}
use native.Mathlib.Omega.{arith}
use Rattle.numbers.proofs.Decimal.{places-small, places-large}
use Rattle.numbers.proofs.places_of.Goals as goal

-- the quotient is below the number
less : (n base : ℕ) → 1 < base → base ≤ n → n / base < n
less n base more h = div-lt_self {n = n} {k = base} (omega arith) more

pub loop-rest-init : goal.loop-rest-init
loop-rest-init c = (omega arith, omega arith)

pub loop-rest-smaller : goal.loop-rest-smaller
loop-rest-smaller c = less c.loop-rest.rest c.args.base c.requires c.loop-rest-test.true

pub loop-rest-preserved : goal.loop-rest-preserved
loop-rest-preserved c =
    let l = c.loop-rest in
    let base = c.args.base in
    let more = c.requires in (
      omega (arith, less l.rest base more c.loop-rest-test.true),
      omega (arith, places-large base more l.rest c.loop-rest-test.true, l.invariant.1),
    )

pub returns : goal.returns
returns c = omega (arith, places-small c.args.base c.requires c.loop-rest.rest c.loop-rest-test.false)
