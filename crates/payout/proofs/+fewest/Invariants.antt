-- `payout::fewest` ends, since each call of itself has one cassette fewer. After n turns what was found is the answer with fewer than n of the first cassette.
use Prim.Native.Nat.{◌+◌, ◌-◌, ◌*◌, ◌≤◌}
use mathlib.Core.Path.{◌≡◌}
use lib.ListN.{length}
use Rattle.payout.specs.Scaffolding.{Answer}
use Rattle.payout.proofs.Turn.{Below}
use Rattle.payout.proofs.+fewest.Given as goal

-- the number of cassettes left
abbrev pub decreases-fewest : goal.decreases-fewest
decreases-fewest l = length l.values.now

-- what was found is the answer with fewer than n of the first cassette
abbrev pub invariant-loop-n : goal.invariant-loop-n
invariant-loop-n l =
    (l.n ≤ l.most + 1) × (l.left + l.n * l.value ≡ l.amount) × Answer (Below l.values l.stocks l.each l.room l.amount l.n) (length l.values) l.found

abbrev pub decreases-loop-n : goal.decreases-loop-n
decreases-loop-n l = l.most + 1 - l.n
