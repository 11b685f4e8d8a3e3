-- `words::books::bills` ends in time: each type adds one sentence at most. Assumes nothing.
use Prim.Native.Nat.{◌+◌, ◌*◌, ◌≤◌}
use lib.ListN.{length}
use Rattle.words.proofs.books.bills.Given as goal

abbrev pub invariant-loop-y : goal.invariant-loop-y
invariant-loop-y l = l.end ≤ l.at + 260 * length l.yielded
