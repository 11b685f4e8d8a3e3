-- `words::books::requests` ends in time: each request adds one line at most. Assumes nothing.
use Prim.Native.Nat.{◌*◌, ◌≤◌}
use Rattle.words.proofs.books.requests.Given as goal

abbrev pub invariant-loop-i : goal.invariant-loop-i
invariant-loop-i l = l.end ≤ 521 * l.i
