-- `text::writing::filled` goes one byte further for each of the row, and 40 for each of four values, at most. Assumes nothing.
use Prim.Native.Nat.{◌+◌, ◌*◌, ◌≤◌}
use Rattle.text.proofs.writing.filled.Given as goal

abbrev pub invariant-loop-b : goal.invariant-loop-b
invariant-loop-b l = (l.k ≤ 4) × (l.end ≤ l.at + l.b-index + 40 * l.k)
