-- `text::writing::bytes` goes three bytes further for each byte at most. Assumes nothing.
use Prim.Native.Nat.{◌+◌, ◌*◌, ◌≤◌}
use Rattle.text.proofs.writing.bytes.Given as goal

abbrev pub invariant-loop-b : goal.invariant-loop-b
invariant-loop-b l = l.end ≤ l.at + 3 * l.b-index
