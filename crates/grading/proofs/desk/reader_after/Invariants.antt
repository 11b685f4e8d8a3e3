-- `grading::desk::reader_after` meets its contract. The invariant: the reader goes on from i as from the start. Assumes nothing.
use mathlib.Core.Path.{◌≡◌}
use Prim.Native.Nat.{◌+◌, ◌≤◌}
use lib.ListN.{length, drop}
use Rattle.recording.specs.Reading.{reader_after}
use Rattle.grading.proofs.desk.reader_after.Given as goal

abbrev pub invariant-loop-i : goal.invariant-loop-i
invariant-loop-i l =
    (l.p + length l.piece ≤ 4_294_967_295 + l.i) × (reader_after l.reader l.p (drop l.i l.piece) ≡ reader_after l.initial.reader l.at (drop l.from l.piece))
