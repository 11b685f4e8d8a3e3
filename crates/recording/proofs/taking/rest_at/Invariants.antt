-- `recording::taking::rest_at` meets its contract. The invariant: the reader goes on from i to what is found. Assumes nothing.
use mathlib.Core.Path.{◌≡◌}
use Prim.Native.Nat.{◌-◌}
use lib.ListN.{drop}
use Rattle.recording.specs.Taking.{found_from}
use Rattle.recording.proofs.taking.rest_at.Given as goal

abbrev pub invariant-loop-i : goal.invariant-loop-i
invariant-loop-i l = found_from l.reader l.i (l.i - l.at) (drop l.i l.recording) ≡ found_from l.initial.reader l.at 0 (drop l.at l.recording)
