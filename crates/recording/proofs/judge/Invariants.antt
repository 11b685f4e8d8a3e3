-- `recording::judge` meets its contract. The invariant: the reader goes on from i as the whole recording is judged. Assumes nothing.
use mathlib.Core.Path.{◌≡◌}
use lib.ListN.{drop}
use Rattle.recording.specs.Reading.{taking_from, verdict_of, verdict}
use Rattle.recording.proofs.judge.Given as goal

abbrev pub invariant-loop-i : goal.invariant-loop-i
invariant-loop-i l = verdict_of (taking_from l.reader l.i (drop l.i l.recording)) ≡ verdict l.recording
