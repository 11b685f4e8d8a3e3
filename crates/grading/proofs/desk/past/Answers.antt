-- `grading::desk::past` meets its contract. Assumes nothing.
use mathlib.Core.Path.{◌∙◌}
use Rattle.recording.proofs.Places.{sound-unless}
use Rattle.grading.proofs.Loops.{past-unbroken}
use Rattle.grading.proofs.desk.past.Goals as goal

pub returns-in-Broken : goal.returns-in-Broken
returns-in-Broken c = simp (c.in-Broken.is, c.broken.ensures)

pub returns-in_default : goal.returns-in_default
returns-in_default c = c.broken-in_default.ensures ∙ past-unbroken c.args.replay.reader.place c.args.replay.reader.start (sound-unless _ c.in_default.not-Broken)
