-- `recording::Reader::past` meets its contract. Assumes nothing.
use mathlib.Core.Path.{sym, ◌∙◌}
use Rattle.recording.proofs.Places.{past-sound, sound-unless}
use Rattle.recording.proofs.Reader.past.Goals as goal

pub returns-in-Broken : goal.returns-in-Broken
returns-in-Broken c = simp (c.in-Broken.is, c.refused.ensures)

pub returns-in_default : goal.returns-in_default
returns-in_default c = c.refused-in_default.ensures ∙ sym (past-sound c.args.self.place (sound-unless _ c.in_default.not-Broken) c.args.self c.args.at)
