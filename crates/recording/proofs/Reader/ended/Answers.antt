-- `recording::Reader::ended` meets its contract. Assumes nothing.
use mathlib.Core.Path.{sym}
use Rattle.recording.specs.Reading.{ended}
use Rattle.recording.proofs.Places.{begun-ended, inside-unless}
use Rattle.recording.proofs.Reader.ended.Goals as goal

pub returns-in-Kind : goal.returns-in-Kind
unfolding ended
returns-in-Kind c = simp c.in-Kind.is

pub returns-in-Broken : goal.returns-in-Broken
unfolding ended
returns-in-Broken c = simp c.in-Broken.is

pub returns-in_default : goal.returns-in_default
returns-in_default c = sym (begun-ended c.args.self (inside-unless _ c.in_default.not-Kind c.in_default.not-Broken))
