-- `recording::Reader::byte` meets its contract. Assumes nothing.
use mathlib.Core.Path.{sym, ◌∙◌}
use Rattle.recording.specs.Reading.{read_byte}
use Rattle.recording.proofs.Places.{begun-byte, inside-unless}
use Rattle.recording.proofs.Reader.byte.Goals as goal

pub returns-in-Kind : goal.returns-in-Kind
unfolding read_byte
returns-in-Kind c = simp (c.in-Kind.is, c.kind.ensures)

pub returns-in-Broken : goal.returns-in-Broken
unfolding read_byte
returns-in-Broken c = simp (c.in-Broken.is, c.refused.ensures)

pub returns-in_default : goal.returns-in_default
returns-in_default c = c.group.ensures ∙ sym (begun-byte c.args.self c.args.at c.args.b (inside-unless _ c.in_default.not-Kind c.in_default.not-Broken))
