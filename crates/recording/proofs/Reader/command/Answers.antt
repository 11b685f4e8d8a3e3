-- `recording::Reader::command` meets its contract. Assumes nothing.
use mathlib.Core.Path.{sym, ◌∙◌}
use Rattle.recording.specs.Reading.{command_read}
use Rattle.recording.proofs.Lists.{listed_same}
use Rattle.recording.proofs.Reader.command.Goals as goal

pub returns-then-is_command : goal.returns-then-is_command
unfolding command_read
returns-then-is_command c =
    simp (
      c.whole.ensures,
      listed_same c.args.code (sym c.is_command.ensures ∙ c.if-is_command.true),
      ← c.is_command.ensures,
      c.if-is_command.true,
    )

pub returns : goal.returns
unfolding command_read
returns c = simp (← c.is_command.ensures, c.if-is_command.false, c.refused.ensures)
