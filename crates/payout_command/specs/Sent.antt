-- What is found, as the library's type, with the words of the rules for its cases.
use Rattle.std.specs.Prelude.{ℕ, Option, Some, None}
use Rattle.dispenser_frame_rules.specs.declared.command.Command.{Command as Asked}

abbrev pub Command : Type 0
Command = Option Asked

pattern abbrev pub Nothing : Command
Nothing = None

abbrev pub Send : (code upper lower : ℕ) → Command
Send code upper lower = Some (record { code = code; upper = upper; lower = lower })
