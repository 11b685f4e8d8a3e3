-- What is found, as the library's type, with the words of the rules for its cases.
use Rattle.std.specs.Prelude.{ℕ, Result, Ok, Err}
use Rattle.xor_frame.specs.declared.frame.Fault.{Fault}
use Rattle.dispenser_frame_rules.specs.declared.command.Command.{Command}

abbrev pub CommandRead : Type 0
CommandRead = Result Command Fault

abbrev pub Read : (code upper lower : ℕ) → CommandRead
Read code upper lower = Ok (record { code = code; upper = upper; lower = lower })

pattern abbrev pub Refused : Fault → CommandRead
Refused why = Err why
