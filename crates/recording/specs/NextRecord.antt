-- What is found, as the library's type, with the words of the rules for its cases.
use Rattle.std.specs.Prelude.{ℕ, Result, Ok, Err}
use Rattle.recording.specs.declared.Fault.{Fault}
use Rattle.recording.specs.declared.Record.{Record}

abbrev pub NextRecord : Type 0
NextRecord = Result (Record × ℕ) Fault

pattern abbrev pub Whole : Record → ℕ → NextRecord
Whole x n = Ok (x, n)

pattern abbrev pub Bad : Fault → NextRecord
Bad why = Err why
