-- What is found, as the library's type, with the words of the rules for its cases.
use Rattle.std.specs.Prelude.{ℕ, Option, Some, None, Result, Ok, Err}
use Rattle.recording.specs.declared.Fault.{Fault}

abbrev pub Due : Type 0
Due = Result (Option ℕ) Fault

pattern abbrev pub End : Due
End = Ok None

pattern abbrev pub Whole : ℕ → Due
Whole n = Ok (Some n)

pattern abbrev pub Faulty : Fault → Due
Faulty why = Err why
