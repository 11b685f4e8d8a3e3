-- What is found, as the library's type, with the words of the rules for its cases.
use Rattle.std.specs.Prelude.{ℕ, Result, Ok, Err}
use Rattle.ccnet_frame.specs.declared.Fault.{Fault}

abbrev pub Judged : Type 0
Judged = Result ℕ Fault

pattern abbrev pub Good : ℕ → Judged
Good address = Ok address

pattern abbrev pub Refused : Fault → Judged
Refused why = Err why
