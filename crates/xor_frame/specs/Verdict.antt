-- What is found, as the library's type, with the words of the rules for its cases.
use Rattle.std.specs.Prelude.{⊤, Result, Ok, Err}
use Rattle.xor_frame.specs.declared.frame.Fault.{Fault}

abbrev pub Verdict : Type 0
Verdict = Result ⊤ Fault

pattern abbrev pub Good : Verdict
Good = Ok tt

pattern abbrev pub Bad : Fault → Verdict
Bad why = Err why
