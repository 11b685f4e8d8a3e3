-- What is found, as the library's type, with the words of the rules for its cases.
use Rattle.std.specs.Prelude.{ℕ, Result, Ok, Err}
use Rattle.ccnet_frame.specs.declared.Fault.{Fault}
use Rattle.ccnet_wide.specs.declared.Lead.{Lead}
use Rattle.ccnet_wide.specs.declared.Head.{Head}

abbrev pub Judged : Type 0
Judged = Result Head Fault

abbrev pub Good : ℕ → Lead → Judged
Good address lead = Ok (record { address = address; lead = lead })

pattern abbrev pub Refused : Fault → Judged
Refused why = Err why
