-- What is found, as the library's type, with the words of the rules for its cases.
use Rattle.std.specs.Prelude.{Result, Ok, Err}
use Rattle.recording.specs.declared.Fault.{Fault}
use Rattle.parted.specs.declared.Whose.{Whose}
use Rattle.parted.specs.declared.Malformed.{Malformed as MalformedOne}

abbrev pub Next : Type 0
Next = Result Whose MalformedOne

pattern abbrev pub Rest : Whose → Next
Rest whose = Ok whose

abbrev pub Malformed : Whose → Fault → Next
Malformed whose why = Err (record { whose = whose; why = why })
