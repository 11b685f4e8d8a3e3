-- What is found, as the library's type, with the words of the rules for its cases.
use Rattle.std.specs.Prelude.{Option, Some, None, Result, Ok, Err}
use Rattle.refusals.specs.declared.Refusal.{Refusal}
use Rattle.bill_table.specs.declared.Value.{Value}

abbrev pub Total : Type 0
Total = Result (Option Value) Refusal

pattern abbrev pub NoValue : Total
NoValue = Ok None

pattern abbrev pub Sum : Value → Total
Sum value = Ok (Some value)

pattern abbrev pub Refused : Refusal → Total
Refused why = Err why
