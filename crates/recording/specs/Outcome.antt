-- What is found, as the library's type, with the words of the rules for its cases.
use Rattle.std.specs.Prelude.{ℕ, Option, Some, None, Result, Ok, Err}
use Rattle.recording.specs.declared.Fault.{Fault}
use Rattle.recording.specs.declared.Record.{Record}
use Rattle.recording.specs.declared.Bad.{Bad as BadAt}

abbrev pub Outcome : Type 0
Outcome = Result (Option Record) (BadAt ℕ)

pattern abbrev pub More : Outcome
More = Ok None

pattern abbrev pub Whole : Record → Outcome
Whole x = Ok (Some x)

abbrev pub Bad : Fault → ℕ → Outcome
Bad why at = Err (record { fault = why; at = at })
