-- What is found, as the library's type, with the words of the rules for its cases.
use Rattle.std.specs.Prelude.{ℕ, ⊤, Result, Ok, Err}
use Rattle.recording.specs.declared.Fault.{Fault}
use Rattle.recording.specs.declared.Bad.{Bad as BadAt}

abbrev pub Verdict : Type 0
Verdict = Result ⊤ (BadAt ℕ)

pattern abbrev pub Good : Verdict
Good = Ok tt

abbrev pub Bad : Fault → ℕ → Verdict
Bad why at = Err (record { fault = why; at = at })
