-- What is found, as the library's type, with the words of the rules for its cases.
use Rattle.std.specs.Prelude.{ℕ, Result, Ok, Err}
use Rattle.refusals.specs.declared.Refusal.{Refusal}
use Rattle.live_rules.specs.declared.entry.NotEntered.{NotEntered}
use Rattle.live_rules.specs.declared.entry.NotEntered.TheVariants.{Refused as NotTaken, Full as NoRoom}

abbrev pub Entry : Type 0
Entry = Result ℕ NotEntered

pattern abbrev pub Bytes : ℕ → Entry
Bytes n = Ok n

pattern abbrev pub Refused : Refusal → Entry
Refused why = Err (NotTaken why)

pattern abbrev pub Full : Entry
Full = Err NoRoom
