-- What is found, as the library's type, with the words of the rules for its cases.
use Rattle.std.specs.Prelude.{ℕ, Result, Ok, Err}
use Rattle.numbers.specs.declared.Seven.{Seven as Read}
use Rattle.numbers.specs.declared.NoSeven.{NoSeven}
use Rattle.numbers.specs.declared.NoSeven.TheVariants.{Bad as NotSeven, Cut as CutShort}

abbrev pub Seven : Type 0
Seven = Result Read NoSeven

abbrev pub Value : ℕ → ℕ → Seven
Value value used = Ok (record { value = value; used = used })

pattern abbrev pub Bad : Seven
Bad = Err NotSeven

pattern abbrev pub Cut : Seven
Cut = Err CutShort
