-- What is found, as the library's type, with the words of the rules for its cases.
use Rattle.std.specs.Prelude.{ℕ, Option, Some, None}

abbrev pub Number : Type 0
Number = Option ℕ

pattern abbrev pub Of : ℕ → Number
Of n = Some n

pattern abbrev pub NoNumber : Number
NoNumber = None
