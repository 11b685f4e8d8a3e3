-- What is found, as the library's type, with the words of the rules for its cases.
use Rattle.std.specs.Prelude.{ℕ, Option, Some, None}
use Rattle.numbers.specs.declared.Group.{Group as Begun}
use Rattle.numbers.specs.declared.Group.TheVariants.{More as MoreOf, Last as LastOf}

abbrev pub Group : Type 0
Group = Option Begun

pattern abbrev pub More : ℕ → ℕ → Group
More acc weight = Some (MoreOf acc weight)

pattern abbrev pub Last : ℕ → Group
Last n = Some (LastOf n)

pattern abbrev pub Wrong : Group
Wrong = None
