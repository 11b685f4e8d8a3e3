-- What is found, as the library's type, with the words of the rules for its cases.
use Rattle.std.specs.Prelude.{Option, Some, None}
use Rattle.ccnet_class.specs.declared.Class.{Class}

abbrev pub Found : Type 0
Found = Option Class

pattern abbrev pub Bad : Found
Bad = None

pattern abbrev pub Good : Class → Found
Good class = Some class
