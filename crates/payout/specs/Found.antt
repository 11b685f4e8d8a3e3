-- What is found, as the library's type, with the words of the rules for its cases.
use Rattle.std.specs.Prelude.{Option, Some, None}
use Rattle.payout.specs.declared.Counts.{Counts}

abbrev pub Found : Type 0
Found = Option Counts

pattern abbrev pub Nothing : Found
Nothing = None

pattern abbrev pub Best : Counts → Found
Best counts = Some counts
