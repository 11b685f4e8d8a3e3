-- What is found, as the library's type, with the words of the rules for its cases.
use Rattle.std.specs.Prelude.{Option, Some, None}
use Rattle.recording.specs.NextRecord.{NextRecord}

abbrev pub Glance : Type 0
Glance = Option NextRecord

pattern abbrev pub Sure : NextRecord → Glance
Sure found = Some found

pattern abbrev pub Longer : Glance
Longer = None
