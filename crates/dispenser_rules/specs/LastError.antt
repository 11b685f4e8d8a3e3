-- What is found, as the library's type, with the words of the rules for its cases.
use Rattle.std.specs.Prelude.{Option, Some, None}
use Rattle.error_codes.specs.declared.ErrorClass.{ErrorClass}

abbrev pub LastError : Type 0
LastError = Option ErrorClass

pattern abbrev pub NoneYet : LastError
NoneYet = None

pattern abbrev pub Of : ErrorClass → LastError
Of class = Some class
