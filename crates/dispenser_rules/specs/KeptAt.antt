-- What is found, as the library's type, with the words of the rules for its cases.
use Rattle.std.specs.Prelude.{Option, Some, None}
use Rattle.dispenser_rules.specs.declared.requests.KeptRequest.{KeptRequest}

abbrev pub KeptAt : Type 0
KeptAt = Option KeptRequest

pattern abbrev pub Nothing : KeptAt
Nothing = None

pattern abbrev pub Request : KeptRequest → KeptAt
Request request = Some request
