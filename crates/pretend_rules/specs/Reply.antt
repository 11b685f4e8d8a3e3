-- What is found, as the library's type, with the words of the rules for its cases.
use Rattle.std.specs.Prelude.{ℕ, Result, Ok, Err}
use Rattle.refusals.specs.declared.Declined.{Declined}
use Rattle.refusals.specs.declared.Done.{Done as Did}
use Rattle.pretend_rules.specs.declared.device.Happening.{Happening}

abbrev pub Reply : Type 0
Reply = Result (Did Happening) Declined

abbrev pub Done : ℕ → Happening → Reply
Done put closing = Ok (record { put = put; closing = closing })

pattern abbrev pub NotDone : Declined → Reply
NotDone why = Err why
