-- What is found, as the library's type, with the words of the rules for its cases.
use Rattle.std.specs.Prelude.{ℕ, Result, Ok, Err}
use Rattle.refusals.specs.declared.Declined.{Declined}
use Rattle.refusals.specs.declared.Done.{Done as Did}
use Rattle.vcdm_rules.specs.declared.session.Closing.{Closing}

abbrev pub Reply : Type 0
Reply = Result (Did Closing) Declined

abbrev pub Done : ℕ → Closing → Reply
Done put closing = Ok (record { put = put; closing = closing })

pattern abbrev pub NotDone : Declined → Reply
NotDone why = Err why
