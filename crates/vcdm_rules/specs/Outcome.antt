-- What a call by value leaves, with this session and its closing.
use Rattle.refusals.specs.declared.Outcome.{Outcome as OutcomeWith}
use Rattle.vcdm_rules.specs.declared.session.Session.{Session}
use Rattle.vcdm_rules.specs.declared.session.Closing.{Closing}

abbrev pub Outcome : Type 0
Outcome = OutcomeWith Session Closing
