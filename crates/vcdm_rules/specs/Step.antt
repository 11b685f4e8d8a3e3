-- What a byte or a tick leaves, with this unit's closing.
use Rattle.exchange_rules.specs.declared.step.Step.{Step as StepWith}
use Rattle.vcdm_rules.specs.declared.session.Closing.{Closing}

abbrev pub Step : Type 0
Step = StepWith Closing
