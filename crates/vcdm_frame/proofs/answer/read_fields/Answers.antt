-- `vcdm_frame::answer::read_fields` meets its contract. Assumes nothing.
use mathlib.Core.Path.{sym, ◌∙◌}
use Rattle.vcdm_frame_rules.proofs.Raw.{fields_read_lem}
use Rattle.vcdm_frame.proofs.answer.read_fields.Goals as goal

pub returns-then-fits : goal.returns-then-fits
returns-then-fits c = sym (fields_read_lem _ _ c.requires.fact ∙ simp (← c.answer_in-answer.ensures, ← c.fits.ensures, c.if-fits.true))

pub returns-else-fits : goal.returns-else-fits
returns-else-fits c = sym (fields_read_lem _ _ c.requires.fact ∙ simp (← c.answer_in-answer.ensures, ← c.fits.ensures, c.if-fits.false))
