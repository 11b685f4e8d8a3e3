-- `vcdm_frame::command::read_dispense` meets its contract: the fixed bytes first, then counts and serial. Assumes nothing.
use mathlib.Core.Path.{sym, ◌∙◌}
use mathlib.Core.Bool.{and-false}
use borrow.Author.Tests.{eq-eqb, ne_eqb}
use Rattle.vcdm_frame_rules.proofs.Raw.{dispense-read}
use Rattle.vcdm_frame.proofs.command.read_dispense.Goals as goal
use Rattle.vcdm_frame.proofs.command.read_dispense.Goals.{else-s-eq-DESTINATION-via-then-s-eq-DESTINATION+then-s-eq-DESTINATION-2+then-notes_fit+else-serial_fits, else-s-eq-DESTINATION-via-then-s-eq-DESTINATION+then-s-eq-DESTINATION-2+else-notes_fit, else-s-eq-DESTINATION-via-then-s-eq-DESTINATION+else-s-eq-DESTINATION-2, else-s-eq-DESTINATION-via-else-s-eq-DESTINATION}

pub returns-then-serial_fits : goal.returns-then-serial_fits
returns-then-serial_fits c =
    sym (dispense-read _ _ c.requires.code_value ∙ simp (← c.counts_in-counts.ensures, eq-eqb _ _ c.if-s-eq-DESTINATION.true, eq-eqb _ _ c.if-s-eq-DESTINATION-2.true, ← c.notes_fit.ensures, c.if-notes_fit.true, ← c.serial_fits.ensures, c.if-serial_fits.true))

pub returns-else-s-eq-DESTINATION : goal.returns-else-s-eq-DESTINATION
returns-else-s-eq-DESTINATION c =
    sym (
    dispense-read _ _ c.requires.code_value
    ∙ (
    elim c.else-s-eq-DESTINATION.branch [
      | else-s-eq-DESTINATION-via-then-s-eq-DESTINATION+then-s-eq-DESTINATION-2+then-notes_fit+else-serial_fits w ↦
          simp (← c.counts_in-counts.ensures, ← w.serial_fits.ensures, w.if-serial_fits.false, and-false)
      | else-s-eq-DESTINATION-via-then-s-eq-DESTINATION+then-s-eq-DESTINATION-2+else-notes_fit w ↦
          simp (← c.counts_in-counts.ensures, ← w.notes_fit.ensures, w.if-notes_fit.false, and-false)
      | else-s-eq-DESTINATION-via-then-s-eq-DESTINATION+else-s-eq-DESTINATION-2 w ↦ simp (ne_eqb _ _ w.if-s-eq-DESTINATION-2.false, and-false)
      | else-s-eq-DESTINATION-via-else-s-eq-DESTINATION w ↦ simp (ne_eqb _ _ w.if-s-eq-DESTINATION.false)
    ]
    )
    )
