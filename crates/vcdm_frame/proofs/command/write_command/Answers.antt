-- `vcdm_frame::command::write_command` meets its contract. Assumes nothing.
use mathlib.Core.Path.{sym, ◌∙◌}
use borrow.Author.Tests.{lt-ltb, le-ltb}
use Rattle.vcdm_frame_rules.specs.Table.{known, command_fields}
use Rattle.vcdm_frame_rules.specs.Command.{command_fits, write_command, command_refusals}
use Rattle.vcdm_frame_rules.proofs.Raw.{command-laid}
use Rattle.xor_frame.proofs.Lengths.{length_none, length_some, length-known}
use native.Mathlib.Omega.{arith}
use Rattle.vcdm_frame.proofs.command.write_command.Goals as goal

pub returns-then-long-eq0 : goal.returns-then-long-eq0
unfolding write_command command_refusals
returns-then-long-eq0 c = simp (length_none known command_fields _ (sym c.command_length-long.ensures ∙ c.if-long-eq0.true))

pub returns-then-room-long : goal.returns-then-room-long
unfolding write_command command_refusals
returns-then-room-long c = simp (length_some known command_fields _ (λ e. c.if-long-eq0.false (c.command_length-long.ensures ∙ e)), ← c.command_length-long.ensures, lt-ltb _ _ c.if-room-long.true)

pub lay_command-requires : goal.lay_command-requires
lay_command-requires c =
    let k = length-known known command_fields _ (length_some known command_fields _ (λ e. c.if-long-eq0.false (c.command_length-long.ensures ∙ e))) in
    let e = c.command_length-long.ensures in
    omega arith

pub returns-then-command_fits : goal.returns-then-command_fits
unfolding write_command command_refusals
returns-then-command_fits c =
    simp (length_some known command_fields _ (λ e. c.if-long-eq0.false (c.command_length-long.ensures ∙ e)), ← c.command_length-long.ensures, le-ltb _ _ c.if-room-long.false, ← c.command_fits.ensures, c.if-command_fits.true)
    (c.lay_command.ensures ∙ command-laid _ _ _ _ ((command_fits c.args.code c.args.n c.args.serial).tells.shown (sym c.command_fits.ensures ∙ c.if-command_fits.true)))

pub returns-else-command_fits : goal.returns-else-command_fits
unfolding write_command command_refusals
returns-else-command_fits c = simp (length_some known command_fields _ (λ e. c.if-long-eq0.false (c.command_length-long.ensures ∙ e)), ← c.command_length-long.ensures, le-ltb _ _ c.if-room-long.false, ← c.command_fits.ensures, c.if-command_fits.false)
