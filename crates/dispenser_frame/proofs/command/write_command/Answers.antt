-- `dispenser_frame::command::write_command` meets its contract. Assumes nothing.
use mathlib.Core.Path.{sym, ◌∙◌}
use borrow.Author.Tests.{lt-ltb, le-ltb}
use Rattle.dispenser_frame_rules.specs.Table.{known, command_fields}
use Rattle.dispenser_frame_rules.specs.Command.{write_command, command_refusals}
use Rattle.xor_frame.proofs.Lengths.{length_none, length_some, length-known}
use native.Mathlib.Omega.{arith}
use Rattle.dispenser_frame.proofs.command.write_command.Goals as goal

pub returns-then-n-eq0 : goal.returns-then-n-eq0
unfolding write_command command_refusals
returns-then-n-eq0 c = simp (length_none known command_fields _ (sym c.command_length-n.ensures ∙ c.if-n-eq0.true))

pub returns-then-room-n : goal.returns-then-room-n
unfolding write_command command_refusals
returns-then-room-n c = simp (length_some known command_fields _ (λ e. c.if-n-eq0.false (c.command_length-n.ensures ∙ e)), ← c.command_length-n.ensures, lt-ltb _ _ c.if-room-n.true)

pub lay_command-requires : goal.lay_command-requires
lay_command-requires c =
    let k = length-known known command_fields _ (length_some known command_fields _ (λ e. c.if-n-eq0.false (c.command_length-n.ensures ∙ e))) in
    let e = c.command_length-n.ensures in
    omega arith

pub returns-then-counts_fit : goal.returns-then-counts_fit
unfolding write_command command_refusals
returns-then-counts_fit c =
    simp (length_some known command_fields _ (λ e. c.if-n-eq0.false (c.command_length-n.ensures ∙ e)), ← c.command_length-n.ensures, le-ltb _ _ c.if-room-n.false, ← c.counts_fit.ensures, c.if-counts_fit.true) c.lay_command.ensures

pub returns : goal.returns
unfolding write_command command_refusals
returns c = simp (length_some known command_fields _ (λ e. c.if-n-eq0.false (c.command_length-n.ensures ∙ e)), ← c.command_length-n.ensures, le-ltb _ _ c.if-room-n.false, ← c.counts_fit.ensures, c.if-counts_fit.false)
