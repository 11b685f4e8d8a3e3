-- `vcdm_frame::command::read_command` meets its contract: what `judge` finds, and then what the fields give. Assumes nothing.
use Rattle.std.specs.Prelude.{◌≡◌, Err}
use Rattle.std.proofs.lemmas.Result.{err_from_is_err_and}
use Prim.Native.Nat.{◌≤◌}
use mathlib.Core.Path.{sym, ◌∙◌}
use lib.ListN.{length}
use borrow.Author.Tests.{lt-ltb}
use Rattle.vcdm_frame_rules.specs.Table.{unit_id, known, command_fields}
use Rattle.xor_frame.specs.Frame.{eot, faults}
use Rattle.vcdm_frame_rules.specs.Command.{read_command, command_faults}
use Rattle.vcdm_frame_rules.proofs.Raw.{command-reading}
use Rattle.xor_frame.proofs.Reading.{good-frame}
use native.Mathlib.Omega.{arith}
use borrow.Author.Rules.{rules}
use Rattle.vcdm_frame.proofs.command.read_command.Goals as goal

pub returns-then-s-lt6 : goal.returns-then-s-lt6
unfolding read_command command_faults faults
returns-then-s-lt6 c = simp (lt-ltb _ _ c.if-s-lt6.true)

pub read_asked-requires : goal.read_asked-requires
read_asked-requires c =
    let g = good-frame eot unit_id known command_fields c.args.s.now (rw (← c.command_length.ensures) (sym c.judge.ensures ∙ c.in_ok-judge.was)) in
    omega (arith, g.1)

pub returns-in_err-judge : goal.returns-in_err-judge
returns-in_err-judge c =
    let h : 6 ≤ length c.args.s.now = search rules in
    let p = err_from_is_err_and c.from_residual.result c.from_residual.ensures.1 in
    let was : c.judge.result ≡ Err c.in_err-judge.field-0.0 = c.in_err-judge.was in
    rw (p.1, p.2) (sym (command-reading c.args.s.now h ∙ simp (← c.command_length.ensures, ← c.judge.ensures, was)))

pub returns : goal.returns
returns c =
    let h : 6 ≤ length c.args.s.now = search rules in
    c.read_asked.ensures ∙ sym (command-reading c.args.s.now h ∙ simp (← c.command_length.ensures, ← c.judge.ensures, c.in_ok-judge.was))
