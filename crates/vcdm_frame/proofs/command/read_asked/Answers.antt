-- `vcdm_frame::command::read_asked` meets its contract. Assumes nothing.
use mathlib.Core.Path.{sym, ◌∙◌}
use Rattle.xor_frame.specs.Layout.{sizes}
use Rattle.vcdm_frame_rules.proofs.Raw.{plain-read}
use native.Mathlib.Omega.{arith}
use Rattle.vcdm_frame.proofs.command.read_asked.Goals as goal

pub read_dispense-requires : goal.read_dispense-requires
unfolding sizes
read_dispense-requires c =
    let t = sym c.asks.ensures ∙ c.if-asks.true in
    let h = simp t at c.requires in
    record { in_bounds = omega (arith, h); code_value = t }

pub returns : goal.returns
returns c = sym (plain-read _ _ (sym c.asks.ensures ∙ c.if-asks.false))
