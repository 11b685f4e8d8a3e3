-- `pretend::wire::code_byte` meets its contract. Assumes nothing.
use mathlib.Core.Path.{sym, ◌∙◌}
use native.Mathlib.Omega.{arith}
use Rattle.std.specs.Prelude.{◌≢◌}
use Rattle.xor_frame.proofs.Lengths.{length_none, length_some}
use Rattle.dispenser_frame_rules.specs.Table.{known, command_fields}
use Rattle.pretend_rules.specs.Wire.{code_byte}
use Rattle.pretend.proofs.wire.code_byte.Goals as goal

pub returns-in-0 : goal.returns-in-0
unfolding code_byte
returns-in-0 c = simp (c.idle.ensures, length_none known command_fields _ (sym c.command_length.ensures ∙ c.in-0.is))

pub returns-in_default : goal.returns-in_default
unfolding code_byte
returns-in_default c =
    let some : c.command_length.result ≢ 0 = grind arith in
    simp (c.reading.ensures, length_some known command_fields _ (λ z. some (c.command_length.ensures ∙ z)), c.command_length.ensures)
