-- `dispenser_frame::command::asks_upper` meets its contract. Assumes nothing.
use mathlib.Core.Path.{sym, ◌∙◌}
use borrow.Author.Tests.{eq-eqb, ne_eqb}
use Rattle.dispenser_frame_rules.proofs.Codes.{upper-asked}
use Rattle.dispenser_frame.proofs.command.asks_upper.Goals as goal

pub returns-then-code-eq-PAY_UPPER : goal.returns-then-code-eq-PAY_UPPER
returns-then-code-eq-PAY_UPPER c = sym (upper-asked _ ∙ simp (eq-eqb _ _ c.if-code-eq-PAY_UPPER.true))

pub returns-else-code-eq-PAY_UPPER : goal.returns-else-code-eq-PAY_UPPER
returns-else-code-eq-PAY_UPPER c = sym (upper-asked _ ∙ simp (ne_eqb _ _ c.if-code-eq-PAY_UPPER.false))
