-- `dispenser_frame::command::asks_lower` meets its contract. Assumes nothing.
use mathlib.Core.Path.{sym, ◌∙◌}
use borrow.Author.Tests.{eq-eqb, ne_eqb}
use Rattle.dispenser_frame_rules.proofs.Codes.{lower-asked}
use Rattle.dispenser_frame.proofs.command.asks_lower.Goals as goal

pub returns-then-code-eq-PAY_LOWER : goal.returns-then-code-eq-PAY_LOWER
returns-then-code-eq-PAY_LOWER c = sym (lower-asked _ ∙ simp (eq-eqb _ _ c.if-code-eq-PAY_LOWER.true))

pub returns-else-code-eq-PAY_LOWER : goal.returns-else-code-eq-PAY_LOWER
returns-else-code-eq-PAY_LOWER c = sym (lower-asked _ ∙ simp (ne_eqb _ _ c.if-code-eq-PAY_LOWER.false))
