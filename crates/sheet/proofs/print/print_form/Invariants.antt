use Rattle.std.proofs.Common.{◌≤◌}
use Rattle.sheet.proofs.print.print_form.Given as goal

abbrev pub invariant-loop-b : goal.invariant-loop-b
invariant-loop-b g l = l.k ≤ l.b-index
