-- The clauses of `Line::fresh` and `Sums::fresh` leave no choice. Assumes nothing.
use Rattle.refusals.proofs.Tied.{Tied, tied}
use Rattle.exchange_rules.proofs.line.Line.fresh.Kinds as line
use Rattle.exchange_rules.proofs.line.Line.fresh.Reads as line_reads_lem
use Rattle.exchange_rules.proofs.notes.Sums.fresh.Kinds as sums
use Rattle.exchange_rules.proofs.notes.Sums.fresh.Reads as sums-reads

pub line-fresh-tied : Tied line.ps line.r line_reads_lem.Post (λ κs x e. x)
line-fresh-tied = tied line.ps line.r line_reads_lem.Post (λ κs x e. x) _ (λ κs a x e p. p)

pub sums-fresh-tied : Tied sums.ps sums.r sums-reads.Post (λ κs x e. x)
sums-fresh-tied = tied sums.ps sums.r sums-reads.Post (λ κs x e. x) _ (λ κs a x e p. p)
