-- The clauses of `Desk::fresh` and `Replaying::fresh` leave no choice. Assumes nothing.
use Rattle.refusals.proofs.Tied.{Tied, tied}
use Rattle.grading_rules.proofs.desk.Desk.fresh.Kinds as desk
use Rattle.grading_rules.proofs.desk.Desk.fresh.Reads as desk-reads
use Rattle.grading_rules.proofs.desk.Replaying.fresh.Kinds as replaying
use Rattle.grading_rules.proofs.desk.Replaying.fresh.Reads as replaying-reads

pub desk-fresh-tied : Tied desk.ps desk.r desk-reads.Post (λ κs x e. x)
desk-fresh-tied = tied desk.ps desk.r desk-reads.Post (λ κs x e. x) _ (λ κs a x e p. p)

pub replaying-fresh-tied : Tied replaying.ps replaying.r replaying-reads.Post (λ κs x e. x)
replaying-fresh-tied = tied replaying.ps replaying.r replaying-reads.Post (λ κs x e. x) _ (λ κs a x e p. p)
