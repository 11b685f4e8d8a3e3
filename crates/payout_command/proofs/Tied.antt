-- No contract of this crate leaves a choice: two outcomes that it allows for the same arguments coincide. Assumes nothing.
use Rattle.refusals.proofs.Tied.{Tied, tied}
use Rattle.payout_command.proofs.command_for.Kinds as command-for
use Rattle.payout_command.proofs.command_for.Reads as command-for-reads

pub command-for-tied : Tied command-for.ps command-for.r command-for-reads.Post (λ κs x e. x)
command-for-tied = tied command-for.ps command-for.r command-for-reads.Post (λ κs x e. x) _ (λ κs a x e p. p)
