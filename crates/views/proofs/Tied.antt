-- No contract of this crate leaves a choice: two views that it allows for the same session coincide. Assumes nothing.
use Rattle.refusals.proofs.Tied.{Tied, tied}
use Rattle.views.proofs.dispenser.Kinds as dispenser
use Rattle.views.proofs.dispenser.Reads as dispenser-reads
use Rattle.views.proofs.validator.Kinds as validator
use Rattle.views.proofs.validator.Reads as validator-reads

pub dispenser-tied : Tied dispenser.ps dispenser.r dispenser-reads.Post (λ κs x e. x)
dispenser-tied = tied dispenser.ps dispenser.r dispenser-reads.Post (λ κs x e. x) _ (λ κs a x e p. p)

pub validator-tied : Tied validator.ps validator.r validator-reads.Post (λ κs x e. x)
validator-tied = tied validator.ps validator.r validator-reads.Post (λ κs x e. x) _ (λ κs a x e p. p)
