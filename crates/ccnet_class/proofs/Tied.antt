-- The contract of this crate leaves no choice: two outcomes that it allows for the same body coincide. Said of the contract itself, since it is one equation.
-- Assumes nothing.
use Rattle.refusals.proofs.Tied.{Tied, tied}
use Rattle.ccnet_class.proofs.classify.Kinds as classify
use Rattle.ccnet_class.proofs.classify.Reads as classify-reads

pub classify-tied : Tied classify.ps classify.r classify-reads.Post (λ κs x e. x)
classify-tied = tied classify.ps classify.r classify-reads.Post (λ κs x e. x) _ (λ κs a x e p. p)
