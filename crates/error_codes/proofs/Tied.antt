-- The contract of this crate leaves no choice: two outcomes that it allows for the same byte coincide. Assumes nothing.
use Rattle.refusals.proofs.Tied.{Tied, tied}
use Rattle.error_codes.proofs.class_of.Kinds as class_of
use Rattle.error_codes.proofs.class_of.Reads as class-of-reads

pub class-of-tied : Tied class_of.ps class_of.r class-of-reads.Post (λ κs x e. x)
class-of-tied = tied class_of.ps class_of.r class-of-reads.Post (λ κs x e. x) _ (λ κs a x e p. p)
