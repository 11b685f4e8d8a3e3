-- No contract of this crate leaves a choice: two outcomes that it allows for the same arguments coincide. Said of the contracts themselves. Assumes nothing.
use mathlib.Core.Path.{refl}
use Rattle.refusals.proofs.Tied.{Is, Tied, tied}
use Rattle.payout.specs.Plan.{Right}
use Rattle.payout.proofs.Sole.{sole}
use Rattle.payout.proofs.NoPlan.number.Kinds as number
use Rattle.payout.proofs.NoPlan.number.Reads as number-reads
use Rattle.payout.proofs.find.Kinds as find
use Rattle.payout.proofs.find.Reads as find-reads

pub number-tied : Tied number.ps number.r number-reads.Post (λ κs x e. x)
number-tied = tied number.ps number.r number-reads.Post (λ κs x e. x) _ (λ κs a x e p. p)

pub find_tied : Tied find.ps find.r find-reads.Post (λ κs x e. x)
find_tied κs a x y e f p q = sole _ _ _ x y p q

-- the contract of `find` is that its answer is right
pub find-cited : Is find.ps find.r find-reads.Post (λ κs a x e. Right a.0.now a.1.0.now a.1.1.0 x)
find-cited κs a x e = refl
