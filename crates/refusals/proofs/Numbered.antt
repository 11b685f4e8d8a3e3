-- No contract of this crate leaves a choice, and each is what it says. Assumes nothing.
use mathlib.Core.Path.{◌≡◌, refl}
use Rattle.refusals.specs.Numbers.{declined_number}
use Rattle.refusals.proofs.Tied.{Is, Tied, tied}
use Rattle.refusals.proofs.Refusal.number.Kinds as refusal
use Rattle.refusals.proofs.Refusal.number.Reads as refusal-reads
use Rattle.refusals.proofs.Declined.number.Kinds as declined
use Rattle.refusals.proofs.Declined.number.Reads as declined-reads

pub refusal-tied : Tied refusal.ps refusal.r refusal-reads.Post (λ κs x e. x)
refusal-tied = tied refusal.ps refusal.r refusal-reads.Post (λ κs x e. x) _ (λ κs a x e p. p)

pub declined-tied : Tied declined.ps declined.r declined-reads.Post (λ κs x e. x)
declined-tied = tied declined.ps declined.r declined-reads.Post (λ κs x e. x) _ (λ κs a x e p. p)

pub declined-cited : Is declined.ps declined.r declined-reads.Post (λ κs a x e. x ≡ declined_number a.0)
declined-cited κs a x e = refl
