-- The device that histories start from is the one of `Device::fresh`: its clause is, as it stands, the equation with it. No contract of this crate leaves a choice.
-- Assumes nothing.
use mathlib.Core.Path.{◌≡◌, refl}
use Rattle.refusals.proofs.Tied.{Is, Tied, tied}
use Rattle.pretend_rules.specs.Device.{fresh_device}
use Rattle.pretend_rules.proofs.wire.Wire.fresh.Kinds as wire-fresh
use Rattle.pretend_rules.proofs.wire.Wire.fresh.Reads as wire-fresh-reads
use Rattle.pretend_rules.proofs.tally.Tallies.fresh.Kinds as tallies-fresh
use Rattle.pretend_rules.proofs.tally.Tallies.fresh.Reads as tallies-fresh-reads
use Rattle.pretend_rules.proofs.device.Device.fresh.Kinds as fresh
use Rattle.pretend_rules.proofs.device.Device.fresh.Reads as fresh-reads

fresh-cited : Is fresh.ps fresh.r fresh-reads.Post (λ κs a x e. x ≡ fresh_device)
fresh-cited κs a x e = refl

pub fresh-tied : Tied fresh.ps fresh.r fresh-reads.Post (λ κs x e. x)
fresh-tied = tied fresh.ps fresh.r fresh-reads.Post (λ κs x e. x) _ (λ κs a x e p. p)

pub wire-fresh-tied : Tied wire-fresh.ps wire-fresh.r wire-fresh-reads.Post (λ κs x e. x)
wire-fresh-tied = tied wire-fresh.ps wire-fresh.r wire-fresh-reads.Post (λ κs x e. x) _ (λ κs a x e p. p)

pub tallies-fresh-tied : Tied tallies-fresh.ps tallies-fresh.r tallies-fresh-reads.Post (λ κs x e. x)
tallies-fresh-tied = tied tallies-fresh.ps tallies-fresh.r tallies-fresh-reads.Post (λ κs x e. x) _ (λ κs a x e p. p)
