-- The steps that the theorems of `pretend_rules` speak of are those of the contracts: each clause is, as it stands, the equation with the call that histories and runs on the
-- bench are made of. Assumes nothing.
use mathlib.Core.Path.{◌≡◌, refl}
use Rattle.refusals.proofs.Tied.{Is}
use Rattle.pretend_rules.specs.Device.{after}
use Rattle.pretend_rules.specs.Calls as calls
use Rattle.pretend.proofs.device.byte.Kinds as byte
use Rattle.pretend.proofs.device.byte.Reads as byte-Reads
use Rattle.pretend.proofs.device.tick.Kinds as tick
use Rattle.pretend.proofs.device.tick.Reads as tick-reads
use Rattle.pretend.proofs.device.tell.Kinds as tell
use Rattle.pretend.proofs.device.tell.Reads as tell-reads

byte-cited : Is byte.ps byte.r byte-Reads.Post (λ κs a x e. after x e.1.1.0.now ≡ calls.called a.0 (calls.byte a.1.0 a.1.1.0.now))
byte-cited κs a x e = refl

tick-cited : Is tick.ps tick.r tick-reads.Post (λ κs a x e. after x e.1.1.0.now ≡ calls.called a.0 (calls.tick a.1.0 a.1.1.0.now))
tick-cited κs a x e = refl

tell-cited : Is tell.ps tell.r tell-reads.Post (λ κs a x e. after x e.1.1.0.now ≡ calls.called a.0 (calls.tell a.1.0 a.1.1.0.now))
tell-cited κs a x e = refl
