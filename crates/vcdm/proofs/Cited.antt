-- The calls that demand 3 speaks of are those of the contracts: the clause of each public call is, as it stands, the equation with the call that `called` makes. Assumes nothing.
use mathlib.Core.Path.{◌≡◌, refl}
use Rattle.refusals.proofs.Tied.{Is}
use Rattle.vcdm_rules.specs.Session.{after}
use Rattle.vcdm_rules.specs.Calls.{request, byte, tick, called}
use Rattle.vcdm.proofs.session.request.Kinds as request-kinds
use Rattle.vcdm.proofs.session.request.Reads as request-reads
use Rattle.vcdm.proofs.session.byte.Kinds as byte-kinds
use Rattle.vcdm.proofs.session.byte.Reads as byte-Reads
use Rattle.vcdm.proofs.session.tick.Kinds as tick-kinds
use Rattle.vcdm.proofs.session.tick.Reads as tick-reads

request-cited : Is request-kinds.ps request-kinds.r request-reads.Post
    (λ κs a x e. after x e.1.1.1.0.now ≡ called a.0 (request a.1.0 a.1.1.0 a.1.1.1.0.now))
request-cited κs a x e = refl

byte-cited : Is byte-kinds.ps byte-kinds.r byte-Reads.Post
    (λ κs a x e. after x e.1.1.0.now ≡ called a.0 (byte a.1.0 a.1.1.0.now))
byte-cited κs a x e = refl

tick-cited : Is tick-kinds.ps tick-kinds.r tick-reads.Post
    (λ κs a x e. after x e.1.1.0.now ≡ called a.0 (tick a.1.0 a.1.1.0.now))
tick-cited κs a x e = refl
