-- No contract of this crate leaves a choice: two outcomes that it allows for the same arguments coincide, in the result and in every byte of a lent room. Said of the contracts
-- themselves, since each is one equation. Assumes nothing.
use Prim.Native.Nat.{ℕ}
use mathlib.Core.Path.{ap}
use mathlib.Core.List.{List}
use Rattle.refusals.proofs.Tied.{Tied, tied}
use Rattle.vcdm_rules.specs.Outcome.{Outcome}
use Rattle.vcdm.proofs.session.byte.Kinds as byte
use Rattle.vcdm.proofs.session.byte.Reads as byte-Reads
use Rattle.vcdm.proofs.session.tick.Kinds as tick
use Rattle.vcdm.proofs.session.tick.Reads as tick-reads
use Rattle.vcdm.proofs.session.request.Kinds as request
use Rattle.vcdm.proofs.session.request.Reads as request-reads

pub byte-tied : Tied byte.ps byte.r byte-Reads.Post {A = Outcome × List ℕ} (λ κs x e. (x, e.1.1.0.now))
byte-tied =
    tied byte.ps byte.r byte-Reads.Post {A = Outcome × List ℕ} (λ κs x e. (x, e.1.1.0.now)) _
    (λ κs a x e p. ap (λ w. (record { session = w.session; reply = w.reply }, w.room)) p)

pub tick-tied : Tied tick.ps tick.r tick-reads.Post {A = Outcome × List ℕ} (λ κs x e. (x, e.1.1.0.now))
tick-tied =
    tied tick.ps tick.r tick-reads.Post {A = Outcome × List ℕ} (λ κs x e. (x, e.1.1.0.now)) _
    (λ κs a x e p. ap (λ w. (record { session = w.session; reply = w.reply }, w.room)) p)

pub request-tied : Tied request.ps request.r request-reads.Post {A = Outcome × List ℕ} (λ κs x e. (x, e.1.1.1.0.now))
request-tied =
    tied request.ps request.r request-reads.Post {A = Outcome × List ℕ} (λ κs x e. (x, e.1.1.1.0.now)) _
    (λ κs a x e p. ap (λ w. (record { session = w.session; reply = w.reply }, w.room)) p)
