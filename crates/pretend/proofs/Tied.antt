-- No contract of this crate leaves a choice: two outcomes that it allows for the same arguments coincide, in the result and in every
-- byte of a lent room. Said of the contracts themselves, since each is one equation. Assumes nothing.
use Prim.Native.Nat.{ℕ}
use mathlib.Core.Path.{ap}
use mathlib.Core.List.{List}
use Rattle.refusals.proofs.Tied.{Tied, tied}
use Rattle.pretend_rules.specs.declared.device.Outcome.{Outcome}
use Rattle.pretend.proofs.wire.is_busy.Kinds as is-busy
use Rattle.pretend.proofs.wire.is_busy.Reads as is-busy-reads
use Rattle.pretend.proofs.device.byte.Kinds as byte
use Rattle.pretend.proofs.device.byte.Reads as byte-Reads
use Rattle.pretend.proofs.device.tick.Kinds as tick
use Rattle.pretend.proofs.device.tick.Reads as tick-reads
use Rattle.pretend.proofs.device.tell.Kinds as tell
use Rattle.pretend.proofs.device.tell.Reads as tell-reads

pub is-busy-tied : Tied is-busy.ps is-busy.r is-busy-reads.Post (λ κs x e. x)
is-busy-tied = tied is-busy.ps is-busy.r is-busy-reads.Post (λ κs x e. x) _ (λ κs a x e p. p)

pub byte-tied : Tied byte.ps byte.r byte-Reads.Post {A = Outcome × List ℕ} (λ κs x e. (x, e.1.1.0.now))
byte-tied =
    tied byte.ps byte.r byte-Reads.Post {A = Outcome × List ℕ} (λ κs x e. (x, e.1.1.0.now)) _
    (λ κs a x e p. ap (λ w. (record { device = w.session; reply = w.reply }, w.room)) p)

pub tick-tied : Tied tick.ps tick.r tick-reads.Post {A = Outcome × List ℕ} (λ κs x e. (x, e.1.1.0.now))
tick-tied =
    tied tick.ps tick.r tick-reads.Post {A = Outcome × List ℕ} (λ κs x e. (x, e.1.1.0.now)) _
    (λ κs a x e p. ap (λ w. (record { device = w.session; reply = w.reply }, w.room)) p)

pub tell-tied : Tied tell.ps tell.r tell-reads.Post {A = Outcome × List ℕ} (λ κs x e. (x, e.1.1.0.now))
tell-tied =
    tied tell.ps tell.r tell-reads.Post {A = Outcome × List ℕ} (λ κs x e. (x, e.1.1.0.now)) _
    (λ κs a x e p. ap (λ w. (record { device = w.session; reply = w.reply }, w.room)) p)
