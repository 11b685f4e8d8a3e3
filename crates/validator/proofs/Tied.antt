-- No contract of this crate leaves a choice: two outcomes that it allows for the same arguments coincide, in the result and in every
-- byte of a lent store, table and room. Said of the contracts themselves, since each is one equation. Assumes nothing.
use Prim.Native.Nat.{ℕ}
use mathlib.Core.Path.{ap}
use mathlib.Core.List.{List}
use Rattle.refusals.proofs.Tied.{Tied, tied}
use Rattle.validator_rules.specs.declared.session.Step.{Step}
use Rattle.validator_rules.specs.Outcome.{Outcome}
use Rattle.validator_rules.proofs.session.Session.fresh.Kinds as fresh
use Rattle.validator_rules.proofs.session.Session.fresh.Reads as fresh-reads
use Rattle.validator.proofs.bills.booked.Kinds as booked
use Rattle.validator.proofs.bills.booked.Reads as booked-reads
use Rattle.validator.proofs.session.step_byte.Kinds as step-byte
use Rattle.validator.proofs.session.step_byte.Reads as step-byte-reads
use Rattle.validator.proofs.session.step_tick.Kinds as step-tick
use Rattle.validator.proofs.session.step_tick.Reads as step-tick-reads
use Rattle.validator.proofs.session.step_request.Kinds as step-request
use Rattle.validator.proofs.session.step_request.Reads as step-request-reads
use Rattle.validator.proofs.session.byte.Kinds as byte
use Rattle.validator.proofs.session.byte.Reads as byte-Reads
use Rattle.validator.proofs.session.tick.Kinds as tick
use Rattle.validator.proofs.session.tick.Reads as tick-reads
use Rattle.validator.proofs.session.request.Kinds as request
use Rattle.validator.proofs.session.request.Reads as request-reads

pub fresh-tied : Tied fresh.ps fresh.r fresh-reads.Post (λ κs x e. x)
fresh-tied = tied fresh.ps fresh.r fresh-reads.Post (λ κs x e. x) _ (λ κs a x e p. p)

pub booked-tied : Tied booked.ps booked.r booked-reads.Post (λ κs x e. x)
booked-tied = tied booked.ps booked.r booked-reads.Post (λ κs x e. x) _ (λ κs a x e p. p)

pub step-byte-tied : Tied step-byte.ps step-byte.r step-byte-reads.Post {A = Step × List ℕ × List ℕ × List ℕ}
    (λ κs x e. (x, e.1.0.now, e.1.1.0.now, e.1.1.1.1.0.now))
step-byte-tied =
    tied step-byte.ps step-byte.r step-byte-reads.Post {A = Step × List ℕ × List ℕ × List ℕ}
    (λ κs x e. (x, e.1.0.now, e.1.1.0.now, e.1.1.1.1.0.now)) _
    (λ κs a x e p. ap (λ w. (w.lent.step, w.lent.store, w.table, w.lent.room)) p)

pub step-tick-tied : Tied step-tick.ps step-tick.r step-tick-reads.Post {A = Step × List ℕ × List ℕ} (λ κs x e. (x, e.1.0.now, e.1.1.1.0.now))
step-tick-tied =
    tied step-tick.ps step-tick.r step-tick-reads.Post {A = Step × List ℕ × List ℕ} (λ κs x e. (x, e.1.0.now, e.1.1.1.0.now)) _
    (λ κs a x e p. ap (λ w. (w.step, w.store, w.room)) p)

pub step-request-tied : Tied step-request.ps step-request.r step-request-reads.Post {A = Step × List ℕ} (λ κs x e. (x, e.1.1.1.0.now))
step-request-tied =
    tied step-request.ps step-request.r step-request-reads.Post {A = Step × List ℕ} (λ κs x e. (x, e.1.1.1.0.now)) _
    (λ κs a x e p. ap (λ w. (w.step, w.room)) p)

pub byte-tied : Tied byte.ps byte.r byte-Reads.Post {A = Outcome × List ℕ} (λ κs x e. (x, e.1.1.0.now))
byte-tied =
    tied byte.ps byte.r byte-Reads.Post {A = Outcome × List ℕ} (λ κs x e. (x, e.1.1.0.now)) _
    (λ κs a x e p. ap (λ w. (record { session = w.session; reply = w.reply }, w.room)) p)

pub tick-tied : Tied tick.ps tick.r tick-reads.Post {A = Outcome × List ℕ} (λ κs x e. (x, e.1.1.0.now))
tick-tied =
    tied tick.ps tick.r tick-reads.Post {A = Outcome × List ℕ} (λ κs x e. (x, e.1.1.0.now)) _
    (λ κs a x e p. ap (λ w. (record { session = w.session; reply = w.reply }, w.room)) p)

pub request-tied : Tied request.ps request.r request-reads.Post {A = Outcome × List ℕ} (λ κs x e. (x, e.1.1.1.0.now))
request-tied =
    tied request.ps request.r request-reads.Post {A = Outcome × List ℕ} (λ κs x e. (x, e.1.1.1.0.now)) _
    (λ κs a x e p. ap (λ w. (record { session = w.session; reply = w.reply }, w.room)) p)
