-- No contract of this crate leaves a choice: two outcomes that it allows for the same arguments coincide, in the result and in every
-- byte of a lent room. Said of the contracts themselves, since each is one equation, or two for `data_of`. Assumes nothing.
use Prim.Native.Nat.{ℕ}
use mathlib.Core.Path.{ap, ap₂}
use mathlib.Core.List.{List}
use Rattle.refusals.specs.Put.{Put}
use Rattle.refusals.proofs.Tied.{Tied, tied}
use Rattle.ccnet_wide.proofs.data_of.Kinds as data_of
use Rattle.ccnet_wide.proofs.data_of.Reads as data-of-reads
use Rattle.ccnet_wide.proofs.judge.Kinds as judge
use Rattle.ccnet_wide.proofs.judge.Reads as judge-reads
use Rattle.ccnet_wide.proofs.write.Kinds as write
use Rattle.ccnet_wide.proofs.write.Reads as write-reads

pub judge-tied : Tied judge.ps judge.r judge-reads.Post (λ κs x e. x)
judge-tied = tied judge.ps judge.r judge-reads.Post (λ κs x e. x) _ (λ κs a x e p. p)

-- a part handed back is seen by its place and its bytes
pub data-of-tied : Tied data_of.ps data_of.r data-of-reads.Post {A = (ℕ × ℕ) × List ℕ} (λ κs x e. (x.ref_ptr, x.now))
data-of-tied =
    tied data_of.ps data_of.r data-of-reads.Post {A = (ℕ × ℕ) × List ℕ} (λ κs x e. (x.ref_ptr, x.now)) _
    (λ κs a x e p. ap₂ (λ (place : ℕ × ℕ) (bytes : List ℕ). (place, bytes)) p.place p.bytes)

pub write-tied : Tied write.ps write.r write-reads.Post {A = Put × List ℕ} (λ κs x e. (x, e.1.1.1.0.now))
write-tied =
    tied write.ps write.r write-reads.Post {A = Put × List ℕ} (λ κs x e. (x, e.1.1.1.0.now)) _
    (λ κs a x e p. ap (λ w. (w.answer, w.room)) p)
