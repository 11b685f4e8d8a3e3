-- No contract of this crate leaves a choice: two outcomes that it allows for the same arguments coincide, in the result and in every byte of a lent room. Said of the
-- contracts themselves, since each is one equation. Assumes nothing.
use Prim.Native.Nat.{ℕ}
use mathlib.Core.Path.{ap}
use mathlib.Core.List.{List}
use Rattle.refusals.specs.Put.{Put}
use Rattle.refusals.proofs.Tied.{Tied, tied}
use Rattle.record_writer.proofs.length_of.Kinds as length-of
use Rattle.record_writer.proofs.length_of.Reads as length-of-reads
use Rattle.record_writer.proofs.write.Kinds as write
use Rattle.record_writer.proofs.write.Reads as write-reads

pub length-of-tied : Tied length-of.ps length-of.r length-of-reads.Post (λ κs x e. x)
length-of-tied = tied length-of.ps length-of.r length-of-reads.Post (λ κs x e. x) _ (λ κs a x e p. p)

pub write-tied : Tied write.ps write.r write-reads.Post {A = Put × List ℕ} (λ κs x e. (x, e.1.0.now))
write-tied =
    tied write.ps write.r write-reads.Post {A = Put × List ℕ} (λ κs x e. (x, e.1.0.now)) _
    (λ κs a x e p. ap (λ w. (w.answer, w.room)) p)
