-- No contract of this crate leaves a choice: two outcomes that it allows for the same arguments coincide, in the result and in every byte of a lent table or
-- room. Said of the contracts themselves, since each is one equation. Assumes nothing.
use Prim.Native.Nat.{ℕ}
use mathlib.Core.Bool.{Bool}
use mathlib.Core.Path.{ap}
use mathlib.Core.List.{List}
use Rattle.refusals.specs.Put.{Put}
use Rattle.refusals.proofs.Tied.{Tied, tied}
use Rattle.bill_table.proofs.read.Kinds as read
use Rattle.bill_table.proofs.read.Reads as read-reads
use Rattle.bill_table.proofs.write.Kinds as write
use Rattle.bill_table.proofs.write.Reads as write-reads
use Rattle.bill_table.proofs.word_at.Kinds as word_at
use Rattle.bill_table.proofs.word_at.Reads as word-at-reads
use Rattle.bill_table.proofs.meaning_of.Kinds as meaning-of
use Rattle.bill_table.proofs.meaning_of.Reads as meaning-of-reads
use Rattle.bill_table.proofs.total_of.Kinds as total_of
use Rattle.bill_table.proofs.total_of.Reads as total-of-reads

pub read-tied : Tied read.ps read.r read-reads.Post {A = Bool × List ℕ} (λ κs x e. (x, e.1.0.now))
read-tied =
    tied read.ps read.r read-reads.Post {A = Bool × List ℕ} (λ κs x e. (x, e.1.0.now)) _
    (λ κs a x e p. ap (λ k. (k.taken, k.table)) p)

pub write-tied : Tied write.ps write.r write-reads.Post {A = Put × List ℕ} (λ κs x e. (x, e.1.0.now))
write-tied =
    tied write.ps write.r write-reads.Post {A = Put × List ℕ} (λ κs x e. (x, e.1.0.now)) _
    (λ κs a x e p. ap (λ w. (w.answer, w.room)) p)

pub word-at-tied : Tied word_at.ps word_at.r word-at-reads.Post (λ κs x e. x)
word-at-tied = tied word_at.ps word_at.r word-at-reads.Post (λ κs x e. x) _ (λ κs a x e p. p)

pub meaning-of-tied : Tied meaning-of.ps meaning-of.r meaning-of-reads.Post (λ κs x e. x)
meaning-of-tied = tied meaning-of.ps meaning-of.r meaning-of-reads.Post (λ κs x e. x) _ (λ κs a x e p. p)

pub total-of-tied : Tied total_of.ps total_of.r total-of-reads.Post (λ κs x e. x)
total-of-tied = tied total_of.ps total_of.r total-of-reads.Post (λ κs x e. x) _ (λ κs a x e p. p)
