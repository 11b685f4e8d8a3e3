-- No contract of this crate leaves a choice: two outcomes that it allows for the same arguments coincide, in the result and in every
-- byte of a lent room. Said of the contracts themselves. Assumes nothing.
use Prim.Native.Nat.{ℕ}
use mathlib.Core.Path.{ap₂}
use mathlib.Core.List.{List}
use Rattle.refusals.proofs.Tied.{Tied, tied}
use Rattle.xor_frame.proofs.frame.Fault.number.Kinds as fault-number
use Rattle.xor_frame.proofs.frame.Fault.number.Reads as fault-number-reads
use Rattle.xor_frame.proofs.frame.both.Kinds as both
use Rattle.xor_frame.proofs.frame.both.Reads as both-reads
use Rattle.xor_frame.proofs.frame.count.Kinds as count
use Rattle.xor_frame.proofs.frame.count.Reads as count-reads
use Rattle.xor_frame.proofs.frame.judge.Kinds as judge
use Rattle.xor_frame.proofs.frame.judge.Reads as judge-reads
use Rattle.xor_frame.proofs.frame.lay.Kinds as lay
use Rattle.xor_frame.proofs.frame.lay.Reads as lay-reads
use Rattle.xor_frame.proofs.frame.two_digits.Kinds as two_digits
use Rattle.xor_frame.proofs.frame.two_digits.Reads as two-digits-reads

pub fault-number-tied : Tied fault-number.ps fault-number.r fault-number-reads.Post (λ κs x e. x)
fault-number-tied = tied fault-number.ps fault-number.r fault-number-reads.Post (λ κs x e. x) _ (λ κs a x e p. p)

pub both_tied : Tied both.ps both.r both-reads.Post (λ κs x e. x)
both_tied = tied both.ps both.r both-reads.Post (λ κs x e. x) _ (λ κs a x e p. p)

pub count-tied : Tied count.ps count.r count-reads.Post (λ κs x e. x)
count-tied = tied count.ps count.r count-reads.Post (λ κs x e. x) _ (λ κs a x e p. p)

pub judge-tied : Tied judge.ps judge.r judge-reads.Post (λ κs x e. x)
judge-tied = tied judge.ps judge.r judge-reads.Post (λ κs x e. x) _ (λ κs a x e p. p)

pub lay-tied : Tied lay.ps lay.r lay-reads.Post {A = ℕ × List ℕ} (λ κs x e. (x, e.1.0.now))
lay-tied =
    tied lay.ps lay.r lay-reads.Post {A = ℕ × List ℕ} (λ κs x e. (x, e.1.0.now)) _
    (λ κs a x e p. ap₂ (λ (n : ℕ) (r : List ℕ). (n, r)) p.0 p.1)

pub two-digits-tied : Tied two_digits.ps two_digits.r two-digits-reads.Post (λ κs x e. x)
two-digits-tied = tied two_digits.ps two_digits.r two-digits-reads.Post (λ κs x e. x) _ (λ κs a x e p. p)
