-- No contract of this crate leaves a choice: two outcomes that it allows for the same arguments coincide, in the result and in every
-- byte of a lent room. Said of the contracts themselves, since each is one equation, or two for `body`. Assumes nothing.
use Prim.Native.Nat.{ℕ}
use mathlib.Core.Path.{ap, ap₂}
use mathlib.Core.List.{List}
use Rattle.refusals.specs.Put.{Put}
use Rattle.refusals.proofs.Tied.{Tied, tied}
use Rattle.ccnet_frame.proofs.Fault.number.Kinds as fault-number
use Rattle.ccnet_frame.proofs.Fault.number.Reads as fault-number-reads
use Rattle.ccnet_frame.proofs.body.Kinds as body
use Rattle.ccnet_frame.proofs.body.Reads as body-Reads
use Rattle.ccnet_frame.proofs.byte_at.Kinds as byte_at
use Rattle.ccnet_frame.proofs.byte_at.Reads as byte-at-reads
use Rattle.ccnet_frame.proofs.judge.Kinds as judge
use Rattle.ccnet_frame.proofs.judge.Reads as judge-reads
use Rattle.ccnet_frame.proofs.judge_sized.Kinds as judge-sized
use Rattle.ccnet_frame.proofs.judge_sized.Reads as judge-sized-reads
use Rattle.ccnet_frame.proofs.lay.Kinds as lay
use Rattle.ccnet_frame.proofs.lay.Reads as lay-reads
use Rattle.ccnet_frame.proofs.plan.Kinds as plan
use Rattle.ccnet_frame.proofs.plan.Reads as plan-reads
use Rattle.ccnet_frame.proofs.word.Kinds as word
use Rattle.ccnet_frame.proofs.word.Reads as word-reads
use Rattle.ccnet_frame.proofs.write_ack.Kinds as write-ack
use Rattle.ccnet_frame.proofs.write_ack.Reads as write-ack-reads
use Rattle.ccnet_frame.proofs.write_answer.Kinds as write-answer
use Rattle.ccnet_frame.proofs.write_answer.Reads as write-answer-reads
use Rattle.ccnet_frame.proofs.write_command.Kinds as write-command
use Rattle.ccnet_frame.proofs.write_command.Reads as write-command-reads
use Rattle.ccnet_frame.proofs.write_nak.Kinds as write-nak
use Rattle.ccnet_frame.proofs.write_nak.Reads as write-nak-reads

pub fault-number-tied : Tied fault-number.ps fault-number.r fault-number-reads.Post (λ κs x e. x)
fault-number-tied = tied fault-number.ps fault-number.r fault-number-reads.Post (λ κs x e. x) _ (λ κs a x e p. p)

pub judge-tied : Tied judge.ps judge.r judge-reads.Post (λ κs x e. x)
judge-tied = tied judge.ps judge.r judge-reads.Post (λ κs x e. x) _ (λ κs a x e p. p)

-- a part handed back is seen by its place and its bytes
pub body-tied : Tied body.ps body.r body-Reads.Post {A = (ℕ × ℕ) × List ℕ} (λ κs x e. (x.ref_ptr, x.now))
body-tied =
    tied body.ps body.r body-Reads.Post {A = (ℕ × ℕ) × List ℕ} (λ κs x e. (x.ref_ptr, x.now)) _
    (λ κs a x e p. ap₂ (λ (place : ℕ × ℕ) (bytes : List ℕ). (place, bytes)) p.place p.bytes)

pub write-ack-tied : Tied write-ack.ps write-ack.r write-ack-reads.Post {A = Put × List ℕ} (λ κs x e. (x, e.0.now))
write-ack-tied =
    tied write-ack.ps write-ack.r write-ack-reads.Post {A = Put × List ℕ} (λ κs x e. (x, e.0.now)) _
    (λ κs a x e p. ap (λ w. (w.answer, w.room)) p)

pub write-answer-tied : Tied write-answer.ps write-answer.r write-answer-reads.Post {A = Put × List ℕ} (λ κs x e. (x, e.1.1.0.now))
write-answer-tied =
    tied write-answer.ps write-answer.r write-answer-reads.Post {A = Put × List ℕ} (λ κs x e. (x, e.1.1.0.now)) _
    (λ κs a x e p. ap (λ w. (w.answer, w.room)) p)

pub write-command-tied : Tied write-command.ps write-command.r write-command-reads.Post {A = Put × List ℕ} (λ κs x e. (x, e.1.1.1.0.now))
write-command-tied =
    tied write-command.ps write-command.r write-command-reads.Post {A = Put × List ℕ} (λ κs x e. (x, e.1.1.1.0.now)) _
    (λ κs a x e p. ap (λ w. (w.answer, w.room)) p)

pub write-nak-tied : Tied write-nak.ps write-nak.r write-nak-reads.Post {A = Put × List ℕ} (λ κs x e. (x, e.0.now))
write-nak-tied =
    tied write-nak.ps write-nak.r write-nak-reads.Post {A = Put × List ℕ} (λ κs x e. (x, e.0.now)) _
    (λ κs a x e p. ap (λ w. (w.answer, w.room)) p)

pub byte-at-tied : Tied byte_at.ps byte_at.r byte-at-reads.Post (λ κs x e. x)
byte-at-tied = tied byte_at.ps byte_at.r byte-at-reads.Post (λ κs x e. x) _ (λ κs a x e p. p)

pub judge-sized-tied : Tied judge-sized.ps judge-sized.r judge-sized-reads.Post (λ κs x e. x)
judge-sized-tied = tied judge-sized.ps judge-sized.r judge-sized-reads.Post (λ κs x e. x) _ (λ κs a x e p. p)

pub plan-tied : Tied plan.ps plan.r plan-reads.Post (λ κs x e. x)
plan-tied = tied plan.ps plan.r plan-reads.Post (λ κs x e. x) _ (λ κs a x e p. p)

pub word-tied : Tied word.ps word.r word-reads.Post (λ κs x e. x)
word-tied = tied word.ps word.r word-reads.Post (λ κs x e. x) _ (λ κs a x e p. p)

pub lay-tied : Tied lay.ps lay.r lay-reads.Post (λ κs x e. e.1.1.0.now)
lay-tied = tied lay.ps lay.r lay-reads.Post (λ κs x e. e.1.1.0.now) _ (λ κs a x e p. p)
