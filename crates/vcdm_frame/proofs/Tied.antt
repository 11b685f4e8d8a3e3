-- No contract of this crate leaves a choice: two outcomes that it allows for the same arguments coincide, in the result and in every
-- byte of a lent room. Said of the contracts themselves, since each is one equation. Assumes nothing.
use Prim.Native.Nat.{ℕ}
use mathlib.Core.Path.{ap}
use mathlib.Core.List.{List}
use Rattle.refusals.specs.Put.{Put}
use Rattle.refusals.proofs.Tied.{Tied, tied}
use Rattle.vcdm_frame.proofs.answer.answer_length.Kinds as answer-length
use Rattle.vcdm_frame.proofs.answer.answer_length.Reads as answer-length-reads
use Rattle.vcdm_frame.proofs.answer.code_of.Kinds as code_of_lem
use Rattle.vcdm_frame.proofs.answer.code_of.Reads as code-of-reads
use Rattle.vcdm_frame.proofs.answer.read_answer.Kinds as read_answer
use Rattle.vcdm_frame.proofs.answer.read_answer.Reads as read-answer-reads
use Rattle.vcdm_frame.proofs.answer.write_answer.Kinds as write-answer
use Rattle.vcdm_frame.proofs.answer.write_answer.Reads as write-answer-reads
use Rattle.vcdm_frame.proofs.command.command_length.Kinds as command-length
use Rattle.vcdm_frame.proofs.command.command_length.Reads as command-length-reads
use Rattle.vcdm_frame.proofs.command.is_askable.Kinds as is-askable
use Rattle.vcdm_frame.proofs.command.is_askable.Reads as is-askable-reads
use Rattle.vcdm_frame.proofs.command.read_command.Kinds as read-command
use Rattle.vcdm_frame.proofs.command.read_command.Reads as read-command-reads
use Rattle.vcdm_frame.proofs.command.write_command.Kinds as write-command
use Rattle.vcdm_frame.proofs.command.write_command.Reads as write-command-reads

pub answer-length-tied : Tied answer-length.ps answer-length.r answer-length-reads.Post (λ κs x e. x)
answer-length-tied = tied answer-length.ps answer-length.r answer-length-reads.Post (λ κs x e. x) _ (λ κs a x e p. p)

pub code-of-tied : Tied code_of_lem.ps code_of_lem.r code-of-reads.Post (λ κs x e. x)
code-of-tied = tied code_of_lem.ps code_of_lem.r code-of-reads.Post (λ κs x e. x) _ (λ κs a x e p. p)

pub read-answer-tied : Tied read_answer.ps read_answer.r read-answer-reads.Post (λ κs x e. x)
read-answer-tied = tied read_answer.ps read_answer.r read-answer-reads.Post (λ κs x e. x) _ (λ κs a x e p. p)

pub write-answer-tied : Tied write-answer.ps write-answer.r write-answer-reads.Post {A = Put × List ℕ} (λ κs x e. (x, e.1.0.now))
write-answer-tied =
    tied write-answer.ps write-answer.r write-answer-reads.Post {A = Put × List ℕ} (λ κs x e. (x, e.1.0.now)) _
    (λ κs a x e p. ap (λ w. (w.answer, w.room)) p)

pub command-length-tied : Tied command-length.ps command-length.r command-length-reads.Post (λ κs x e. x)
command-length-tied = tied command-length.ps command-length.r command-length-reads.Post (λ κs x e. x) _ (λ κs a x e p. p)

pub is-askable-tied : Tied is-askable.ps is-askable.r is-askable-reads.Post (λ κs x e. x)
is-askable-tied = tied is-askable.ps is-askable.r is-askable-reads.Post (λ κs x e. x) _ (λ κs a x e p. p)

pub read-command-tied : Tied read-command.ps read-command.r read-command-reads.Post (λ κs x e. x)
read-command-tied = tied read-command.ps read-command.r read-command-reads.Post (λ κs x e. x) _ (λ κs a x e p. p)

pub write-command-tied : Tied write-command.ps write-command.r write-command-reads.Post {A = Put × List ℕ} (λ κs x e. (x, e.1.1.1.0.now))
write-command-tied =
    tied write-command.ps write-command.r write-command-reads.Post {A = Put × List ℕ} (λ κs x e. (x, e.1.1.1.0.now)) _
    (λ κs a x e p. ap (λ w. (w.answer, w.room)) p)
