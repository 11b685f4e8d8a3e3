-- No contract of this crate leaves a choice: two outcomes that it allows for the same arguments coincide. Said of the contracts themselves, since each is one equation. Assumes nothing.
use Rattle.refusals.proofs.Tied.{Tied, tied}
use Rattle.validator_line.proofs.is_open.Kinds as is_open
use Rattle.validator_line.proofs.is_open.Reads as is-open-reads
use Rattle.validator_line.proofs.opened.Kinds as opened
use Rattle.validator_line.proofs.opened.Reads as opened-reads
use Rattle.validator_line.proofs.remembers.Kinds as remembers
use Rattle.validator_line.proofs.remembers.Reads as remembers-reads
use Rattle.validator_line.proofs.heard.Kinds as heard
use Rattle.validator_line.proofs.heard.Reads as heard-reads
use Rattle.validator_line.proofs.passed.Kinds as passed
use Rattle.validator_line.proofs.passed.Reads as Passed-reads

pub is-open-tied : Tied is_open.ps is_open.r is-open-reads.Post (λ κs x e. x)
is-open-tied = tied is_open.ps is_open.r is-open-reads.Post (λ κs x e. x) _ (λ κs a x e p. p)

pub opened-tied : Tied opened.ps opened.r opened-reads.Post (λ κs x e. x)
opened-tied = tied opened.ps opened.r opened-reads.Post (λ κs x e. x) _ (λ κs a x e p. p)

pub remembers-tied : Tied remembers.ps remembers.r remembers-reads.Post (λ κs x e. x)
remembers-tied = tied remembers.ps remembers.r remembers-reads.Post (λ κs x e. x) _ (λ κs a x e p. p)

pub heard-tied : Tied heard.ps heard.r heard-reads.Post (λ κs x e. x)
heard-tied = tied heard.ps heard.r heard-reads.Post (λ κs x e. x) _ (λ κs a x e p. p)

pub passed-tied : Tied passed.ps passed.r Passed-reads.Post (λ κs x e. x)
passed-tied = tied passed.ps passed.r Passed-reads.Post (λ κs x e. x) _ (λ κs a x e p. p)
