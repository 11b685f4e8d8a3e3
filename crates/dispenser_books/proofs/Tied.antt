-- No contract of this crate leaves a choice: two outcomes that it allows for the same arguments coincide. Assumes nothing.
use Rattle.refusals.proofs.Tied.{Tied, tied}
use Rattle.dispenser_books.proofs.account.booked.Kinds as booked
use Rattle.dispenser_books.proofs.account.booked.Reads as booked-reads
use Rattle.dispenser_books.proofs.account.booked_request.Kinds as booked-request
use Rattle.dispenser_books.proofs.account.booked_request.Reads as booked-request-reads
use Rattle.dispenser_books.proofs.errors.erred.Kinds as erred
use Rattle.dispenser_books.proofs.errors.erred.Reads as erred-reads
use Rattle.dispenser_books.proofs.requests.advance.Kinds as advance
use Rattle.dispenser_books.proofs.requests.advance.Reads as advance-reads
use Rattle.dispenser_books.proofs.requests.write_down.Kinds as write-down
use Rattle.dispenser_books.proofs.requests.write_down.Reads as write-down-reads
use Rattle.dispenser_books.proofs.requests.asked.Kinds as asked
use Rattle.dispenser_books.proofs.requests.asked.Reads as asked-reads
use Rattle.dispenser_books.proofs.requests.heard.Kinds as heard
use Rattle.dispenser_books.proofs.requests.heard.Reads as heard-reads
use Rattle.dispenser_books.proofs.requests.kept_at.Kinds as kept_at
use Rattle.dispenser_books.proofs.requests.kept_at.Reads as kept-at-reads
use Rattle.dispenser_books.proofs.requests.pays.Kinds as pays
use Rattle.dispenser_books.proofs.requests.pays.Reads as pays-reads
use Rattle.dispenser_books.proofs.requests.unwritten.Kinds as unwritten
use Rattle.dispenser_books.proofs.requests.unwritten.Reads as unwritten-reads

pub booked-tied : Tied booked.ps booked.r booked-reads.Post (λ κs x e. x)
booked-tied =
    tied booked.ps booked.r booked-reads.Post (λ κs x e. x) _
    (λ κs a x e p. p)

pub booked-request-tied : Tied booked-request.ps booked-request.r booked-request-reads.Post (λ κs x e. x)
booked-request-tied =
    tied booked-request.ps booked-request.r booked-request-reads.Post (λ κs x e. x) _
    (λ κs a x e p. p)

pub erred-tied : Tied erred.ps erred.r erred-reads.Post (λ κs x e. x)
erred-tied = tied erred.ps erred.r erred-reads.Post (λ κs x e. x) _ (λ κs a x e p. p)

pub advance-tied : Tied advance.ps advance.r advance-reads.Post (λ κs x e. x)
advance-tied = tied advance.ps advance.r advance-reads.Post (λ κs x e. x) _ (λ κs a x e p. p)

pub write-down-tied : Tied write-down.ps write-down.r write-down-reads.Post (λ κs x e. x)
write-down-tied = tied write-down.ps write-down.r write-down-reads.Post (λ κs x e. x) _ (λ κs a x e p. p)

pub asked-tied : Tied asked.ps asked.r asked-reads.Post (λ κs x e. x)
asked-tied = tied asked.ps asked.r asked-reads.Post (λ κs x e. x) _ (λ κs a x e p. p)

pub heard-tied : Tied heard.ps heard.r heard-reads.Post (λ κs x e. x)
heard-tied = tied heard.ps heard.r heard-reads.Post (λ κs x e. x) _ (λ κs a x e p. p)

pub kept-at-tied : Tied kept_at.ps kept_at.r kept-at-reads.Post (λ κs x e. x)
kept-at-tied = tied kept_at.ps kept_at.r kept-at-reads.Post (λ κs x e. x) _ (λ κs a x e p. p)

pub pays-tied : Tied pays.ps pays.r pays-reads.Post (λ κs x e. x)
pays-tied = tied pays.ps pays.r pays-reads.Post (λ κs x e. x) _ (λ κs a x e p. p)

pub unwritten-tied : Tied unwritten.ps unwritten.r unwritten-reads.Post (λ κs x e. x)
unwritten-tied = tied unwritten.ps unwritten.r unwritten-reads.Post (λ κs x e. x) _ (λ κs a x e p. p)
