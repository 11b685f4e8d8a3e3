-- No contract of this crate leaves a choice: two outcomes that it allows for the same arguments coincide. Assumes nothing.
use Rattle.refusals.proofs.Tied.{Tied, tied}
use Rattle.vcdm_books.proofs.account.booked.Kinds as booked
use Rattle.vcdm_books.proofs.account.booked.Reads as booked-reads
use Rattle.vcdm_books.proofs.account.booked_request.Kinds as booked-request
use Rattle.vcdm_books.proofs.account.booked_request.Reads as booked-request-reads

pub booked-tied : Tied booked.ps booked.r booked-reads.Post (λ κs x e. x)
booked-tied = tied booked.ps booked.r booked-reads.Post (λ κs x e. x) _ (λ κs a x e p. p)

pub booked-request-tied : Tied booked-request.ps booked-request.r booked-request-reads.Post (λ κs x e. x)
booked-request-tied = tied booked-request.ps booked-request.r booked-request-reads.Post (λ κs x e. x) _ (λ κs a x e p. p)
