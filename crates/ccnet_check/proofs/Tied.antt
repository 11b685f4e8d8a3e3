-- No contract of this crate leaves a choice: two outcomes that it allows for the same arguments coincide. Said of the contracts themselves, since each is one
-- equation. Assumes nothing.
use Rattle.refusals.proofs.Tied.{Tied, tied}
use Rattle.ccnet_check.proofs.check_of.Kinds as check-of
use Rattle.ccnet_check.proofs.check_of.Reads as check-of-reads
use Rattle.ccnet_check.proofs.with_byte.Kinds as with_byte
use Rattle.ccnet_check.proofs.with_byte.Reads as with-byte-reads

pub check-of-tied : Tied check-of.ps check-of.r check-of-reads.Post (λ κs x e. x)
check-of-tied = tied check-of.ps check-of.r check-of-reads.Post (λ κs x e. x) _ (λ κs a x e p. p)

pub with-byte-tied : Tied with_byte.ps with_byte.r with-byte-reads.Post (λ κs x e. x)
with-byte-tied = tied with_byte.ps with_byte.r with-byte-reads.Post (λ κs x e. x) _ (λ κs a x e p. p)
