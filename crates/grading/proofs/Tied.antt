-- No contract of this crate leaves a choice: two outcomes that it allows for the same arguments coincide. Said of the contracts themselves, since each is
-- one equation. Assumes nothing.
use Rattle.refusals.proofs.Tied.{Tied, tied}
use Rattle.grading.proofs.desk.feed.Kinds as feed
use Rattle.grading.proofs.desk.feed.Reads as feed-reads
use Rattle.grading.proofs.desk.ended.Kinds as ended
use Rattle.grading.proofs.desk.ended.Reads as ended-reads
use Rattle.grading.proofs.desk.replay.Kinds as replay
use Rattle.grading.proofs.desk.replay.Reads as replay-reads

pub feed-tied : Tied feed.ps feed.r feed-reads.Post (λ κs x e. x)
feed-tied = tied feed.ps feed.r feed-reads.Post (λ κs x e. x) _ (λ κs a x e p. p)

pub ended-tied : Tied ended.ps ended.r ended-reads.Post (λ κs x e. x)
ended-tied = tied ended.ps ended.r ended-reads.Post (λ κs x e. x) _ (λ κs a x e p. p)

pub replay-tied : Tied replay.ps replay.r replay-reads.Post (λ κs x e. x)
replay-tied = tied replay.ps replay.r replay-reads.Post (λ κs x e. x) _ (λ κs a x e p. p)
