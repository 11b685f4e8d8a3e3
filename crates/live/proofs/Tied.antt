-- No contract of this crate leaves a choice: two outcomes that it allows for the same arguments coincide, in the result and in every byte of a lent room. Said of the contracts themselves, since
-- each is one equation. Assumes nothing.
use Rattle.refusals.proofs.Tied.{Tied, tied}
use Rattle.live_rules.specs.Live.{Living, lived}
use Rattle.live_rules.specs.Entering.{Entering, entered}
use Rattle.live.proofs.desk.step.Kinds as step
use Rattle.live.proofs.desk.step.Reads as step-reads
use Rattle.live.proofs.entry.enter.Kinds as enter
use Rattle.live.proofs.entry.enter.Reads as enter-reads
use Rattle.live.proofs.entry.whole_bytes.Kinds as whole-bytes
use Rattle.live.proofs.entry.whole_bytes.Reads as whole-bytes-reads

pub step-tied : Tied step.ps step.r step-reads.Post {A = Living} (λ κs x e. lived x e.1.1.0.now e.1.1.1.0.now)
step-tied = tied step.ps step.r step-reads.Post {A = Living} (λ κs x e. lived x e.1.1.0.now e.1.1.1.0.now) _ (λ κs a x e p. p)

pub enter-tied : Tied enter.ps enter.r enter-reads.Post {A = Entering} (λ κs x e. entered x e.1.1.1.0.now e.1.1.1.1.0.now e.1.1.1.1.1.0.now)
enter-tied =
    tied enter.ps enter.r enter-reads.Post {A = Entering} (λ κs x e. entered x e.1.1.1.0.now e.1.1.1.1.0.now e.1.1.1.1.1.0.now) _ (λ κs a x e p. p)

pub whole-bytes-tied : Tied whole-bytes.ps whole-bytes.r whole-bytes-reads.Post (λ κs x e. x)
whole-bytes-tied = tied whole-bytes.ps whole-bytes.r whole-bytes-reads.Post (λ κs x e. x) _ (λ κs a x e p. p)
