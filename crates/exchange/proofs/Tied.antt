-- No contract of this crate leaves a choice: two outcomes that it allows for the same arguments coincide. Assumes nothing.
use Prim.Native.Nat.{ℕ}
use mathlib.Core.Path.{ap₂}
use mathlib.Core.List.{List}
use denote.RattleType.{RattleType}
use denote.Param.Laws.{Laws}
use Rattle.refusals.proofs.Tied.{Tied, tied}
use Rattle.exchange.proofs.line.is_open.Kinds as is_open
use Rattle.exchange.proofs.line.is_open.Reads as is-open-reads
use Rattle.exchange.proofs.line.opened.Kinds as opened
use Rattle.exchange.proofs.line.opened.Reads as opened-reads
use Rattle.exchange.proofs.line.closed.Kinds as closed
use Rattle.exchange.proofs.line.closed.Reads as closed-reads
use Rattle.exchange.proofs.line.doubted.Kinds as doubted
use Rattle.exchange.proofs.line.doubted.Reads as doubted-reads
use Rattle.exchange.proofs.line.in_doubt.Kinds as in_doubt
use Rattle.exchange.proofs.line.in_doubt.Reads as in-doubt-reads
use Rattle.exchange.proofs.line.settled.Kinds as settled
use Rattle.exchange.proofs.line.settled.Reads as settled-reads
use Rattle.exchange.proofs.line.bad.Kinds as bad
use Rattle.exchange.proofs.line.bad.Reads as bad-reads
use Rattle.exchange.proofs.line.heard.Kinds as heard
use Rattle.exchange.proofs.line.heard.Reads as heard-reads
use Rattle.exchange.proofs.line.passed.Kinds as passed
use Rattle.exchange.proofs.line.passed.Reads as Passed-reads
use Rattle.exchange.proofs.sums.plus.Kinds as sums-plus
use Rattle.exchange.proofs.sums.plus.Reads as sums-plus-reads
use Rattle.exchange.proofs.sums.opened.Kinds as sums-opened
use Rattle.exchange.proofs.sums.opened.Reads as sums-opened-reads
use Rattle.exchange.proofs.sums.answered.Kinds as sums-answered
use Rattle.exchange.proofs.sums.answered.Reads as sums-answered-reads
use Rattle.exchange.proofs.sums.closed_refused.Kinds as sums-closed-refused
use Rattle.exchange.proofs.sums.closed_refused.Reads as sums-closed-refused-reads
use Rattle.exchange.proofs.sums.closed_unknown.Kinds as sums-closed-unknown
use Rattle.exchange.proofs.sums.closed_unknown.Reads as sums-closed-unknown-reads
use Rattle.exchange.proofs.sums.rejected.Kinds as sums-rejected
use Rattle.exchange.proofs.sums.rejected.Reads as sums-rejected-reads
use Rattle.exchange.proofs.step.done.Kinds as done
use Rattle.exchange.proofs.step.done.Reads as done-reads
use Rattle.exchange.proofs.step.not_done.Kinds as not-done
use Rattle.exchange.proofs.step.not_done.Reads as not-done-reads
use Rattle.exchange.proofs.step.keep.Kinds as keep
use Rattle.exchange.proofs.step.keep.Reads as keep-reads
use Rattle.exchange.proofs.step.send.Kinds as send
use Rattle.exchange.proofs.step.send.Reads as send-reads
use Rattle.exchange.proofs.step.gathered.Kinds as gathered
use Rattle.exchange.proofs.step.gathered.Reads as gathered-reads

pub is-open-tied : Tied is_open.ps is_open.r is-open-reads.Post (λ κs x e. x)
is-open-tied =
    tied is_open.ps is_open.r is-open-reads.Post (λ κs x e. x) _
    (λ κs a x e p. p)

pub opened-tied : Tied opened.ps opened.r opened-reads.Post (λ κs x e. x)
opened-tied =
    tied opened.ps opened.r opened-reads.Post (λ κs x e. x) _
    (λ κs a x e p. p)

pub closed-tied : Tied closed.ps closed.r closed-reads.Post (λ κs x e. x)
closed-tied =
    tied closed.ps closed.r closed-reads.Post (λ κs x e. x) _
    (λ κs a x e p. p)

pub doubted-tied : Tied doubted.ps doubted.r doubted-reads.Post (λ κs x e. x)
doubted-tied =
    tied doubted.ps doubted.r doubted-reads.Post (λ κs x e. x) _
    (λ κs a x e p. p)

pub in-doubt-tied : Tied in_doubt.ps in_doubt.r in-doubt-reads.Post (λ κs x e. x)
in-doubt-tied =
    tied in_doubt.ps in_doubt.r in-doubt-reads.Post (λ κs x e. x) _
    (λ κs a x e p. p)

pub settled-tied : Tied settled.ps settled.r settled-reads.Post (λ κs x e. x)
settled-tied =
    tied settled.ps settled.r settled-reads.Post (λ κs x e. x) _
    (λ κs a x e p. p.0)

pub bad-tied : Tied bad.ps bad.r bad-reads.Post (λ κs x e. x)
bad-tied =
    tied bad.ps bad.r bad-reads.Post (λ κs x e. x) _
    (λ κs a x e p. p)

pub heard-tied : Tied heard.ps heard.r heard-reads.Post (λ κs x e. x)
heard-tied =
    tied heard.ps heard.r heard-reads.Post (λ κs x e. x) _
    (λ κs a x e p. p)

pub passed-tied : Tied passed.ps passed.r Passed-reads.Post (λ κs x e. x)
passed-tied =
    tied passed.ps passed.r Passed-reads.Post (λ κs x e. x) _
    (λ κs a x e p. p)

pub sums-plus-tied : Tied sums-plus.ps sums-plus.r sums-plus-reads.Post (λ κs x e. x)
sums-plus-tied =
    tied sums-plus.ps sums-plus.r sums-plus-reads.Post (λ κs x e. x) _
    (λ κs a x e p. p)

pub sums-opened-tied : Tied sums-opened.ps sums-opened.r sums-opened-reads.Post (λ κs x e. x)
sums-opened-tied =
    tied sums-opened.ps sums-opened.r sums-opened-reads.Post (λ κs x e. x) _
    (λ κs a x e p. p)

pub sums-answered-tied : Tied sums-answered.ps sums-answered.r sums-answered-reads.Post (λ κs x e. x)
sums-answered-tied =
    tied sums-answered.ps sums-answered.r sums-answered-reads.Post (λ κs x e. x) _
    (λ κs a x e p. p)

pub sums-closed-refused-tied : Tied sums-closed-refused.ps sums-closed-refused.r sums-closed-refused-reads.Post (λ κs x e. x)
sums-closed-refused-tied =
    tied sums-closed-refused.ps sums-closed-refused.r sums-closed-refused-reads.Post (λ κs x e. x) _
    (λ κs a x e p. p)

pub sums-closed-unknown-tied : Tied sums-closed-unknown.ps sums-closed-unknown.r sums-closed-unknown-reads.Post (λ κs x e. x)
sums-closed-unknown-tied =
    tied sums-closed-unknown.ps sums-closed-unknown.r sums-closed-unknown-reads.Post (λ κs x e. x) _
    (λ κs a x e p. p)

pub sums-rejected-tied : Tied sums-rejected.ps sums-rejected.r sums-rejected-reads.Post (λ κs x e. x)
sums-rejected-tied =
    tied sums-rejected.ps sums-rejected.r sums-rejected-reads.Post (λ κs x e. x) _
    (λ κs a x e p. p)

pub keep-tied : Tied keep.ps keep.r keep-reads.Post (λ κs x e. e.0.now)
keep-tied = tied keep.ps keep.r keep-reads.Post (λ κs x e. e.0.now) _ (λ κs a x e p. p)

pub send-tied : Tied send.ps send.r send-reads.Post (λ κs x e. e.0.now)
send-tied = tied send.ps send.r send-reads.Post (λ κs x e. e.0.now) _ (λ κs a x e p. p)

pub gathered-tied : Tied gathered.ps gathered.r gathered-reads.Post {A = (ℕ × ℕ) × List ℕ} (λ κs x e. (x.ref_ptr, x.now))
gathered-tied =
    tied gathered.ps gathered.r gathered-reads.Post {A = (ℕ × ℕ) × List ℕ} (λ κs x e. (x.ref_ptr, x.now)) _
    (λ κs a x e p. ap₂ (λ (place : ℕ × ℕ) (bytes : List ℕ). (place, bytes)) p.1 p.0)

-- whatever the closing's type
pub done-tied : (t : RattleType) (l : Laws t) → Tied (done.ps t l) (done.r t l) (done-reads.Post t l) (λ κs x e. x)
done-tied t l = tied (done.ps t l) (done.r t l) (done-reads.Post t l) (λ κs x e. x) _ (λ κs a x e p. p)

pub not-done-tied : (t : RattleType) (l : Laws t) → Tied (not-done.ps t l) (not-done.r t l) (not-done-reads.Post t l) (λ κs x e. x)
not-done-tied t l = tied (not-done.ps t l) (not-done.r t l) (not-done-reads.Post t l) (λ κs x e. x) _ (λ κs a x e p. p)
