-- The steps that the history speaks of are those of the contracts: the clause of each public call is, as it stands, the equation with the
-- step that `called` makes, and that of `Session::fresh` the equation with the session that histories start from. Assumes nothing.
use Prim.Native.Nat.{ℕ, ◌<◌}
use mathlib.Core.Path.{◌≡◌, refl}
use mathlib.Core.List.{List}
use Rattle.refusals.proofs.Tied.{Is}
use Rattle.validator_rules.specs.Bills.{booked_by}
use Rattle.validator_rules.specs.Session.{step_after, lent_after, heard_after, after, request_step, byte_step, tick_step, fresh_session, session_byte}
use Rattle.validator_rules.specs.Calls.{request, byte, tick, called}
use Rattle.validator_rules.specs.declared.session.Session.{Session}
use Rattle.validator_rules.proofs.session.Session.fresh.Kinds as fresh-kinds
use Rattle.validator_rules.proofs.session.Session.fresh.Reads as fresh-reads
use Rattle.validator.proofs.session.request.Kinds as request-kinds
use Rattle.validator.proofs.session.request.Reads as request-reads
use Rattle.validator.proofs.session.byte.Kinds as byte-kinds
use Rattle.validator.proofs.session.byte.Reads as byte-Reads
use Rattle.validator.proofs.session.tick.Kinds as tick-kinds
use Rattle.validator.proofs.session.tick.Reads as tick-reads
use Rattle.validator.proofs.session.step_request.Kinds as step-request-kinds
use Rattle.validator.proofs.session.step_request.Reads as step-request-reads
use Rattle.validator.proofs.session.step_byte.Kinds as step-byte-kinds
use Rattle.validator.proofs.session.step_byte.Reads as step-byte-reads
use Rattle.validator.proofs.session.step_tick.Kinds as step-tick-kinds
use Rattle.validator.proofs.session.step_tick.Reads as step-tick-reads
use Rattle.validator.proofs.bills.booked.Kinds as booked-kinds
use Rattle.validator.proofs.bills.booked.Reads as booked-reads

-- ---- the calls by value, and the session that they start from

fresh-cited : Is fresh-kinds.ps fresh-kinds.r fresh-reads.Post
    (λ κs a x e. x ≡ fresh_session)
fresh-cited κs a x e = refl

request-cited : Is request-kinds.ps request-kinds.r request-reads.Post
    (λ κs a x e. after x e.1.1.1.0.now ≡ called a.0 (request a.1.0 a.1.1.0.now a.1.1.1.0.now))
request-cited κs a x e = refl

byte-cited : Is byte-kinds.ps byte-kinds.r byte-Reads.Post
    (λ κs a x e. after x e.1.1.0.now ≡ session_byte a.0 a.1.0 a.1.1.0.now)
byte-cited κs a x e = refl

-- a byte is under 256, which its type says
byte-called : (s : Session) (b : ℕ) (small : b < 256) (r : List ℕ) → called s (byte b small r) ≡ session_byte s b r
byte-called s b small r = refl

tick-cited : Is tick-kinds.ps tick-kinds.r tick-reads.Post
    (λ κs a x e. after x e.1.1.0.now ≡ called a.0 (tick a.1.0 a.1.1.0.now))
tick-cited κs a x e = refl

-- ---- the lent steps and the booking, of which `called` is made

step-request-cited : Is step-request-kinds.ps step-request-kinds.r step-request-reads.Post
    (λ κs a x e. step_after x e.1.1.1.0.now ≡ request_step a.0 a.1.0 a.1.1.0.now a.1.1.1.0.now)
step-request-cited κs a x e = refl

step-byte-cited : Is step-byte-kinds.ps step-byte-kinds.r step-byte-reads.Post
    (λ κs a x e. heard_after (lent_after x e.1.0.now e.1.1.1.1.0.now) e.1.1.0.now ≡ byte_step a.0 a.1.0.now a.1.1.0.now a.1.1.1.0 a.1.1.1.1.0.now)
step-byte-cited κs a x e = refl

step-tick-cited : Is step-tick-kinds.ps step-tick-kinds.r step-tick-reads.Post
    (λ κs a x e. lent_after x e.1.0.now e.1.1.1.0.now ≡ tick_step a.0 a.1.0.now a.1.1.0 a.1.1.1.0.now)
step-tick-cited κs a x e = refl

booked-cited : Is booked-kinds.ps booked-kinds.r booked-reads.Post
    (λ κs a x e. x ≡ booked_by a.0 a.1.0)
booked-cited κs a x e = refl
