-- Why no wait may be used up. Here everything that comes, comes at once: no byte is lost, changed or late, every frame ends in no time, every answer of the
-- host is heard, and the host opens its second command while the device has read nothing. Only the first command lies on the line until the host has given it
-- up, and its 06h is then taken for the second's. Both ends come to rest, and disagree. So "each 06h and answer start comes within the waits of 01" is read of each that
-- is waited for: it does come. Proved in proofs/Straying.antt.
use Rattle.std.specs.Prelude.{ℕ, ◌<◌, ◌≡◌, List, [], ◌∷◌, ◌++◌}
use Rattle.ledger.specs.Calls.{IsDone}
use Rattle.exchange_rules.specs.Sums.{notes}
use Rattle.exchange_rules.specs.declared.line.Phase.{Phase}
use Rattle.exchange_rules.specs.declared.line.Phase.TheVariants.{Idle, First, Start, Inside}
use Rattle.dispenser_rules.specs.Session.{session_tick}
use Rattle.dispenser_rules.specs.Calls.{returned as host_returned}
use Rattle.pretend_rules.specs.Tally.{tally, tallies, fresh_tallies}
use Rattle.pretend_rules.specs.Bench.{Bench, fresh_bench, Move, asks, clears, tells, host-waits, device-waits, host-hears, device-hears, moved, run, Smooth, Free, shown, AtRest}
use Rattle.pretend_rules.specs.Worked.{lent, ten, times}

-- ---- the weaker reading: what comes, comes in time for the wait that then runs. Of what does not come nothing is asked

abbrev pub LaxInTime : Phase → ℕ → ℕ → Type 0
LaxInTime Idle left ms = Unit {0}
LaxInTime First left ms = Unit {0}
LaxInTime Start left ms = Unit {0}
LaxInTime Inside left ms = ms < left

-- all else is asked as ever
abbrev pub Lax : Bench → Move → Type 0
Lax b (asks code upper lower r) = Smooth b (asks code upper lower r)
Lax b clears = Smooth b clears
Lax b (tells answer r) = Smooth b (tells answer r)
Lax b (host-waits ms r) = IsDone (host_returned (session_tick b.host ms r).reply) → LaxInTime b.host.line.phase b.host.line.left ms
Lax b (device-waits ms r) = Smooth b (device-waits ms r)
Lax b (host-hears r) = Smooth b (host-hears r)
Lax b (device-hears r) = Smooth b (device-hears r)

unfoldable pub LaxRun : Bench → List Move → Type 0
LaxRun b [] = Unit {0}
LaxRun b (m ∷ ms) = (Lax b m × Free b m) × LaxRun (moved b m) ms

abbrev pub LaxAgreement : Type 0
LaxAgreement = (ms : List Move) → LaxRun fresh_bench ms → AtRest (run fresh_bench ms)
    → shown (run fresh_bench ms).host.account ≡ (run fresh_bench ms).device.tallies

-- ---- the run

-- an answer of 14 bytes arrives, and what the host says to it
abbrev pub answered : List Move
answered = times 14 (host-hears lent) ++ device-hears lent ∷ []

-- ten upper notes asked, and given up after 5,050 ms; 95,200 ms of quiet; ten lower notes asked. Now the first command arrives, is answered 06h, and paid
abbrev pub stray : List Move
stray =
    times 5 (host-waits 1_000 lent)
    ++ host-waits 200 lent
    ∷ asks 0x45 10 0 lent
    ∷ times 5 (host-waits 1_000 lent)
    ++ host-waits 50 lent
    ∷ times 95 (host-waits 1_000 lent)
    ++ host-waits 200 lent
    ∷ asks 0x55 0 10 lent
    ∷ times 8 (device-hears lent)
    ++ host-hears lent
    ∷ times 8 (device-hears lent)
    ++ tells ten lent
    ∷ answered
    ++ answered
    ++ answered

-- it meets the weaker reading; at rest, ten notes paid by the device, and none by the host's account
pub record Stray : Type 0 where
  pub lax : LaxRun fresh_bench stray
  pub rests : AtRest (run fresh_bench stray)
  pub host : shown (run fresh_bench stray).host.account ≡ fresh_tallies
  pub device : (run fresh_bench stray).device.tallies ≡ tallies (tally (notes 10) (notes 0)) (tally (notes 0) (notes 0))

-- so under the weaker reading the sentence is false
abbrev pub NotEnough : Type 0
NotEnough = LaxAgreement → ⊥
