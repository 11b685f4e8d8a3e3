-- A run on the bench, from the fresh ends to rest again: a payout from the upper cassette, one from both, short of the asking and over it, with rejects; the operator
-- clears the line; and a test. It shows that what `FairRun` asks can be met, again and again.
use Rattle.std.specs.Prelude.{ℕ, zero, suc, ◌≡◌, List, [], ◌∷◌, ◌++◌, replicate}
use Rattle.dispenser_frame_rules.specs.declared.answer.Cassette.TheVariants.{Upper, Lower}
use Rattle.dispenser_frame_rules.specs.declared.answer.Answer.{Answer}
use Rattle.dispenser_frame_rules.specs.declared.answer.Answer.TheVariants.{PaidOne, PaidBoth, Tested}
use Rattle.exchange_rules.specs.Sums.{notes}
use Rattle.pretend_rules.specs.Tally.{tally, tallies}
use Rattle.pretend_rules.specs.Bench.{fresh_bench, Move, asks, clears, tells, host-waits, device-waits, host-hears, device-hears, run, FairRun, AtRest}

-- a room of 21 bytes for every call
abbrev pub lent : List ℕ
lent = replicate 21 0

-- ten checked, ten out, no error, no rejects
abbrev pub ten : Answer
ten = PaidOne Upper 10 10 0x30 0x30 0

-- of 15 and 15 asked, 14 and 16 out, 2 and 3 rejected
abbrev pub both : Answer
both = PaidBoth 15 14 16 16 0x30 0x30 0x31 2 3

-- a test that rejects 4
abbrev pub tried : Answer
tried = Tested Lower 1 0x31 0x30 4

abbrev pub times : ℕ → Move → List Move
times zero m = []
times (suc n) m = m ∷ times n m

-- 5,200 ms of quiet at the host
abbrev pub quiet : List Move
quiet = times 5 (host-waits 1_000 lent) ++ host-waits 200 lent ∷ []

-- a command of n and 4 bytes crosses and its 06h comes back; the device is told; the answer of m and 7 bytes crosses, and the host's 06h; in each wait some time passes
abbrev pub exchange : ℕ → ℕ → Answer → List Move
exchange n m answer =
    host-waits 1_000 lent
    ∷ times n (device-hears lent)
    ++ device-waits 199 lent
    ∷ times 4 (device-hears lent)
    ++ host-hears lent
    ∷ device-waits 1_000 lent
    ∷ host-waits 1_000 lent
    ∷ tells answer lent
    ∷ device-waits 1_000 lent
    ∷ times m (host-hears lent)
    ++ host-waits 199 lent
    ∷ times 7 (host-hears lent)
    ++ device-hears lent
    ∷ []

abbrev pub worked : List Move
worked =
    quiet
    ++ asks 0x45 10 0 lent
    ∷ exchange 4 7 ten
    ++ quiet
    ++ asks 0x56 15 15 lent
    ∷ exchange 6 14 both
    ++ quiet
    ++ clears
    ∷ asks 0x77 0 0 lent
    ∷ exchange 2 7 tried

-- it meets every premise, it ends at rest, and this was paid and rejected
pub record Worked : Type 0 where
  pub fair : FairRun fresh_bench worked
  pub rests : AtRest (run fresh_bench worked)
  pub paid : (run fresh_bench worked).device.tallies ≡ tallies (tally (notes 24) (notes 2)) (tally (notes 16) (notes 7))
