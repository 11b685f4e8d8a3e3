-- The agreement of both ends, told from the calls alone: what the host's history gives as paid and rejected (demand 3) is what the device's caller said (02, Q-14; 01,
-- "What the proofs must leave no choice about"). Nobody's stored account is read. Proved in proofs/Both.antt.
use Rattle.std.specs.Prelude.{ℕ, ◌≡◌, List, [], ◌∷◌}
use Rattle.ledger.specs.Account.{sums}
use Rattle.dispenser_frame_rules.specs.declared.answer.Answer.{Answer}
use Rattle.dispenser_frame_rules.specs.declared.answer.Cassette.{Cassette}
use Rattle.dispenser_rules.specs.Calls as host
use Rattle.dispenser_rules.specs.Unit.{model2000_t}
use Rattle.pretend_rules.specs.Calls as device
use Rattle.pretend_rules.specs.History.{tellings, paid_by, rejected_by, total}
use Rattle.pretend_rules.specs.Bench.{Bench, fresh_bench, Move, asks, clears, tells, host-waits, device-waits, host-hears, device-hears, moved, run, FairRun, AtRest}

-- the call with a byte that arrives, before others; none where nothing was on its way
abbrev pub host_hears : List ℕ → List ℕ → List host.Call → List host.Call
host_hears [] r cs = cs
host_hears (x ∷ rest) r cs = host.byte x r ∷ cs

abbrev pub device_hears : List ℕ → List ℕ → List device.Call → List device.Call
device_hears [] r cs = cs
device_hears (x ∷ rest) r cs = device.byte x r ∷ cs

-- the call that a move makes on an end, before others
abbrev pub host_call : Bench → Move → List host.Call → List host.Call
host_call b (asks code upper lower r) cs = host.request code upper lower r ∷ cs
host_call b clears cs = host.clear ∷ cs
host_call b (tells a r) cs = cs
host_call b (host-waits ms r) cs = host.tick ms r ∷ cs
host_call b (device-waits ms r) cs = cs
host_call b (host-hears r) cs = host_hears b.to_host r cs
host_call b (device-hears r) cs = cs

abbrev pub device_call : Bench → Move → List device.Call → List device.Call
device_call b (asks code upper lower r) cs = cs
device_call b clears cs = cs
device_call b (tells a r) cs = device.tell a r ∷ cs
device_call b (host-waits ms r) cs = cs
device_call b (device-waits ms r) cs = device.tick ms r ∷ cs
device_call b (host-hears r) cs = cs
device_call b (device-hears r) cs = device_hears b.to_device r cs

-- the calls that a run makes on each end
unfoldable pub host_calls : Bench → List Move → List host.Call
host_calls b [] = []
host_calls b (m ∷ ms) = host_call b m (host_calls (moved b m) ms)

unfoldable pub device_calls : Bench → List Move → List device.Call
device_calls b [] = []
device_calls b (m ∷ ms) = device_call b m (device_calls (moved b m) ms)

-- the answers that the device's caller told in a run
abbrev pub told_in : List Move → List Answer
told_in ms = tellings (device.history (device_calls fresh_bench ms))

-- whenever nothing is open on either side
pub record HistoriesAgree (ms : List Move) (c : Cassette) : Type 0 where
  pub paid : (sums model2000_t (host.history (host_calls fresh_bench ms)) c).paid ≡ total paid_by (told_in ms) c
  pub rejected : (sums model2000_t (host.history (host_calls fresh_bench ms)) c).rejected ≡ total rejected_by (told_in ms) c

abbrev pub AgreementOfHistories : Type 0
AgreementOfHistories = (ms : List Move) → FairRun fresh_bench ms → AtRest (run fresh_bench ms) → (c : Cassette) → HistoriesAgree ms c
