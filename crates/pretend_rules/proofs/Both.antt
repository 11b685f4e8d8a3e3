-- The agreement, told from the calls alone: demand 3 of the host, the device's own account, and the agreement of the two accounts. Assumes nothing.
use Prim.Native.Nat.{ℕ}
use mathlib.Core.Path.{◌≡◌, refl, sym, ap, ◌∙◌}
use mathlib.Core.List.{List, [], ◌∷◌}
use Rattle.ledger.specs.Calls.{run as run_calls}
use Rattle.exchange_rules.specs.Machine.{plain}
use Rattle.dispenser_frame_rules.specs.declared.answer.Cassette.{Cassette}
use Rattle.dispenser_frame_rules.specs.declared.answer.Cassette.TheVariants.{Upper, Lower}
use Rattle.dispenser_rules.specs.Calls as host
use Rattle.dispenser_rules.specs.Unit.{cassette as host_cassette}
use Rattle.dispenser_rules.specs.declared.account.Account.{Account}
use Rattle.dispenser_rules.specs.declared.session.Session.{Session}
use Rattle.dispenser_rules.proofs.Demand3.{demand3}
use Rattle.pretend_rules.specs.Calls as device
use Rattle.pretend_rules.specs.History.{cassette}
use Rattle.pretend_rules.specs.Bench.{Bench, fresh_bench, Move, asks, clears, tells, host-waits, device-waits, host-hears, device-hears, host_heard, device_heard, moved, run, shown}
use Rattle.pretend_rules.specs.Histories.{host_hears, device_hears, host_call, device_call, host_calls, device_calls, AgreementOfHistories}
use Rattle.pretend_rules.specs.declared.tally.Tallies.{Tallies}
use Rattle.pretend_rules.specs.declared.device.Device.{Device}
use Rattle.pretend_rules.proofs.Agreement.{agreement}
use Rattle.pretend_rules.proofs.Account.{own-account}

-- ---- the calls of a run lead each end where the run does

host-one : (b : Bench) (m : Move) (cs : List host.Call) → run_calls host.host b.host (host_call b m cs) ≡ run_calls host.host (moved b m).host cs
unfolding run_calls
host-one b (asks code upper lower r) cs = refl
host-one b clears cs = refl
host-one b (tells a r) cs = refl
host-one b (host-waits ms r) cs = refl
host-one b (device-waits ms r) cs = refl
host-one b (host-hears r) cs = by b.to_host
  where
    by : (l : List ℕ) → run_calls host.host b.host (host_hears l r cs) ≡ run_calls host.host (host_heard b l r).host cs
    by [] = refl
    by (x ∷ rest) = refl
host-one b (device-hears r) cs = by b.to_device
  where
    by : (l : List ℕ) → run_calls host.host b.host cs ≡ run_calls host.host (device_heard b l r).host cs
    by [] = refl
    by (x ∷ rest) = refl

host-runs : (b : Bench) (ms : List Move) → run_calls host.host b.host (host_calls b ms) ≡ (run b ms).host
unfolding run_calls host_calls run
host-runs b [] = refl
host-runs b (m ∷ ms) = host-one b m (host_calls (moved b m) ms) ∙ host-runs (moved b m) ms

device-one : (b : Bench) (m : Move) (cs : List device.Call) → run_calls device.host b.device (device_call b m cs) ≡ run_calls device.host (moved b m).device cs
unfolding run_calls
device-one b (asks code upper lower r) cs = refl
device-one b clears cs = refl
device-one b (tells a r) cs = refl
device-one b (host-waits ms r) cs = refl
device-one b (device-waits ms r) cs = refl
device-one b (host-hears r) cs = by b.to_host
  where
    by : (l : List ℕ) → run_calls device.host b.device cs ≡ run_calls device.host (host_heard b l r).device cs
    by [] = refl
    by (x ∷ rest) = refl
device-one b (device-hears r) cs = by b.to_device
  where
    by : (l : List ℕ) → run_calls device.host b.device (device_hears l r cs) ≡ run_calls device.host (device_heard b l r).device cs
    by [] = refl
    by (x ∷ rest) = refl

device-runs : (b : Bench) (ms : List Move) → run_calls device.host b.device (device_calls b ms) ≡ (run b ms).device
unfolding run_calls device_calls run
device-runs b [] = refl
device-runs b (m ∷ ms) = device-one b m (device_calls (moved b m) ms) ∙ device-runs (moved b m) ms

-- ---- one cassette of what the host's account shows

paid-shown : (a : Account) (c : Cassette) → (plain (host_cassette a c)).paid ≡ (cassette (shown a) c).paid.0
paid-shown a Upper = refl
paid-shown a Lower = refl

rejected-shown : (a : Account) (c : Cassette) → (plain (host_cassette a c)).rejected ≡ (cassette (shown a) c).rejected.0
rejected-shown a Upper = refl
rejected-shown a Lower = refl

pub agreement-of-histories : AgreementOfHistories
agreement-of-histories ms f z c =
    let cs = host_calls fresh_bench ms in
    let ds = device_calls fresh_bench ms in
    let account : (run_calls host.host fresh_bench.host cs).account ≡ (run fresh_bench ms).host.account = ap (λ (s : Session). s.account) (host-runs fresh_bench ms) in
    let same : shown (run_calls host.host fresh_bench.host cs).account ≡ (run_calls device.host fresh_bench.device ds).tallies =
    ap shown account ∙ agreement ms f z ∙ ap (λ (d : Device). d.tallies) (sym (device-runs fresh_bench ms)) in
    record {
      paid = sym (ap (λ t. t.paid) (demand3.account cs c)) ∙ paid-shown (run_calls host.host fresh_bench.host cs).account c
          ∙ ap (λ (t : Tallies). (cassette t c).paid.0) same ∙ own-account.paid ds c;
      rejected = sym (ap (λ t. t.rejected) (demand3.account cs c)) ∙ rejected-shown (run_calls host.host fresh_bench.host cs).account c
          ∙ ap (λ (t : Tallies). (cassette t c).rejected.0) same ∙ own-account.rejected ds c;
    }
