-- Both ends agree: the invariant holds of the fresh bench and is kept by every fair move. Assumes nothing.
use Prim.Native.Nat.{ℕ, ◌≤◌}
use mathlib.Core.Path.{◌≡◌, refl, ◌∙◌}
use mathlib.Core.Bool.{false, true≢false}
use mathlib.Core.List.{List, [], ◌∷◌}
use native.Mathlib.Omega.{arith}
use lib.ListN.{length, length-replicate}
use Rattle.refusals.specs.Rules.{under, at_most}
use Rattle.refusals.proofs.Rules.{certain}
use Rattle.ledger.specs.Calls.{IsDone, seen}
use Rattle.exchange_rules.specs.Exchange.{is_open}
use Rattle.exchange_rules.specs.declared.line.Phase.{Phase}
use Rattle.exchange_rules.specs.declared.line.Phase.TheVariants.{Idle, First, Start, Inside}
use Rattle.exchange_rules.proofs.Demand3.{Kept, next-kept}
use Rattle.dispenser_rules.specs.Session.{byte_refusals as host_refusals, fresh_session, session_byte}
use Rattle.dispenser_rules.specs.Calls.{Call, request, byte, tick, clear, called, host, returned as host_returned}
use Rattle.dispenser_rules.specs.declared.session.Session.{Session}
use Rattle.dispenser_rules.proofs.Shown.{lawful}
use Rattle.dispenser_rules.proofs.Same.{session}
use Rattle.dispenser_rules.proofs.Exact.{exactly-when}
use Rattle.dispenser_rules.proofs.Demand3.{fresh_kept}
use Rattle.pretend_rules.specs.Wire.{is_busy}
use Rattle.pretend_rules.specs.Device.{byte_refusals as device_refusals, fresh_device, device_byte, device_tick, device_tell}
use Rattle.pretend_rules.specs.Calls.{returned}
use Rattle.pretend_rules.specs.Bench.{Bench, fresh_bench, Move, asks, clears, tells, host-waits, device-waits, host-hears, device-hears, host_heard, device_heard, moved, run, HostTakes, DeviceTakes, Smooth, FairRun, SmoothRun, Agreement, AgreementAnyway}
use Rattle.pretend_rules.specs.declared.wire.Stand.{Stand}
use Rattle.pretend_rules.specs.declared.wire.Stand.TheVariants.{Idle as Resting, Reading, Awaiting, Sent}
use Rattle.pretend_rules.specs.declared.device.Device.{Device}
use Rattle.pretend_rules.proofs.Exact as device
use Rattle.pretend_rules.proofs.Together.{View, view, Joint, Together}
use Rattle.pretend_rules.proofs.HostMoves.{host-waits-joint, asks-joint, clears-joint, host-hears-joint}
use Rattle.pretend_rules.proofs.DeviceMoves.{device-waits-joint, tells-joint, device-hears-joint, store_kept}

-- ---- a byte that is taken was lent a room that is long enough

host-room : (s : Session) (x : ℕ) (r : List ℕ) → IsDone (host_returned (session_byte s x r).reply) → 16 ≤ length r
unfolding host_refusals
host-room s x r h = certain (at_most 16 (length r)) (λ n. ((exactly-when.byte s x r).done.0 h).0 (omega (arith, certain (under (length r) 16) (λ m. n (omega (arith, m))))))

device-room : (d : Device) (x : ℕ) (r : List ℕ) → IsDone (returned (device_byte d x r).reply) → 21 ≤ length r
unfolding device_refusals
device-room d x r h = certain (at_most 21 (length r)) (λ n. (((device.exactly-when).byte d x r).done.0 h).0 (omega (arith, certain (under (length r) 21) (λ m. n (omega (arith, m))))))

-- ---- each move

-- a call on the host leaves it as calls lead it from a fresh one
next : (b : Bench) (k : Together b) (c : Call) → Kept lawful session (called b.host c).session (seen host b.host c ∷ k.trail)
next b k c = next-kept lawful session b.host k.trail c k.kept

host-heard-together : (b : Bench) (l r : List ℕ) → b.to_host ≡ l → HostTakes b.host l r → Together b → Together (host_heard b l r)
host-heard-together b [] r e f k = k
host-heard-together b (x ∷ rest) r e f k =
    record {
      trail = seen host b.host (byte x r) ∷ k.trail;
      kept = next b k (byte x r);
      store = k.store;
      joint = host-hears-joint b k x rest r e (host-room b.host x r f);
    }

device-heard-together : (b : Bench) (l r : List ℕ) → b.to_device ≡ l → DeviceTakes b.device l r → Together b → Together (device_heard b l r)
device-heard-together b [] r e f k = k
device-heard-together b (x ∷ rest) r e f k =
    record {
      trail = k.trail;
      kept = k.kept;
      store = store_kept b.device x r ∙ k.store;
      joint = device-hears-joint b k x rest r e (device-room b.device x r f);
    }

pub moved-together : (b : Bench) (m : Move) → Smooth b m → Together b → Together (moved b m)
unfolding device_tick device_tell
moved-together b (asks code upper lower r) f k =
    record {
      trail = seen host b.host (request code upper lower r) ∷ k.trail;
      kept = next b k (request code upper lower r);
      store = k.store;
      joint = asks-joint b k.joint code upper lower r;
    }
moved-together b clears f k =
    record { trail = seen host b.host clear ∷ k.trail; kept = next b k clear; store = k.store; joint = clears-joint b k.joint }
moved-together b (tells a r) f k = record { trail = k.trail; kept = k.kept; store = k.store; joint = tells-joint b k.joint a r }
moved-together b (host-waits ms r) f k =
    record {
      trail = seen host b.host (tick ms r) ∷ k.trail;
      kept = next b k (tick ms r);
      store = k.store;
      joint = host-waits-joint b k.joint ms r f;
    }
moved-together b (device-waits ms r) f k = record { trail = k.trail; kept = k.kept; store = k.store; joint = device-waits-joint b k.joint ms r f }
moved-together b (host-hears r) f k = host-heard-together b b.to_host r refl f k
moved-together b (device-hears r) f k = device-heard-together b b.to_device r refl f k

-- ---- any run

pub run-together : (b : Bench) (ms : List Move) → SmoothRun b ms → Together b → Together (run b ms)
unfolding run SmoothRun
run-together b [] f k = k
run-together b (m ∷ ms) f k = run-together (moved b m) ms f.1 (moved-together b m f.0 k)

fresh-together : Together fresh_bench
unfolding fresh_session fresh_device
fresh-together =
    record {
      trail = [];
      kept = fresh_kept;
      store = length-replicate {A = ℕ} 10 0;
      joint = (record { agree = refl; even = refl; below = refl; above = refl }, refl);
    }

-- where nothing is open on either side, the accounts agree
at_rest : (p : Phase) (q : Stand) (v : View) → Joint p q v → is_open p ≡ false → is_busy q ≡ false → v.booked ≡ v.tallied
at_rest Idle Resting v j g h = j.0.agree
at_rest Idle Reading v j g h = absurd (true≢false h)
at_rest Idle Awaiting v j g h = absurd (true≢false h)
at_rest Idle Sent v j g h = absurd (true≢false h)
at_rest First q v j g h = absurd (true≢false g)
at_rest Start q v j g h = absurd (true≢false g)
at_rest Inside q v j g h = absurd (true≢false g)

pub agreement-anyway : AgreementAnyway
agreement-anyway ms f z =
    let b = run fresh_bench ms in
    at_rest b.host.line.phase b.device.wire.stand (view b) (run-together fresh_bench ms f fresh-together).joint z.host z.device

-- a run that meets every premise meets all but the last
fair-smooth : (b : Bench) (ms : List Move) → FairRun b ms → SmoothRun b ms
unfolding FairRun SmoothRun
fair-smooth b [] f = tt
fair-smooth b (m ∷ ms) f = (f.0.0, fair-smooth (moved b m) ms f.1)

pub agreement : Agreement
agreement ms f z = agreement-anyway ms (fair-smooth fresh_bench ms f) z
