-- Both ends of the line together: the host's session, the pretend dispenser, and the bytes on their way between them (02, Q-14, its last sentence).
use Rattle.std.specs.Prelude.{ℕ, ◌<◌, ◌≡◌, false, List, [], ◌∷◌, ◌++◌, take}
use Rattle.ledger.specs.Calls.{Returned, gave, did, IsDone}
use Rattle.dispenser_frame_rules.specs.declared.answer.Answer.{Answer}
use Rattle.exchange_rules.specs.Exchange.{is_open}
use Rattle.exchange_rules.specs.declared.notes.Sums.{Sums}
use Rattle.exchange_rules.specs.declared.line.Phase.{Phase}
use Rattle.exchange_rules.specs.declared.line.Phase.TheVariants.{Idle, First, Start, Inside}
use Rattle.dispenser_rules.specs.Session.{After as HostAfter, fresh_session, session_request, session_byte, session_tick, session_clear}
use Rattle.dispenser_rules.specs.Calls.{returned as host_returned}
use Rattle.dispenser_rules.specs.declared.account.Account.{Account}
use Rattle.dispenser_rules.specs.declared.session.Session.{Session}
use Rattle.pretend_rules.specs.Wire.{is_busy}
use Rattle.pretend_rules.specs.Tally.{tally, tallies}
use Rattle.pretend_rules.specs.Device.{After, fresh_device, device_byte, device_tick, device_tell}
use Rattle.pretend_rules.specs.Calls.{returned}
use Rattle.pretend_rules.specs.declared.wire.Stand.{Stand}
use Rattle.pretend_rules.specs.declared.wire.Stand.TheVariants.{Idle as Resting, Reading, Awaiting, Sent}
use Rattle.pretend_rules.specs.declared.tally.Tally.{Tally}
use Rattle.pretend_rules.specs.declared.tally.Tallies.{Tallies}
use Rattle.pretend_rules.specs.declared.device.Device.{Device}

-- ---- the bench, and what can happen on it

-- the two ends, and the bytes on their way to each, those that arrive first in front
pub record Bench : Type 0 where
  pub host : Session
  pub device : Device
  pub to_device : List ℕ
  pub to_host : List ℕ

-- "both ends start fresh"
abbrev pub fresh_bench : Bench
fresh_bench = record { host = fresh_session; device = fresh_device; to_device = []; to_host = [] }

-- one thing that happens, with the room that is lent to the call: the host is asked for a command (code, upper, lower); the operator clears its line; the device is told the
-- answer's fields; so many milliseconds pass at an end; the next byte on its way arrives at an end. Time passes at each end by its own ticks
pub data Move : Type 0 where
  asks : ℕ → ℕ → ℕ → List ℕ → Move
  clears : Move
  tells : Answer → List ℕ → Move
  host-waits : ℕ → List ℕ → Move
  device-waits : ℕ → List ℕ → Move
  host-hears : List ℕ → Move
  device-hears : List ℕ → Move

-- the bytes that a call put at the room's start
abbrev pub bytes_of : {Q : Type 0} → Returned Q → List ℕ → List ℕ
bytes_of (gave why) room = []
bytes_of (did n c) room = take n room

-- after a call at an end: what it put is on its way, behind what was
abbrev pub host_called : Bench → HostAfter → Bench
host_called b w =
    record {
      host = w.session;
      device = b.device;
      to_device = b.to_device ++ bytes_of (host_returned w.reply) w.room;
      to_host = b.to_host;
    }

abbrev pub device_called : Bench → After → Bench
device_called b w =
    record {
      host = b.host;
      device = w.session;
      to_device = b.to_device;
      to_host = b.to_host ++ bytes_of (returned w.reply) w.room;
    }

-- "every byte crosses unchanged, in order .., no other byte arrives": the first of those on their way, where there is one
abbrev pub host_heard : Bench → List ℕ → List ℕ → Bench
host_heard b [] r = b
host_heard b (x ∷ rest) r =
    host_called (record { host = b.host; device = b.device; to_device = b.to_device; to_host = rest }) (session_byte b.host x r)

abbrev pub device_heard : Bench → List ℕ → List ℕ → Bench
device_heard b [] r = b
device_heard b (x ∷ rest) r =
    device_called (record { host = b.host; device = b.device; to_device = rest; to_host = b.to_host }) (device_byte b.device x r)

abbrev pub moved : Bench → Move → Bench
moved b (asks code upper lower r) = host_called b (session_request b.host code upper lower r)
moved b clears = host_called b (session_clear b.host)
moved b (tells answer r) = device_called b (device_tell b.device answer r)
moved b (host-waits ms r) = host_called b (session_tick b.host ms r)
moved b (device-waits ms r) = device_called b (device_tick b.device ms r)
moved b (host-hears r) = host_heard b b.to_host r
moved b (device-hears r) = device_heard b b.to_device r

unfoldable pub run : Bench → List Move → Bench
run b [] = b
run b (m ∷ ms) = run (moved b m) ms

-- ---- the premises

-- what is left of the host's wait outlasts ms: "each 06h and answer start comes within the waits of 01", "each frame .. ends at its reader in under
-- 200 ms". With nothing open there is no wait, but quiet
abbrev pub HostInTime : Phase → ℕ → ℕ → Type 0
HostInTime Idle left ms = Unit {0}
HostInTime First left ms = ms < left
HostInTime Start left ms = ms < left
HostInTime Inside left ms = ms < left

-- and of the device's: "each frame, commands too, ends at its reader in under 200 ms", "the host's answer is heard before the 5,050 ms are up"
abbrev pub DeviceInTime : Stand → ℕ → ℕ → Type 0
DeviceInTime Resting left ms = Unit {0}
DeviceInTime Reading left ms = ms < left
DeviceInTime Awaiting left ms = Unit {0}
DeviceInTime Sent left ms = ms < left

-- "accepted": a byte that arrives is taken
abbrev pub HostTakes : Session → List ℕ → List ℕ → Type 0
HostTakes s [] r = Unit {0}
HostTakes s (x ∷ rest) r = IsDone (host_returned (session_byte s x r).reply)

abbrev pub DeviceTakes : Device → List ℕ → List ℕ → Type 0
DeviceTakes d [] r = Unit {0}
DeviceTakes d (x ∷ rest) r = IsDone (returned (device_byte d x r).reply)

-- what Q-14 asks of each thing that happens, but for its last premise. A call that is declined does nothing, and nothing is asked of it; but a byte that
-- arrives must be taken
abbrev pub Smooth : Bench → Move → Type 0
Smooth b (asks code upper lower r) = Unit {0}
Smooth b clears = Unit {0}
Smooth b (tells answer r) = Unit {0}
Smooth b (host-waits ms r) = IsDone (host_returned (session_tick b.host ms r).reply) → HostInTime b.host.line.phase b.host.line.left ms
Smooth b (device-waits ms r) = IsDone (returned (device_tick b.device ms r).reply) → DeviceInTime b.device.wire.stand b.device.wire.left ms
Smooth b (host-hears r) = HostTakes b.host b.to_host r
Smooth b (device-hears r) = DeviceTakes b.device b.to_device r

-- "the host opens nothing while the device is busy"
abbrev pub Free : Bench → Move → Type 0
Free b (asks code upper lower r) = IsDone (host_returned (session_request b.host code upper lower r).reply) → is_busy b.device.wire.stand ≡ false
Free b clears = Unit {0}
Free b (tells answer r) = Unit {0}
Free b (host-waits ms r) = Unit {0}
Free b (device-waits ms r) = Unit {0}
Free b (host-hears r) = Unit {0}
Free b (device-hears r) = Unit {0}

-- every move of a run meets every premise; or all but the last
unfoldable pub FairRun : Bench → List Move → Type 0
FairRun b [] = Unit {0}
FairRun b (m ∷ ms) = (Smooth b m × Free b m) × FairRun (moved b m) ms

unfoldable pub SmoothRun : Bench → List Move → Type 0
SmoothRun b [] = Unit {0}
SmoothRun b (m ∷ ms) = Smooth b m × SmoothRun (moved b m) ms

-- ---- the claim

-- what the host's account says of notes paid and rejected
abbrev pub paid_and_rejected : Sums → Tally
paid_and_rejected s = tally s.paid s.rejected

abbrev pub shown : Account → Tallies
shown a = tallies (paid_and_rejected a.cassettes.upper) (paid_and_rejected a.cassettes.lower)

-- "nothing is open on either side"
pub record AtRest (b : Bench) : Type 0 where
  pub host : is_open b.host.line.phase ≡ false
  pub device : is_busy b.device.wire.stand ≡ false

-- "then whenever nothing is open on either side both ends agree on paid and rejected for each cassette"
abbrev pub Agreement : Type 0
Agreement = (ms : List Move) → FairRun fresh_bench ms → AtRest (run fresh_bench ms)
    → shown (run fresh_bench ms).host.account ≡ (run fresh_bench ms).device.tallies

-- and the last premise is not needed: the bytes keep their order, so the host's 06h is heard before the command that it opens next
abbrev pub AgreementAnyway : Type 0
AgreementAnyway = (ms : List Move) → SmoothRun fresh_bench ms → AtRest (run fresh_bench ms)
    → shown (run fresh_bench ms).host.account ≡ (run fresh_bench ms).device.tallies
