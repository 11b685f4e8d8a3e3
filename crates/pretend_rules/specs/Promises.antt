-- What is promised of each call of the device, whatever the device: each number exactly when its condition is the first that holds, and the lowest that applies.
-- Proved in proofs/Exact.antt.
use Rattle.std.specs.Prelude.{ℕ, List}
use Rattle.ledger.specs.Calls.{Declines}
use Rattle.dispenser_frame_rules.specs.declared.answer.Answer.{Answer}
use Rattle.pretend_rules.specs.Device.{byte_refusals, tick_refusals, tell_refusals, device_byte, device_tick, device_tell}
use Rattle.pretend_rules.specs.Calls.{host}
use Rattle.pretend_rules.specs.declared.device.Device.{Device}

pub record ExactlyWhen : Type 0 where
  pub byte : (d : Device) (b : ℕ) (r : List ℕ) → Declines host (byte_refusals r) d r (device_byte d b r)
  pub tick : (d : Device) (ms : ℕ) (r : List ℕ) → Declines host (tick_refusals ms r) d r (device_tick d ms r)
  pub tell : (d : Device) (a : Answer) (r : List ℕ) → Declines host (tell_refusals d.wire d.code a r) d r (device_tell d a r)
