-- The contract of each exported call is, as it stands, the equation with `held_called`, for the session that was lent. So two outcomes that it allows for the same arguments
-- coincide (`tied`, dispenser_lent/proofs/Tied.antt). Assumes nothing.
use mathlib.Core.Path.{refl}
use mathlib.Core.List.{[]}
use seplogic.Ra.Ura.{Ura}
use base.Logic.{SProp}
use prog.Memory.{Memory}
use prog.Routine.{Routine}
use types.Logic.{Logic}
use contract.Monad.{Fun}
use Rattle.dispenser_rules.specs.Calls.{request, byte, tick, clear}
use Rattle.dispenser_lent.proofs.Tied.{Says}
use Rattle.dispenser_link.specs.Held.{HeldAfter}
use Rattle.dispenser_link.specs.Promises.{held_called}
use Rattle.dispenser_link.specs.contracts.calls.dispenser_request as request-fn
use Rattle.dispenser_link.specs.contracts.calls.dispenser_byte as byte-fn
use Rattle.dispenser_link.specs.contracts.calls.dispenser_tick as tick-fn
use Rattle.dispenser_link.specs.contracts.calls.dispenser_clear as clear-fn

module _ {M : Type 1} {𝓤 : Ura M} (𝓛 : Logic 𝓤) (mem : Memory → SProp 𝓤) (run : Routine → Fun 𝓤) where
  pub request-says : Says 𝓤 request-fn.ended (request-fn.clauses 𝓛 mem run) {B = HeldAfter}
      (λ κs x e. record { session = e.0.now; reply = x; room = e.1.1.1.1.0.now }) (λ κs a. held_called a.0.now (request a.1.0 a.1.1.0 a.1.1.1.0 a.1.1.1.1.0.now))
  request-says κs a g x e = refl

  pub byte-says : Says 𝓤 byte-fn.ended (byte-fn.clauses 𝓛 mem run) {B = HeldAfter}
      (λ κs x e. record { session = e.0.now; reply = x; room = e.1.1.0.now }) (λ κs a. held_called a.0.now (byte a.1.0 a.1.1.0.now))
  byte-says κs a g x e = refl

  pub tick-says : Says 𝓤 tick-fn.ended (tick-fn.clauses 𝓛 mem run) {B = HeldAfter}
      (λ κs x e. record { session = e.0.now; reply = x; room = e.1.1.0.now }) (λ κs a. held_called a.0.now (tick a.1.0 a.1.1.0.now))
  tick-says κs a g x e = refl

  pub clear-says : Says 𝓤 clear-fn.ended (clear-fn.clauses 𝓛 mem run) {B = HeldAfter}
      (λ κs x e. record { session = e.0.now; reply = x; room = [] }) (λ κs a. held_called a.0.now clear)
  clear-says κs a g x e = refl
