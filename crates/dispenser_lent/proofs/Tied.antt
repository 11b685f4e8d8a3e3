-- Each contract is, as it stands, the equation with the step that demand 3 speaks of (`called`), for the session that was lent. So it leaves no choice: two outcomes that it
-- allows for the same arguments coincide, in the session, in the reply and in every byte of the room. Assumes nothing.
use mathlib.Core.Path.{◌≡◌, refl, sym, ◌∙◌}
use mathlib.Core.List.{[]}
use seplogic.Ra.Ura.{Ura}
use base.Logic.{SProp}
use prog.Memory.{Memory}
use prog.Routine.{Routine}
use types.Logic.{Logic}
use contract.Monad.{Fun, fact}
use contract.Lifetimes.{Lfts}
use denote.Triple.Entry.{Args, Res}
use denote.Triple.Clauses.{Ended, Clauses, AtExit}
use Rattle.dispenser_rules.specs.Session.{after}
use Rattle.dispenser_rules.specs.Calls.{request, byte, tick, clear, called}
use Rattle.dispenser_lent.specs.contracts.request as request-fn
use Rattle.dispenser_lent.specs.contracts.byte as byte-fn
use Rattle.dispenser_lent.specs.contracts.tick as tick-fn
use Rattle.dispenser_lent.specs.contracts.clear as clear-fn

-- T and c are a function's parameters and contract; left is what a call leaves, by its result x and its parameters e at exit, and due what is due, by its arguments a
module _ {M : Type 1} (𝓤 : Ura M) (T : Ended) (c : Clauses 𝓤 T) {B : Type 0}
    (left : (κs : Lfts T.signature.lifetimes) → Res T.signature κs → AtExit T κs → B)
    (due : (κs : Lfts T.signature.lifetimes) → Args T.signature κs → B) where
  -- the contract is one fact, as it stands: what is left is what is due
  abbrev pub Says : Type 2
  Says = (κs : Lfts T.signature.lifetimes) (a : Args T.signature κs) (g : (c κs a).ghost) (x : Res T.signature κs) (e : AtExit T κs)
      → (c κs a).ensures g x e ≡ fact 𝓤 (left κs x e ≡ due κs a)

  -- two outcomes that it allows for the same arguments coincide
  abbrev pub Tied : Type 0
  Tied = (κs : Lfts T.signature.lifetimes) (a : Args T.signature κs) (x y : Res T.signature κs) (e f : AtExit T κs)
      → left κs x e ≡ due κs a → left κs y f ≡ due κs a → left κs x e ≡ left κs y f

  pub tied : Tied
  tied κs a x y e f p q = p ∙ sym q

module _ {M : Type 1} {𝓤 : Ura M} (𝓛 : Logic 𝓤) (mem : Memory → SProp 𝓤) (run : Routine → Fun 𝓤) where
  pub request-says : Says 𝓤 request-fn.ended (request-fn.clauses 𝓛 mem run)
      (λ κs x e. after (record { session = e.0.now; reply = x }) e.1.1.1.1.0.now)
      (λ κs a. called a.0.now (request a.1.0 a.1.1.0 a.1.1.1.0 a.1.1.1.1.0.now))
  request-says κs a g x e = refl

  pub byte-says : Says 𝓤 byte-fn.ended (byte-fn.clauses 𝓛 mem run)
      (λ κs x e. after (record { session = e.0.now; reply = x }) e.1.1.0.now)
      (λ κs a. called a.0.now (byte a.1.0 a.1.1.0.now))
  byte-says κs a g x e = refl

  pub tick-says : Says 𝓤 tick-fn.ended (tick-fn.clauses 𝓛 mem run)
      (λ κs x e. after (record { session = e.0.now; reply = x }) e.1.1.0.now)
      (λ κs a. called a.0.now (tick a.1.0 a.1.1.0.now))
  tick-says κs a g x e = refl

  pub clear-says : Says 𝓤 clear-fn.ended (clear-fn.clauses 𝓛 mem run)
      (λ κs x e. after (record { session = e.0.now; reply = x }) []) (λ κs a. called a.0.now clear)
  clear-says κs a g x e = refl
