-- A request on a session over any unit answers each number exactly when its rules say, and exactly when the history says. Assumes nothing.
use Prim.Native.Nat.{ℕ}
use mathlib.Core.Path.{◌≡◌, refl}
use mathlib.Core.Bool.{true}
use mathlib.Core.List.{List}
use Rattle.ledger.specs.Declining.{GivenExactlyWhen}
use Rattle.ledger.specs.Calls.{After, gave, IsDone}
use Rattle.ledger.proofs.Declining.{told-apart, rising, given-exactly}
use Rattle.exchange_rules.specs.Machine.{Model, Reply, Box, request_refusals, left, called-request}
use Rattle.exchange_rules.specs.declared.line.Line.{Line}

module _ {R X A C : Type 0} (U : Model R X A C) where
  request-rises : (l : Line) (q : R) (r : List ℕ) → rising (request_refusals U l q r) ≡ true
  unfolding request_refusals
  request-rises l q r = refl

  pub request-declines : (s : Box R A) (q : R) (r : List ℕ)
      → GivenExactlyWhen (λ (w : After (Box R A) (Reply X)). w.reply) gave IsDone (left U s r) (request_refusals U s.line q r) (called-request U s q r)
  unfolding called-request
  request-declines s q r = given-exactly told-apart (left U s r) _ (λ w. w) (request-rises s.line q r) (λ why. refl) (λ why. refl) (_, (_, refl))
