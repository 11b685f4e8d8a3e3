-- How the succession of paying commands that closed unknown goes on, command by command. Assumes nothing.
use Prim.Native.Nat.{ℕ, zero, suc, ◌+◌}
use mathlib.Core.Path.{◌≡◌, refl, ◌∙◌}
use mathlib.Core.Bool.{Bool, true, false, cond}
use mathlib.Core.List.{List, ◌∷◌}
use native.Mathlib.Numerals.{add-one}
use lib.ListN.{take}
use Rattle.ledger.specs.Account.{Ending, answered, refused, unknown, waiting, fate_after, Command}
use Rattle.ledger.specs.Events.{closes}
use Rattle.ledger.specs.Stopped.{onward, unknowns}

-- how the count goes on by a closing of a command that pays; and of any
abbrev by-ending : Ending → ℕ → ℕ
by-ending answered n = 0
by-ending refused n = 0
by-ending unknown n = n + 1

abbrev pub going : Bool → Ending → ℕ → ℕ
going pays end n = cond pays (by-ending end n) n

onward-closed : (end : Ending) (f : List ℕ) (n : ℕ) → onward (fate_after (closes end) f waiting) n ≡ by-ending end n
onward-closed answered f n = refl
onward-closed refused f n = refl
onward-closed unknown f n = refl

either_same : (t : Bool) (n : ℕ) → cond t n n ≡ n
either_same true n = refl
either_same false n = refl

module _ {R : Type 0} (pays : R → Bool) where
  taken-one : (n : ℕ) (k : Command R) (ks : List (Command R))
      → unknowns pays (take (n + 1) (k ∷ ks)) ≡ cond (pays k.asks) (onward k.fate (unknowns pays (take n ks))) (unknowns pays (take n ks))
  unfolding unknowns
  taken-one n k ks = rw add-one

  -- an open command leaves it
  pub open-unknowns : (n : ℕ) (k : Command R) (ks : List (Command R)) → k.fate ≡ waiting → unknowns pays (take (n + 1) (k ∷ ks)) ≡ unknowns pays (take n ks)
  open-unknowns n k ks e = taken-one n k ks ∙ rw e (either_same (pays k.asks) _)

  -- a closed one ends it or adds to it, where it pays
  pub closed-unknowns : (n : ℕ) (k : Command R) (ks : List (Command R)) (end : Ending) (f : List ℕ) → k.fate ≡ fate_after (closes end) f waiting
      → unknowns pays (take (n + 1) (k ∷ ks)) ≡ going (pays k.asks) end (unknowns pays (take n ks))
  closed-unknowns n k ks end f e = taken-one n k ks ∙ rw (e, onward-closed)

  -- and a hand-over leaves it too
  pub again-unknowns : (n m : ℕ) (k : Command R) (ks : List (Command R))
      → unknowns pays (take n (record { asks = k.asks; frame = k.frame; handed = m; fate = k.fate } ∷ ks)) ≡ unknowns pays (take n (k ∷ ks))
  unfolding unknowns
  again-unknowns zero m k ks = refl
  again-unknowns (suc n) m k ks = refl
