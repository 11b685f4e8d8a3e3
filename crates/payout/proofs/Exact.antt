-- Amount 0 takes no notes, and the counts of a plan are those that a dispenser takes. Assumes nothing.
use Prim.Native.Nat.{ℕ, ◌+◌, ◌*◌, ◌≤◌}
use mathlib.Core.Path.{◌≡◌, refl, sym, ap, ap₂, ◌∙◌}
use mathlib.Core.Logic.{◌⊎◌, inl, inr, ⊎_elim}
use mathlib.Core.List.{List, [], ◌∷◌}
use native.Mathlib.Omega.{arith}
use native.Mathlib.Nat.{zero-mul}
use lib.ListN.{length}
use Rattle.payout.specs.Counts.{total, worth, Within, Each, Makes, Chosen}
use Rattle.payout.specs.Plan.{in_range, Right}
use Rattle.payout.specs.Promises.{NoNotes, Dispensed}
use Rattle.payout.specs.declared.NoPlan.TheVariants.{Range, NoPayout}
use Rattle.payout.specs.Planned.{Plan}
use Rattle.payout.specs.Planned.{Two, Four, Refused}
use Rattle.payout.proofs.Turn.{before-total}

-- ---- no notes make amount 0

unfoldable zeros : List ℕ → List ℕ
zeros [] = []
zeros (s ∷ ss) = 0 ∷ zeros ss

zeros-total : (ss : List ℕ) → total (zeros ss) ≡ 0
unfolding zeros total
zeros-total [] = refl
zeros-total (s ∷ ss) = omega (arith, zeros-total ss)

zeros-length : (ss : List ℕ) → length (zeros ss) ≡ length ss
unfolding zeros
zeros-length [] = refl
zeros-length (s ∷ ss) = omega (arith, zeros-length ss)

zeros_within : (ss : List ℕ) → Within ss (zeros ss)
unfolding zeros Within
zeros_within [] = tt
zeros_within (s ∷ ss) = (omega arith, zeros_within ss)

zeros-each : (ss : List ℕ) → Each 60 (zeros ss)
unfolding zeros Each
zeros-each [] = tt
zeros-each (s ∷ ss) = (omega arith, zeros-each ss)

zeros-worth : (vs ss : List ℕ) → worth vs (zeros ss) ≡ 0
unfolding zeros worth
zeros-worth [] ss = refl
zeros-worth (v ∷ vs) [] = refl
zeros-worth (v ∷ vs) (s ∷ ss) = omega (arith, zero-mul v, zeros-worth vs ss)

zeros-make : (vs ss : List ℕ) → (in_range vs ss 0).holds → Makes vs ss 0 (zeros ss)
unfolding in_range
zeros-make vs ss h =
    record {
      within = zeros_within ss;
      few = ⊎_elim
          (λ e. inl (zeros-length ss ∙ sym h.1.0 ∙ e, zeros-each ss))
          (λ e. inr (zeros-length ss ∙ sym h.1.0 ∙ e, omega (arith, zeros-total ss)))
          h.1.1.0;
      exact = zeros-worth vs ss;
    }

module _ (vs ss : List ℕ) (h : (in_range vs ss 0).holds) where
  chosen_none : (ns : List ℕ) → Chosen (Makes vs ss 0) ns → total ns ≡ 0
  chosen_none ns c = omega (arith, before-total ns (zeros ss) (c.before (zeros ss) (zeros-make vs ss h)), zeros-total ss)

  zero-answer : (r : Plan) → Right vs ss 0 r → (r ≡ Two 0 0) ⊎ (r ≡ Four 0 0 0 0)
  unfolding Right total
  zero-answer (Refused Range) p = absurd (p h)
  zero-answer (Refused NoPayout) p = absurd (p.1 (zeros ss) (zeros-make vs ss h))
  zero-answer (Two a b) p =
      let t = chosen_none (a ∷ b ∷ []) p.1 in
      let ea : a ≡ 0 = omega (arith, t) in let eb : b ≡ 0 = omega (arith, t) in inl (ap₂ Two ea eb)
  zero-answer (Four a b c d) p =
      let t = chosen_none (a ∷ b ∷ c ∷ d ∷ []) p.1 in
      let ea : a ≡ 0 = omega (arith, t) in let eb : b ≡ 0 = omega (arith, t) in
      let ec : c ≡ 0 = omega (arith, t) in let ed : d ≡ 0 = omega (arith, t) in inr (rw (ea, eb, ec, ed))

-- ---- no notes make no other amount

none-worth : (vs ns : List ℕ) → total ns ≡ 0 → worth vs ns ≡ 0
unfolding total worth
none-worth [] ns e = refl
none-worth (v ∷ vs) [] e = refl
none-worth (v ∷ vs) (n ∷ ns) e =
    let z : n ≡ 0 = omega (arith, e) in
    let w : worth vs ns ≡ 0 = none-worth vs ns (omega (arith, e)) in
    omega (arith, w, ap (λ (x : ℕ). x * v) z, zero-mul v)

makes_none : (vs ss ns : List ℕ) (amount : ℕ) → Makes vs ss amount ns → total ns ≡ 0 → amount ≡ 0
makes_none vs ss ns amount m e = sym m.exact ∙ none-worth vs ns e

pub no-notes : NoNotes
unfolding Right total
no-notes =
    record {
      zero = λ vs ss r h p. zero-answer vs ss h r p;
      two = λ vs ss amount p. makes_none vs ss (0 ∷ 0 ∷ []) amount p.1.has refl;
      four = λ vs ss amount p. makes_none vs ss (0 ∷ 0 ∷ 0 ∷ 0 ∷ []) amount p.1.has refl;
    }

-- ---- what a dispenser takes

two-few : (vs ss : List ℕ) (amount a b : ℕ) → Makes vs ss amount (a ∷ b ∷ []) → (a ≤ 60) × (b ≤ 60)
unfolding Each
two-few vs ss amount a b m = ⊎_elim (λ p. (p.1.0, p.1.1.0)) (λ p. absurd (omega (arith, p.0))) m.few

four-few : (vs ss : List ℕ) (amount a b c d : ℕ) → Makes vs ss amount (a ∷ b ∷ c ∷ d ∷ []) → a + b + c + d ≤ 20
unfolding total
four-few vs ss amount a b c d m = ⊎_elim (λ p. absurd (omega (arith, p.0))) (λ p. omega (arith, p.1)) m.few

four-some : (vs ss : List ℕ) (amount a b c d : ℕ) → Makes vs ss amount (a ∷ b ∷ c ∷ d ∷ []) → ((amount ≡ 0) → ⊥) → 1 ≤ a + b + c + d
unfolding total
four-some vs ss amount a b c d m n =
    let some : (a + b + c + d ≡ 0) → ⊥ = λ z. n (makes_none vs ss (a ∷ b ∷ c ∷ d ∷ []) amount m (omega (arith, z))) in omega (arith, some)

pub dispensed : Dispensed
unfolding Right
dispensed =
    record {
      two = λ vs ss amount a b p. two-few vs ss amount a b p.1.has;
      four = λ vs ss amount a b c d p n. (four-some vs ss amount a b c d p.1.has n, four-few vs ss amount a b c d p.1.has);
    }
