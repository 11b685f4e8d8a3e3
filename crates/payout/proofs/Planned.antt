-- A plan made of what the search finds is right. Assumes nothing.
use Prim.Native.Nat.{ℕ, ◌*◌, ◌≤◌}
use mathlib.Core.Path.{◌≡◌, refl, sym, ◌∙◌}
use mathlib.Core.Logic.{inl, inr, ⊎_elim}
use mathlib.Core.Bool.{false}
use mathlib.Core.List.{List, [], ◌∷◌}
use native.Mathlib.Omega.{arith}
use lib.ListN.{length}
use Rattle.payout.specs.Counts.{total, Within, Each, Makes}
use Rattle.payout.specs.Plan.{in_range, Right}
use Rattle.payout.specs.Scaffolding.{Job, Answer, plan_of}
use Rattle.payout.specs.declared.NoPlan.TheVariants.{Range}
use Rattle.payout.specs.Planned.{Refused}
use Rattle.payout.specs.Found.{Found}
use Rattle.payout.specs.Found.{Nothing, Best}
use Rattle.payout.proofs.Turn.{covers}

pub within-length : (ss ns : List ℕ) → Within ss ns → length ns ≡ length ss
unfolding Within
within-length [] [] w = refl
within-length [] (n ∷ ns) w = absurd w
within-length (s ∷ ss) [] w = absurd w
within-length (s ∷ ss) (n ∷ ns) w = omega (arith, within-length ss ns w.1)

each-total : (ns : List ℕ) → Each 60 ns → total ns ≤ 60 * length ns
unfolding Each total
each-total [] e = omega arith
each-total (n ∷ ns) e = omega (arith, e.0, each-total ns e.1)

pub total-each : (most : ℕ) (ns : List ℕ) → total ns ≤ most → Each most ns
unfolding Each total
total-each most [] h = tt
total-each most (n ∷ ns) h = (omega arith, total-each most ns (omega arith))

pub few-enough : (vs ss : List ℕ) (amount : ℕ) → (in_range vs ss amount).holds → (length vs ≤ 4) × (length vs ≡ length ss)
unfolding in_range
few-enough vs ss amount h = (⊎_elim (λ e. omega (arith, e)) (λ e. omega (arith, e)) h.1.1.0, h.1.0)

pub four-else : (vs ss : List ℕ) (amount : ℕ) → (in_range vs ss amount).holds → ((length vs ≡ 2) → ⊥) → length vs ≡ 4
unfolding in_range
four-else vs ss amount h n = ⊎_elim (λ e. absurd (n e)) (λ e. e) h.1.1.0

pub right-refused : (vs ss : List ℕ) (amount : ℕ) → (in_range vs ss amount).test ≡ false → Right vs ss amount (Refused Range)
unfolding Right
right-refused vs ss amount e = (in_range vs ss amount).tells.denied e

module _ (vs ss : List ℕ) (amount : ℕ) (h : (in_range vs ss amount).holds) where
  -- as many counts as there are cassettes
  counted : (ns : List ℕ) → Within ss ns → length ns ≡ length vs
  counted ns w = within-length ss ns w ∙ sym (few-enough vs ss amount h).1

  pub right-two : (found : Found) (each room : ℕ) → length vs ≡ 2 → Answer (Job vs ss each room amount) (length vs) found → each ≡ 60 → room ≡ 120
      → Right vs ss amount (plan_of 2 found)
  unfolding Right Answer
  right-two found each room e a l k = by found (covers _ (Makes vs ss amount) 2 found to from (rw (l, k, e) at a))
    where
      to : (ns : List ℕ) → Job vs ss 60 120 amount ns → Makes vs ss amount ns
      to ns j = record { within = j.within; few = inl (counted ns j.within ∙ e, j.limit); exact = j.exact }

      from : (ns : List ℕ) → Makes vs ss amount ns → Job vs ss 60 120 amount ns
      from ns m =
          let l : length ns ≡ 2 = counted ns m.within ∙ e in
          let each : Each 60 ns = ⊎_elim (λ p. p.1) (λ p. absurd (omega (arith, p.0, l))) m.few in
          record { within = m.within; limit = each; few = omega (arith, each-total ns each, l); exact = m.exact }

      by : (found : Found) → Answer (Makes vs ss amount) 2 found → Right vs ss amount (plan_of 2 found)
      by Nothing b = (h, b)
      by (Best c) b = (h, b.0)

  pub right-four : (found : Found) (each room : ℕ) → length vs ≡ 4 → Answer (Job vs ss each room amount) (length vs) found → each ≡ 20 → room ≡ 20
      → Right vs ss amount (plan_of 4 found)
  unfolding Right Answer
  right-four found each room e a l k = by found (covers _ (Makes vs ss amount) 4 found to from (rw (l, k, e) at a))
    where
      to : (ns : List ℕ) → Job vs ss 20 20 amount ns → Makes vs ss amount ns
      to ns j = record { within = j.within; few = inr (counted ns j.within ∙ e, j.few); exact = j.exact }

      from : (ns : List ℕ) → Makes vs ss amount ns → Job vs ss 20 20 amount ns
      from ns m =
          let l : length ns ≡ 4 = counted ns m.within ∙ e in
          let few : total ns ≤ 20 = ⊎_elim (λ p. absurd (omega (arith, p.0, l))) (λ p. p.1) m.few in
          record { within = m.within; limit = total-each 20 ns few; few = few; exact = m.exact }

      by : (found : Found) → Answer (Makes vs ss amount) 4 found → Right vs ss amount (plan_of 4 found)
      by Nothing b = (h, b)
      by (Best c) b = (h, b.0)
