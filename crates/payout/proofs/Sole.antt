-- There is one right answer and no other, and each number is given exactly when it is due. Assumes nothing.
use Prim.Native.Nat.{ℕ}
use mathlib.Core.Path.{◌≡◌, refl, sym, ap, ◌∙◌}
use mathlib.Core.Logic.{inl, inr}
use mathlib.Core.List.{List, [], ◌∷◌}
use native.Mathlib.Omega.{arith}
use lib.ListN.{length}
use Rattle.payout.specs.Counts.{MostFirst, Before, Makes, Chosen, None}
use Rattle.payout.specs.Plan.{in_range, Right}
use Rattle.payout.specs.Promises.{Sole, ExactlyWhen}
use Rattle.payout.specs.declared.NoPlan.TheVariants.{Range, NoPayout}
use Rattle.payout.specs.Planned.{Plan}
use Rattle.payout.specs.Planned.{Two, Four, Refused}
use Rattle.payout.proofs.Planned.{within-length}

-- ---- counts that come before each other are the same

most-same : (ns ms : List ℕ) → length ns ≡ length ms → MostFirst ns ms → MostFirst ms ns → ns ≡ ms
unfolding MostFirst
most-same [] [] e p q = refl
most-same [] (m ∷ ms) e p q = absurd (omega (arith, e))
most-same (n ∷ ns) [] e p q = absurd (omega (arith, e))
most-same (n ∷ ns) (m ∷ ms) e (inl h) (inl g) = absurd (omega arith)
most-same (n ∷ ns) (m ∷ ms) e (inl h) (inr q) = absurd (omega (arith, q.0))
most-same (n ∷ ns) (m ∷ ms) e (inr p) (inl g) = absurd (omega (arith, p.0))
most-same (n ∷ ns) (m ∷ ms) e (inr p) (inr q) = let t : ns ≡ ms = most-same ns ms (omega (arith, e)) p.1 q.1 in let h : n ≡ m = p.0 in cc

before_same : (ns ms : List ℕ) → length ns ≡ length ms → Before ns ms → Before ms ns → ns ≡ ms
before_same ns ms e (inl h) (inl g) = absurd (omega arith)
before_same ns ms e (inl h) (inr q) = absurd (omega (arith, q.0))
before_same ns ms e (inr p) (inl g) = absurd (omega (arith, p.0))
before_same ns ms e (inr p) (inr q) = most-same ns ms e p.1 q.1

module _ (values stocks : List ℕ) (amount : ℕ) where
  chosen-same : (ns ms : List ℕ) → Chosen (Makes values stocks amount) ns → Chosen (Makes values stocks amount) ms → ns ≡ ms
  chosen-same ns ms p q =
      before_same ns ms (within-length stocks ns p.has.within ∙ sym (within-length stocks ms q.has.within))
      (p.before ms q.has) (q.before ns p.has)

  -- ---- the numbers

  refused-range : (r : Plan) → Right values stocks amount r → ((in_range values stocks amount).holds → ⊥) → r ≡ Refused Range
  unfolding Right
  refused-range (Two a b) p n = absurd (n p.0)
  refused-range (Four a b c d) p n = absurd (n p.0)
  refused-range (Refused Range) p n = refl
  refused-range (Refused NoPayout) p n = absurd (n p.0)

  refused-payout : (r : Plan) → Right values stocks amount r → (in_range values stocks amount).holds → None (Makes values stocks amount) → r ≡ Refused NoPayout
  unfolding Right
  refused-payout (Two a b) p h n = absurd (n (a ∷ b ∷ []) p.1.has)
  refused-payout (Four a b c d) p h n = absurd (n (a ∷ b ∷ c ∷ d ∷ []) p.1.has)
  refused-payout (Refused Range) p h n = absurd (p h)
  refused-payout (Refused NoPayout) p h n = refl

  range-said : (r : Plan) → Right values stocks amount r → r ≡ Refused Range → (in_range values stocks amount).holds → ⊥
  unfolding Right
  range-said (Refused Range) p e = p
  range-said (Refused NoPayout) p e = let z : ◌≡◌ {A = ℕ} 0 1 = cc in absurd (omega arith)
  range-said (Two a b) p e = let z : ◌≡◌ {A = ℕ} 0 1 = cc in absurd (omega arith)
  range-said (Four a b c d) p e = let z : ◌≡◌ {A = ℕ} 0 1 = cc in absurd (omega arith)

  payout-said : (r : Plan) → Right values stocks amount r → r ≡ Refused NoPayout → (in_range values stocks amount).holds × None (Makes values stocks amount)
  unfolding Right
  payout-said (Refused Range) p e = let z : ◌≡◌ {A = ℕ} 0 1 = cc in absurd (omega arith)
  payout-said (Refused NoPayout) p e = p
  payout-said (Two a b) p e = let z : ◌≡◌ {A = ℕ} 0 1 = cc in absurd (omega arith)
  payout-said (Four a b c d) p e = let z : ◌≡◌ {A = ℕ} 0 1 = cc in absurd (omega arith)

  -- ---- one answer

  same : (r q : Plan) → Right values stocks amount r → Right values stocks amount q → r ≡ q
  unfolding Right
  same (Refused Range) q u w = sym (refused-range q w u)
  same (Refused NoPayout) q u w = sym (refused-payout q w u.0 u.1)
  same (Two a b) (Refused Range) u w = refused-range (Two a b) u w
  same (Two a b) (Refused NoPayout) u w = refused-payout (Two a b) u w.0 w.1
  same (Two a b) (Two c d) u w = let e = chosen-same (a ∷ b ∷ []) (c ∷ d ∷ []) u.1 w.1 in cc
  same (Two a b) (Four c d e f) u w =
      let e = ap length (chosen-same (a ∷ b ∷ []) (c ∷ d ∷ e ∷ f ∷ []) u.1 w.1) in absurd (omega (arith, e))
  same (Four a b c d) (Refused Range) u w = refused-range (Four a b c d) u w
  same (Four a b c d) (Refused NoPayout) u w = refused-payout (Four a b c d) u w.0 w.1
  same (Four a b c d) (Two e f) u w =
      let e = ap length (chosen-same (a ∷ b ∷ c ∷ d ∷ []) (e ∷ f ∷ []) u.1 w.1) in absurd (omega (arith, e))
  same (Four a b c d) (Four e f g h) u w =
      let e = chosen-same (a ∷ b ∷ c ∷ d ∷ []) (e ∷ f ∷ g ∷ h ∷ []) u.1 w.1 in cc

pub sole : Sole
sole = same

pub exactly-when : ExactlyWhen
exactly-when =
    record {
      range = λ values stocks amount r p. (range-said values stocks amount r p, refused-range values stocks amount r p);
      payout = λ values stocks amount r p. (payout-said values stocks amount r p, λ h. refused-payout values stocks amount r p h.0 h.1);
      numbers = (refl, refl);
    }
