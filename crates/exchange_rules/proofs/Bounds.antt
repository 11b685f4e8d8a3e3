-- No sum of a cassette grows by more than the greatest count when a command closes, and only the notes asked grow when one opens. Assumes nothing.
use Prim.Native.Nat.{ℕ, suc, ◌+◌, ◌-◌, ◌*◌, ◌≤◌, ◌<◌}
use mathlib.Core.Path.{subst}
use native.Mathlib.Nat.{mul-le-mul_left, mul-suc}
use native.Mathlib.Omega.{arith}
use Rattle.exchange_rules.specs.Sums.{sums_opened, sums_answered, sums_refused, sums_unknown}
use Rattle.exchange_rules.specs.Kept.{Bounded}
use Rattle.exchange_rules.specs.declared.notes.Sums.{Sums}
use Rattle.exchange_rules.proofs.Shown.{plus-most}

-- one command more is one greatest count more
pub one_more : (g n m : ℕ) → n < m → g * n + g ≤ g * m
one_more g n m h =
    let up : suc n ≤ m = omega arith in
    subst (λ (x : ℕ). x ≤ g * m) (mul-suc g n) (mul-le-mul_left g up)

-- the greatest count may be taken greater
pub bounded-wider : {g k n c : ℕ} {s : Sums} → Bounded g n c s → g ≤ k → Bounded k n c s
bounded-wider b h =
    record {
      asked_most = b.asked_most;
      paid_most = b.paid_most;
      short_most = b.short_most;
      over_most = b.over_most;
      refused_most = b.refused_most;
      unknown_most = b.unknown_most;
      pending_most = omega (arith, b.pending_most);
      rejected_most = b.rejected_most;
    }

module _ {g n c d : ℕ} {s : Sums} (b : Bounded g n c s) where
  -- the limits only grow
  pub bounded-longer : {m : ℕ} → n ≤ m → c ≤ d → Bounded g m d s
  bounded-longer g h =
      record {
        asked_most = omega arith;
        paid_most = omega arith;
        short_most = omega arith;
        over_most = omega arith;
        refused_most = omega arith;
        unknown_most = omega arith;
        pending_most = omega arith;
        rejected_most = omega arith;
      }

  pub sums-opened : (q : ℕ) → q ≤ g → c ≤ d → Bounded g (n + g) d (sums_opened s q)
  unfolding sums_opened
  sums-opened q f h =
      record {
        asked_most = omega (arith, plus-most s.asked q);
        paid_most = omega arith;
        short_most = omega arith;
        over_most = omega arith;
        refused_most = omega arith;
        unknown_most = omega arith;
        pending_most = omega arith;
        rejected_most = omega arith;
      }

  pub sums-answered : (q e r : ℕ) → q ≤ g → e ≤ g → r ≤ g → c + g ≤ d → Bounded g n d (sums_answered s q e r)
  unfolding sums_answered
  sums-answered q e r f g k h =
      record {
        asked_most = omega arith;
        paid_most = omega (arith, plus-most s.paid e);
        short_most = omega (arith, plus-most s.short (q - e));
        over_most = omega (arith, plus-most s.over (e - q));
        refused_most = omega arith;
        unknown_most = omega arith;
        pending_most = omega arith;
        rejected_most = omega (arith, plus-most s.rejected r);
      }

  pub sums-refused : (q : ℕ) → q ≤ g → c + g ≤ d → Bounded g n d (sums_refused s q)
  unfolding sums_refused
  sums-refused q f h =
      record {
        asked_most = omega arith;
        paid_most = omega arith;
        short_most = omega arith;
        over_most = omega arith;
        refused_most = omega (arith, plus-most s.refused q);
        unknown_most = omega arith;
        pending_most = omega arith;
        rejected_most = omega arith;
      }

  pub sums-unknown : (q : ℕ) → q ≤ g → c + g ≤ d → Bounded g n d (sums_unknown s q)
  unfolding sums_unknown
  sums-unknown q f h =
      record {
        asked_most = omega arith;
        paid_most = omega arith;
        short_most = omega arith;
        over_most = omega arith;
        refused_most = omega arith;
        unknown_most = omega (arith, plus-most s.unknown q);
        pending_most = omega arith;
        rejected_most = omega arith;
      }
