-- What is promised of a right answer: the statements, proved in proofs/Sole.antt and proofs/Exact.antt. Right is an answer whose counts are allowed, make the
-- amount and come before all other such counts, by definitions that range over the counts (specs/Counts.antt, specs/Plan.antt).
use Rattle.std.specs.Prelude.{ℕ, ◌+◌, ◌≤◌, ◌≡◌, ◌⊎◌, ◌↔◌, List}
use Rattle.payout.specs.Counts.{Makes, None}
use Rattle.payout.specs.Plan.{in_range, no_plan_number, Right}
use Rattle.payout.specs.declared.NoPlan.TheVariants.{Range, NoPayout}
use Rattle.payout.specs.Planned.{Plan}
use Rattle.payout.specs.Planned.{Two, Four, Refused}

-- there is one right answer and no other
abbrev pub Sole : Type 0
Sole = (values stocks : List ℕ) (amount : ℕ) (r q : Plan) → Right values stocks amount r → Right values stocks amount q → r ≡ q

-- "An input out of range is number 2; otherwise the new number 8, 'no such payout', comes exactly when no allowed counts make the amount"
pub record ExactlyWhen : Type 0 where
  pub range : (values stocks : List ℕ) (amount : ℕ) (r : Plan) → Right values stocks amount r
      → (r ≡ Refused Range) ↔ ((in_range values stocks amount).holds → ⊥)
  pub payout : (values stocks : List ℕ) (amount : ℕ) (r : Plan) → Right values stocks amount r
      → (r ≡ Refused NoPayout) ↔ ((in_range values stocks amount).holds × None (Makes values stocks amount))
  pub numbers : (no_plan_number Range ≡ 2) × (no_plan_number NoPayout ≡ 8)

-- "Amount 0 is all zeros", and no other amount is
pub record NoNotes : Type 0 where
  pub zero : (values stocks : List ℕ) (r : Plan) → (in_range values stocks 0).holds → Right values stocks 0 r → (r ≡ Two 0 0) ⊎ (r ≡ Four 0 0 0 0)
  pub two : (values stocks : List ℕ) (amount : ℕ) → Right values stocks amount (Two 0 0) → amount ≡ 0
  pub four : (values stocks : List ℕ) (amount : ℕ) → Right values stocks amount (Four 0 0 0 0) → amount ≡ 0

-- the counts are those that a dispenser takes: of two cassettes 60 at most from each; of four, where the amount is not 0, 1 to 20 in all (Q-3)
pub record Dispensed : Type 0 where
  pub two : (values stocks : List ℕ) (amount a b : ℕ) → Right values stocks amount (Two a b) → (a ≤ 60) × (b ≤ 60)
  pub four : (values stocks : List ℕ) (amount a b c d : ℕ) → Right values stocks amount (Four a b c d) → ((amount ≡ 0) → ⊥)
      → (1 ≤ a + b + c + d) × (a + b + c + d ≤ 20)
