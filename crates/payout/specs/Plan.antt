-- What a payout is answered with (02, Q-10).
use Rattle.std.specs.Prelude.{ℕ, List, [], ◌∷◌, length}
use Rattle.refusals.specs.Rules.{Condition, always, never, same, at_most, within, both, either}
use Rattle.refusals.specs.Numbers.{out_of_range, no_payout}
use Rattle.payout.specs.Counts.{Makes, Chosen, None}
use Rattle.payout.specs.declared.NoPlan.{NoPlan}
use Rattle.payout.specs.declared.NoPlan.TheVariants.{Range, NoPayout}
use Rattle.payout.specs.Planned.{Plan}
use Rattle.payout.specs.Planned.{Two, Four, Refused}

-- "a note value of 1 to 1,000,000 and a stock of 0 to 2,000"
abbrev pub fits : ℕ → ℕ → Condition
fits value stock = both (within 1 1000000 value) (at_most stock 2000)

-- each cassette has both
unfoldable pub cassettes_fit : List ℕ → List ℕ → Condition
cassettes_fit [] [] = always
cassettes_fit [] (s ∷ ss) = never
cassettes_fit (v ∷ vs) [] = never
cassettes_fit (v ∷ vs) (s ∷ ss) = both (fits v s) (cassettes_fit vs ss)

-- "For two or four cassettes"
abbrev pub two_or_four : ℕ → Condition
two_or_four n = either (same n 2) (same n 4)

-- every input is in its range: "an amount up to 10,000,000", and a stock for each note value
unfoldable pub in_range : List ℕ → List ℕ → ℕ → Condition
in_range values stocks amount =
    both (at_most amount 10000000) (both (same (length values) (length stocks)) (both (two_or_four (length values)) (cassettes_fit values stocks)))

-- "An input out of range is number 2 .. the new number 8, 'no such payout'"
abbrev pub no_plan_number : NoPlan → ℕ
no_plan_number Range = out_of_range
no_plan_number NoPayout = no_payout

-- the answer is right: the counts that it gives are those to be taken; 2 where an input is out of range; 8 where no allowed counts make the amount
unfoldable pub Right : List ℕ → List ℕ → ℕ → Plan → Type 0
Right values stocks amount (Two a b) = (in_range values stocks amount).holds × Chosen (Makes values stocks amount) (a ∷ b ∷ [])
Right values stocks amount (Four a b c d) = (in_range values stocks amount).holds × Chosen (Makes values stocks amount) (a ∷ b ∷ c ∷ d ∷ [])
Right values stocks amount (Refused Range) = (in_range values stocks amount).holds → ⊥
Right values stocks amount (Refused NoPayout) = (in_range values stocks amount).holds × None (Makes values stocks amount)
