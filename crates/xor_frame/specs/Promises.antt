-- What is promised of frames of any dispenser: the statement, proved in proofs/Reading.antt.
use Rattle.std.specs.Prelude.{ℕ, ◌≡◌, List, [], ◌∷◌}
use Rattle.refusals.specs.Rules.{Condition, numbered}
use Rattle.xor_frame.specs.Layout.{Field}
use Rattle.xor_frame.specs.Frame.{fault_number, faults}

-- 01's numbers in its order: "under 6 bytes, 11; opening, 12; code, 13; length for that code, 11; 14; 15; 16"
abbrev pub InOrder : Type 1
InOrder = (first id : ℕ) (known : ℕ → Condition) (fields : ℕ → List Field) (s : List ℕ)
    → numbered fault_number (faults first id known fields s) ≡ 11 ∷ 12 ∷ 13 ∷ 11 ∷ 14 ∷ 15 ∷ 16 ∷ []
