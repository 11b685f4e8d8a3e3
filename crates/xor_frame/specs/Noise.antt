-- How much noise the check of a dispenser frame can see (02, Q-13). Proved in proofs/Noise.antt.
use Rattle.std.specs.Prelude.{ℕ, ◌-◌, ◌≡◌, List, length, get_or, take}
use Rattle.refusals.specs.Rules.{Condition, NoneOf}
use Rattle.xor_frame.specs.Layout.{Field}
use Rattle.xor_frame.specs.Frame.{check, faults}

-- the last byte is the check of those before it
abbrev pub RightCheck : List ℕ → Type 0
RightCheck s = check (take (length s - 1) s) ≡ get_or s (length s - 1) 0

-- f and g differ in exactly one byte, the one at the place i: every other agrees
pub record DifferAt (i : ℕ) (f g : List ℕ) : Type 0 where
  pub here : get_or f i 0 ≡ get_or g i 0 → ⊥
  pub elsewhere : (k : ℕ) → (k ≡ i → ⊥) → get_or f k 0 ≡ get_or g k 0

-- "Two dispenser frames of equal length, both with a right check, never differ in exactly one byte."
pub record OneByteSeen : Type 1 where
  -- of any length
  pub any : (f g : List ℕ) (i : ℕ) → length f ≡ length g → RightCheck f → RightCheck g → DifferAt i f g → ⊥
  -- so any two frames that their readers take: commands and answers, of whatever model
  pub frames : (first id : ℕ) (known : ℕ → Condition) (fields : ℕ → List Field) (first' id' : ℕ) (known' : ℕ → Condition) (fields' : ℕ → List Field)
      (f g : List ℕ) (i : ℕ) → NoneOf (faults first id known fields f) → NoneOf (faults first' id' known' fields' g) → length f ≡ length g
      → DifferAt i f g → ⊥
