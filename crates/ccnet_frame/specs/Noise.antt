-- How much noise the check of CCNET can see (02, Q-13). Proved in proofs/Noise.antt.
use Rattle.std.specs.Prelude.{ℕ, zero, suc, ◌+◌, ◌-◌, ◌*◌, ◌/◌, ◌%◌, ◌≤◌, ◌<◌, ◌≡◌, List, [], ◌∷◌, ◌++◌, length, get_or, take}
use Rattle.numbers.specs.Promises.{AllBytes}
use Rattle.ccnet_check.specs.Check.{check}
use Rattle.ccnet_frame.specs.Frame.{judge_frame}
use Rattle.ccnet_frame.specs.Judged.{Good}

-- the n low bits of a byte, bit 0 first
unfoldable pub low_bits : ℕ → ℕ → List ℕ
low_bits zero b = []
low_bits (suc n) b = b % 2 ∷ low_bits n (b / 2)

-- the bits of bytes "in sending order (bit 0 of each byte first)": bit 8·i + j is bit j of byte i
unfoldable pub bits : List ℕ → List ℕ
bits [] = []
bits (b ∷ s) = low_bits 8 b ++ bits s

-- the differences of f and g "lie within 16 successive bits", from bit p on: every bit outside agrees
pub record Within16 (p : ℕ) (f g : List ℕ) : Type 0 where
  pub before : (k : ℕ) → k < p → get_or (bits f) k 0 ≡ get_or (bits g) k 0
  pub after : (k : ℕ) → p + 16 ≤ k → get_or (bits f) k 0 ≡ get_or (bits g) k 0

-- the last two bytes are the check of those before them, low byte first
abbrev pub RightCheck : List ℕ → Type 0
RightCheck s = check (take (length s - 2) s) ≡ get_or s (length s - 2) 0 + 256 * get_or s (length s - 1) 0

-- "Two CCNET frames of equal length, both with a right check, whose differences lie within 16 successive bits in sending order .., are the same frame."
pub record BurstSeen : Type 0 where
  -- of any length from the two check bytes on
  pub any : (f g : List ℕ) (p : ℕ) → AllBytes f → AllBytes g → length f ≡ length g → 2 ≤ length f → RightCheck f → RightCheck g → Within16 p f g → f ≡ g
  -- so any two frames that the reader takes
  pub frames : (f g : List ℕ) (a b p : ℕ) → AllBytes f → AllBytes g → judge_frame f ≡ Good a → judge_frame g ≡ Good b → length f ≡ length g → Within16 p f g
      → f ≡ g
