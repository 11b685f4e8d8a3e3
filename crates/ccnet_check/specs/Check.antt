-- The check of CCNET (01, "CCNET frames": "The check is 003's (its Pascal listing ..): start 0, polynomial 8408h, low bit first, over
-- everything before it").
use Rattle.std.specs.Prelude.{ℕ, zero, suc, ◌/◌, ◌%◌, List, [], ◌∷◌}
use Rattle.std.specs.Int.Bits.{bit_xor}

-- what is left once the low bit has fallen out: with the polynomial where that bit was 1
abbrev pub fed : ℕ → ℕ → ℕ
fed zero rest = rest
fed (suc bit) rest = bit_xor rest 0x8408

-- one turn
unfoldable pub turn : ℕ → ℕ
turn c = fed (c % 2) (c / 2)

unfoldable pub turns : ℕ → ℕ → ℕ
turns zero c = c
turns (suc n) c = turns n (turn c)

-- eight turns for each byte, which comes in at the low end
unfoldable pub check_from : ℕ → List ℕ → ℕ
check_from c [] = c
check_from c (b ∷ s) = check_from (turns 8 (bit_xor c b)) s

unfoldable pub check : List ℕ → ℕ
check s = check_from 0 s
