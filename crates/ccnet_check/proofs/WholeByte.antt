-- Eight turns at once: of a number below 256 by one computed test of them all, and so of any number, since turns are linear. Assumes nothing.
use mathlib.Core.Path.{◌≡◌, sym, ap, ap₂, ◌∙◌}
use mathlib.Core.Bool.{Bool}
use Prim.Native.Nat.{ℕ, ◌*◌, ◌/◌, ◌%◌, ◌^◌, ◌<◌}
use native.Mathlib.Nat.{mod-lt}
use native.Mathlib.Omega.{arith}
use lib.Dec.{T, eqb, eqb→eq, lit<}
use lib.Pow.{split}
use lib.Bits.{bit_xor, xor_shifted, xor_mod}
use Rattle.ccnet_check.specs.Check.{turn, turns}
use Rattle.ccnet_check.proofs.Turns.{turns-xor, turns-shift}
use Rattle.numbers.proofs.Below.{both, below, at}

-- a byte with its low half added to its high half
unfoldable pub spread : ℕ → ℕ
spread x = bit_xor x (x * 16 % 256)

-- what eight turns leave of a number below 256
unfoldable pub shifted : ℕ → ℕ
shifted x = bit_xor (bit_xor (spread x * 256) (spread x * 8)) (spread x / 16)

right : ℕ → Bool
unfolding turns turn shifted spread
right x = eqb (turns 8 x) (shifted x)

every : T (below right 256)
unfolding below right both turns turn shifted spread
every = tt

turns-low : (x : ℕ) → x < 256 → turns 8 x ≡ shifted x
unfolding right
turns-low x h = eqb→eq (turns 8 x) (shifted x) (at right 256 every x h)

-- eight turns of any number: its high bytes move down, and its low byte leaves what it leaves alone
pub turns-byte : (x : ℕ) → turns 8 x ≡ bit_xor (x / 256) (shifted (x % 256))
turns-byte x =
    let l : x % 2 ^ 8 < 2 ^ 8 = mod-lt x (lit< tt) in
    ap (turns 8) (sym (split x 8) ∙ sym (xor_shifted (x / 2 ^ 8) 8 (x % 2 ^ 8) l))
    ∙ turns-xor 8 (x / 2 ^ 8 * 2 ^ 8) (x % 2 ^ 8)
    ∙ ap₂ bit_xor (turns-shift 8 (x / 2 ^ 8)) (turns-low (x % 2 ^ 8) l)

-- the low byte, spread within 16 bits
pub spread-within : (x : ℕ) → bit_xor x (x * 16 % 65536) % 256 ≡ spread (x % 256)
unfolding spread
spread-within x =
    let e : x * 16 % 65536 % 256 ≡ x % 256 * 16 % 256 = omega arith in
    xor_mod x (x * 16 % 65536) 8 ∙ ap (bit_xor (x % 256)) e
