-- `ccnet_check::with_byte` meets its contract: the shifts are eight turns at once. Assumes nothing.
use mathlib.Core.Path.{◌≡◌, sym, ap₂, ◌∙◌}
use Prim.Native.Nat.{ℕ, ◌*◌, ◌/◌, ◌%◌, ◌<◌}
use native.Mathlib.Nat.{mod-lt, mod-eq_of_lt}
use lib.Dec.{lit<}
use lib.Bits.{bit_xor}
use Rattle.ccnet_check.proofs.WholeByte.{shifted, turns-byte, spread-within}
use native.Mathlib.Omega.{arith}
use Rattle.ccnet_check.proofs.with_byte.Goals as goal

-- shifted within 16 bits, a number below 256 loses nothing
within-16 : (h s : ℕ) → s < 256 → bit_xor h (bit_xor (bit_xor (s * 256 % 65536) (s * 8 % 65536)) (s / 16)) ≡ bit_xor h (bit_xor (bit_xor (s * 256) (s * 8)) (s / 16))
within-16 h s l =
    let e : s * 256 % 65536 ≡ s * 256 = mod-eq_of_lt (omega arith) in
    let f : s * 8 % 65536 ≡ s * 8 = mod-eq_of_lt (omega arith) in
    ap₂ (λ (p q : ℕ). bit_xor h (bit_xor (bit_xor p q) (s / 16))) e f

pub returns : goal.returns
unfolding shifted
returns c =
    let x = bit_xor c.args.c c.args.b in
    within-16 (x / 256) (bit_xor x (x * 16 % 65536) % 256) (mod-lt _ (lit< tt)) ∙ rw (spread-within x) (sym (turns-byte x))
