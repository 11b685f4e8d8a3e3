-- A turn of the check is linear, zeros below fall out, and on 16 bits nothing is lost; so it is of any number of turns. Assumes nothing.
use mathlib.Core.Path.{◌≡◌, refl, sym, ap, ap₂, ◌∙◌, subst}
use Prim.Native.Nat.{ℕ, zero, suc, ◌+◌, ◌*◌, ◌/◌, ◌%◌, ◌^◌, ◌<◌}
use native.Mathlib.Nat.{mul-mod_left, mul-div_cancel, zero-lt-suc, pow-suc, mul_assoc, div-le_self, lt_of_le_of_lt, suc-add, zero-add, div-add-mod'}
use native.Mathlib.Omega.{arith}
use lib.Bits.{bit_xor, differ, xor_zero_r, xor_lt}
use Rattle.ccnet_check.specs.Check.{fed, turn, turns}
use Rattle.numbers.proofs.Xor.{two, bit-lt, xor-half, xor-odd, xor-pairs, xor-eq}

fed-eq : (x h : ℕ) → x < 2 → fed x h ≡ bit_xor h (x * 0x8408)
fed-eq x h = two (λ (x : ℕ). fed x h ≡ bit_xor h (x * 0x8408)) (sym (xor_zero_r h)) refl x

turn-eq : (c : ℕ) → turn c ≡ bit_xor (c / 2) (c % 2 * 0x8408)
unfolding turn
turn-eq c = fed-eq (c % 2) (c / 2) (bit-lt c)

fed-xor : (x y : ℕ) → x < 2 → y < 2 → differ x y * 0x8408 ≡ bit_xor (x * 0x8408) (y * 0x8408)
fed-xor x y hx hy =
    two (λ (x : ℕ). differ x y * 0x8408 ≡ bit_xor (x * 0x8408) (y * 0x8408)) refl
    (two (λ (y : ℕ). differ 1 y * 0x8408 ≡ bit_xor (1 * 0x8408) (y * 0x8408)) refl refl y hy) x hx

turn-xor : (a b : ℕ) → turn (bit_xor a b) ≡ bit_xor (turn a) (turn b)
turn-xor a b =
    turn-eq (bit_xor a b)
    ∙ ap₂ (λ (x y : ℕ). bit_xor x (y * 0x8408)) (xor-half a b) (xor-odd a b)
    ∙ ap (bit_xor (bit_xor (a / 2) (b / 2))) (fed-xor (a % 2) (b % 2) (bit-lt a) (bit-lt b))
    ∙ xor-pairs (a / 2) (b / 2) (a % 2 * 0x8408) (b % 2 * 0x8408)
    ∙ sym (ap₂ bit_xor (turn-eq a) (turn-eq b))

pub turns-xor : (n a b : ℕ) → turns n (bit_xor a b) ≡ bit_xor (turns n a) (turns n b)
unfolding turns
turns-xor zero a b = refl
turns-xor (suc n) a b = ap (turns n) (turn-xor a b) ∙ turns-xor n (turn a) (turn b)

turn_even : (x : ℕ) → turn (x * 2) ≡ x
unfolding turn
turn_even x = ap₂ fed (mul-mod_left x 2) (mul-div_cancel x (zero-lt-suc 1))

pub turns-shift : (k x : ℕ) → turns k (x * 2 ^ k) ≡ x
unfolding turns
turns-shift zero x = omega arith
turns-shift (suc k) x =
    ap (λ (y : ℕ). turns k (turn y)) (ap (λ (y : ℕ). x * y) (pow-suc 2 k) ∙ sym (mul_assoc x (2 ^ k) 2))
    ∙ ap (turns k) (turn_even (x * 2 ^ k)) ∙ turns-shift k x

pub turns-zero : (n : ℕ) → turns n 0 ≡ 0
unfolding turns turn
turns-zero zero = refl
turns-zero (suc n) = turns-zero n

pub turns-add : (m n c : ℕ) → turns (m + n) c ≡ turns n (turns m c)
unfolding turns
turns-add zero n c = ap (λ (k : ℕ). turns k c) (zero-add n)
turns-add (suc m) n c = ap (λ (k : ℕ). turns k c) (suc-add m n) ∙ turns-add m n (turn c)

-- ---- 16 bits stay 16 bits, and only 0 turns to 0

turn-lt : (c : ℕ) → c < 2 ^ 16 → turn c < 2 ^ 16
turn-lt c h =
    subst (λ (x : ℕ). x < 2 ^ 16) (sym (turn-eq c))
    (xor_lt 16 (c / 2) (c % 2 * 0x8408) (lt_of_le_of_lt (div-le_self c 2) h) (omega (arith, bit-lt c)))

kernel : (x h : ℕ) → x < 2 → h * 2 + x < 2 ^ 16 → h ≡ x * 0x8408 → h * 2 + x ≡ 0
kernel x h hx =
    two (λ (x : ℕ). h * 2 + x < 2 ^ 16 → h ≡ x * 0x8408 → h * 2 + x ≡ 0) (λ l e. omega arith) (λ l e. omega arith) x hx

turn-kernel : (c : ℕ) → c < 2 ^ 16 → turn c ≡ 0 → c ≡ 0
turn-kernel c h e =
    sym (div-add-mod' c 2)
    ∙ kernel (c % 2) (c / 2) (bit-lt c) (subst (λ (x : ℕ). x < 2 ^ 16) (sym (div-add-mod' c 2)) h)
    (xor-eq (c / 2) (c % 2 * 0x8408) (sym (turn-eq c) ∙ e))

pub turns-kernel : (n c : ℕ) → c < 2 ^ 16 → turns n c ≡ 0 → c ≡ 0
unfolding turns
turns-kernel zero c h e = e
turns-kernel (suc n) c h e = turn-kernel c h (turns-kernel n (turn c) (turn-lt c h) e)
