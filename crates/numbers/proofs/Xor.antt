-- Laws of the exclusive or, by halving: the lowest bit and the rest, association, what cancels. Assumes nothing.
use mathlib.Core.Path.{◌≡◌, refl, sym, ap, ap₂, ◌∙◌}
use Prim.Native.Nat.{ℕ, zero, suc, ◌+◌, ◌*◌, ◌/◌, ◌%◌, ◌<◌, zero-le, suc-le-suc}
use native.Mathlib.Nat.{mod-lt, zero-lt-suc, le_of_suc-le-suc, not-suc-le-zero}
use lib.Arith.{bin_ind, digits_mod}
use lib.Bits.{bit_xor, differ, xor_step, xor_shr, xor_comm, xor_self, xor_zero_r}

-- a number below 2 is 0 or 1
pub two : (P : ℕ → Type 0) → P 0 → P 1 → (x : ℕ) → x < 2 → P x
two P p q zero h = p
two P p q (suc zero) h = q
two P p q (suc (suc x)) h = absurd (not-suc-le-zero (le_of_suc-le-suc (le_of_suc-le-suc h)))

pub bit-lt : (n : ℕ) → n % 2 < 2
bit-lt n = mod-lt n (zero-lt-suc 1)

differ-lt : (x y : ℕ) → x < 2 → y < 2 → differ x y < 2
differ-lt x y hx hy =
    two (λ (x : ℕ). differ x y < 2) hy
    (two (λ (y : ℕ). differ 1 y < 2) (suc-le-suc (suc-le-suc zero-le)) (suc-le-suc zero-le) y hy) x hx

differ-assoc : (x y z : ℕ) → x < 2 → y < 2 → z < 2 → differ (differ x y) z ≡ differ x (differ y z)
differ-assoc x y z hx hy hz =
    two (λ (x : ℕ). differ (differ x y) z ≡ differ x (differ y z)) refl
    (two (λ (y : ℕ). differ (differ 1 y) z ≡ differ 1 (differ y z)) refl
    (two (λ (z : ℕ). differ (differ 1 1) z ≡ differ 1 (differ 1 z)) refl refl z hz) y hy) x hx

pub xor-half : (a b : ℕ) → bit_xor a b / 2 ≡ bit_xor (a / 2) (b / 2)
xor-half a b = xor_shr a b 1

pub xor-odd : (a b : ℕ) → bit_xor a b % 2 ≡ differ (a % 2) (b % 2)
xor-odd a b =
    ap (λ (x : ℕ). x % 2) (xor_step a b) ∙ digits_mod (bit_xor (a / 2) (b / 2)) (differ-lt (a % 2) (b % 2) (bit-lt a) (bit-lt b))

pub xor_assoc : (a b c : ℕ) → bit_xor (bit_xor a b) c ≡ bit_xor a (bit_xor b c)
xor_assoc a =
    bin_ind (λ (n : ℕ). (b c : ℕ) → bit_xor (bit_xor n b) c ≡ bit_xor n (bit_xor b c)) (λ b c. refl)
    (λ n ih b c.
    xor_step (bit_xor n b) c
    ∙ ap₂ (λ (x y : ℕ). x * 2 + y)
    (ap (λ (x : ℕ). bit_xor x (c / 2)) (xor-half n b) ∙ ih (b / 2) (c / 2) ∙ ap (bit_xor (n / 2)) (sym (xor-half b c)))
    (ap (λ (x : ℕ). differ x (c % 2)) (xor-odd n b) ∙ differ-assoc (n % 2) (b % 2) (c % 2) (bit-lt n) (bit-lt b) (bit-lt c)
    ∙ ap (differ (n % 2)) (sym (xor-odd b c)))
    ∙ sym (xor_step n (bit_xor b c))) a

-- two pairs, joined crosswise
pub xor-pairs : (a b c d : ℕ) → bit_xor (bit_xor a b) (bit_xor c d) ≡ bit_xor (bit_xor a c) (bit_xor b d)
xor-pairs a b c d =
    xor_assoc a b (bit_xor c d)
    ∙ ap (bit_xor a) (sym (xor_assoc b c d) ∙ ap (λ (x : ℕ). bit_xor x d) (xor_comm b c) ∙ xor_assoc c b d)
    ∙ sym (xor_assoc a c (bit_xor b d))

-- what is added twice is gone
pub xor-cancel : (a b : ℕ) → bit_xor (bit_xor a b) b ≡ a
xor-cancel a b = xor_assoc a b b ∙ ap (bit_xor a) (xor_self b) ∙ xor_zero_r a

pub xor-eq : (a b : ℕ) → bit_xor a b ≡ 0 → a ≡ b
xor-eq a b e = sym (xor-cancel a b) ∙ ap (λ (x : ℕ). bit_xor x b) e

pub xor-right : (a b t : ℕ) → bit_xor a t ≡ bit_xor b t → a ≡ b
xor-right a b t e = sym (xor-cancel a t) ∙ ap (λ (x : ℕ). bit_xor x t) e ∙ xor-cancel b t
