-- The check sees every burst of 16 bits. The bytes of a list, the first lowest, are one number; the check is that number's turns, so it is linear; and a difference of
-- 16 successive bits that turns to 0 is 0. Assumes nothing.
use mathlib.Core.Path.{◌≡◌, refl, sym, ap, ap₂, ◌∙◌, subst}
use mathlib.Core.List.{List, [], ◌∷◌, ◌++◌, append_assoc}
use Prim.Native.Nat.{ℕ, zero, suc, ◌+◌, ◌-◌, ◌*◌, ◌/◌, ◌%◌, ◌^◌, ◌≤◌, ◌<◌, zero-le, suc-le-suc}
use native.Mathlib.Nat.{mul-suc, add_comm, div-add-mod', pow-suc, zero-lt-suc, mul_assoc, div-lt_iff_lt-mul}
use native.Mathlib.Omega.{arith}
use lib.Dec.{lit<}
use lib.Arith.{digits_div, digits_mod, digits_lt, bin_ind}
use lib.ListN.{length, get_or, take}
use lib.Seq.{take-suc, take_all}
use lib.Bits.{bit_xor, differ, xor_shifted, xor_comm, xor_zero_r, xor_self, xor_step}
use Rattle.numbers.specs.Promises.{AllBytes}
use Rattle.numbers.proofs.Xor.{bit-lt, xor_assoc, xor-cancel, xor-eq, xor-half, xor-odd}
use Rattle.ccnet_check.specs.Check.{fed, turn, turns, check_from, check}
use Rattle.ccnet_frame.specs.Frame.{is_sized, judge_frame}
use Rattle.ccnet_frame.specs.Noise.{low_bits, bits, Within16, RightCheck, BurstSeen}
use Rattle.ccnet_check.proofs.Checks.{check-append}
use Rattle.ccnet_check.proofs.Turns.{turns-xor, turns-shift, turns-add, turns-zero, turns-kernel}
use Rattle.ccnet_frame.proofs.Frames.{passed}

-- the bytes as one number, the first byte lowest
unfoldable value : List ℕ → ℕ
value [] = 0
value (b ∷ s) = value s * 256 + b

check-value : (s : List ℕ) (c : ℕ) → AllBytes s → check_from c s ≡ turns (8 * length s) (bit_xor c (value s))
unfolding check_from value turns
check-value [] c h = sym (xor_zero_r c)
check-value (b ∷ s) c h =
    let hb : b < 2 ^ 8 = h 0 in
    check-value s (turns 8 (bit_xor c b)) (λ k. h (suc k))
    ∙ ap (turns (8 * length s))
    (ap (bit_xor (turns 8 (bit_xor c b))) (sym (turns-shift 8 (value s)))
    ∙ sym (turns-xor 8 (bit_xor c b) (value s * 2 ^ 8))
    ∙ ap (turns 8) (xor_assoc c b (value s * 2 ^ 8) ∙ ap (bit_xor c) (xor_comm b (value s * 2 ^ 8) ∙ xor_shifted (value s) 8 b hb)))
    ∙ sym (turns-add 8 (8 * length s) (bit_xor c (value s * 256 + b)))
    ∙ ap (λ (n : ℕ). turns n (bit_xor c (value s * 256 + b))) (add_comm 8 (8 * length s) ∙ sym (mul-suc 8 (length s)))

differ_self : (x : ℕ) → differ x x ≡ 0
differ_self zero = refl
differ_self (suc x) = differ_self x

half_lt_pow : {a : ℕ} (k : ℕ) → a < 2 ^ suc k → a / 2 < 2 ^ k
half_lt_pow {a} k h = (div-lt_iff_lt-mul (zero-lt-suc 1)).1 (subst (λ (x : ℕ). a < x) (pow-suc 2 k) h)

-- ---- two numbers by their bits

unfoldable nth : ℕ → ℕ → ℕ
nth n zero = n % 2
nth n (suc k) = nth (n / 2) k

halves : (a b : ℕ) → a / 2 ≡ b / 2 → a % 2 ≡ b % 2 → a ≡ b
halves a b p q = sym (div-add-mod' a 2) ∙ ap₂ (λ (x y : ℕ). x * 2 + y) p q ∙ div-add-mod' b 2

none : (b : ℕ) → ((k : ℕ) → nth 0 k ≡ nth b k) → 0 ≡ b
unfolding nth
none = bin_ind (λ (b : ℕ). ((k : ℕ) → nth 0 k ≡ nth b k) → 0 ≡ b) (λ h. refl) (λ b ih h. halves 0 b (ih (λ k. h (suc k))) (h 0))

same : (a b : ℕ) → ((k : ℕ) → nth a k ≡ nth b k) → a ≡ b
unfolding nth
same =
    bin_ind (λ (a : ℕ). (b : ℕ) → ((k : ℕ) → nth a k ≡ nth b k) → a ≡ b) none
    (λ a ih b h. halves a b (ih (b / 2) (λ k. h (suc k))) (h 0))

-- the same bits from m on: the difference has m bits
high : (m a b : ℕ) → ((k : ℕ) → m ≤ k → nth a k ≡ nth b k) → bit_xor a b < 2 ^ m
unfolding nth
high zero a b h = subst (λ (x : ℕ). bit_xor a x < 1) (same a b (λ k. h k zero-le)) (subst (λ (x : ℕ). x < 1) (sym (xor_self a)) (lit< tt))
high (suc m) a b h =
    subst (λ (x : ℕ). bit_xor a b < x) (sym (pow-suc 2 m))
    (subst (λ (x : ℕ). x < 2 ^ m * 2) (sym (xor_step a b))
    (digits_lt (high m (a / 2) (b / 2) (λ k l. h (suc k) (suc-le-suc l))) (subst (λ (x : ℕ). x < 2) (xor-odd a b) (bit-lt (bit_xor a b)))))

-- a difference that starts at bit p and has 16 bits, and turns to 0, is none
alike : (p n a b : ℕ) → ((k : ℕ) → k < p → nth a k ≡ nth b k) → ((k : ℕ) → p + 16 ≤ k → nth a k ≡ nth b k)
    → turns n (bit_xor a b) ≡ 0 → a ≡ b
unfolding nth turns turn
alike zero n a b lo hi e = xor-eq a b (turns-kernel n (bit_xor a b) (high 16 a b (λ k l. hi k (omega arith))) e)
alike (suc p) zero a b lo hi e = xor-eq a b e
alike (suc p) (suc n) a b lo hi e =
    let q : a % 2 ≡ b % 2 = lo 0 (zero-lt-suc p) in
    let z : bit_xor a b % 2 ≡ 0 = xor-odd a b ∙ ap (λ (x : ℕ). differ x (b % 2)) q ∙ differ_self (b % 2) in
    halves a b
    (alike p n (a / 2) (b / 2) (λ k l. lo (suc k) (suc-le-suc l)) (λ k l. hi (suc k) (omega arith))
    (ap (turns n) (sym (ap₂ fed z (xor-half a b))) ∙ e))
    q

-- ---- lists of bits and bytes as numbers

bvalue : List ℕ → ℕ
bvalue [] = 0
bvalue (x ∷ l) = bvalue l * 2 + x

bvalue-low : (n b : ℕ) (l : List ℕ) → b < 2 ^ n → bvalue (low_bits n b ++ l) ≡ bvalue l * 2 ^ n + b
unfolding bvalue low_bits
bvalue-low zero b l h = omega (arith, h)
bvalue-low (suc n) b l h =
    ap (λ (x : ℕ). x * 2 + b % 2) (bvalue-low n (b / 2) l (half_lt_pow n h))
    ∙ omega (arith, div-add-mod' b 2, pow-suc 2 n, mul_assoc (bvalue l) (2 ^ n) 2, ap (λ (x : ℕ). bvalue l * x) (pow-suc 2 n))

bvalue-bits : (s : List ℕ) → AllBytes s → bvalue (bits s) ≡ value s
unfolding bvalue bits value
bvalue-bits [] h = refl
bvalue-bits (b ∷ s) h = bvalue-low 8 b (bits s) (h 0) ∙ ap (λ (x : ℕ). x * 256 + b) (bvalue-bits s (λ k. h (suc k)))

low_bit : (n b : ℕ) (l : List ℕ) → ((k : ℕ) → get_or l k 0 < 2) → (k : ℕ) → get_or (low_bits n b ++ l) k 0 < 2
unfolding low_bits
low_bit zero b l h k = h k
low_bit (suc n) b l h zero = bit-lt b
low_bit (suc n) b l h (suc k) = low_bit n (b / 2) l h k

bits-lt : (s : List ℕ) (k : ℕ) → get_or (bits s) k 0 < 2
unfolding bits
bits-lt [] k = lit< tt
bits-lt (b ∷ s) k = low_bit 8 b (bits s) (bits-lt s) k

nth-zero : (k : ℕ) → nth 0 k ≡ 0
unfolding nth
nth-zero zero = refl
nth-zero (suc k) = nth-zero k

nth-list : (l : List ℕ) → ((k : ℕ) → get_or l k 0 < 2) → (k : ℕ) → get_or l k 0 ≡ nth (bvalue l) k
unfolding nth bvalue
nth-list [] h k = sym (nth-zero k)
nth-list (x ∷ l) h zero = sym (digits_mod (bvalue l) (h 0))
nth-list (x ∷ l) h (suc k) = nth-list l (λ k. h (suc k)) k ∙ ap (λ (n : ℕ). nth n k) (sym (digits_div (bvalue l) (h 0)))

-- bit k in sending order is bit k of the number
nth-bits : (s : List ℕ) → AllBytes s → (k : ℕ) → get_or (bits s) k 0 ≡ nth (value s) k
nth-bits s h k = nth-list (bits s) (bits-lt s) k ∙ ap (λ (n : ℕ). nth n k) (bvalue-bits s h)

value_inj : (f g : List ℕ) → AllBytes f → AllBytes g → length f ≡ length g → value f ≡ value g → f ≡ g
unfolding value
value_inj [] [] hf hg l e = refl
value_inj [] (y ∷ g) hf hg l e = absurd (omega (arith, l))
value_inj (x ∷ f) [] hf hg l e = absurd (omega (arith, l))
value_inj (x ∷ f) (y ∷ g) hf hg l e =
    ap₂ ◌∷◌
    (sym (digits_mod (value f) (hf 0)) ∙ ap (λ (n : ℕ). n % 256) e ∙ digits_mod (value g) (hg 0))
    (value_inj f g (λ k. hf (suc k)) (λ k. hg (suc k)) (omega (arith, l))
    (sym (digits_div (value f) (hf 0)) ∙ ap (λ (n : ℕ). n / 256) e ∙ digits_div (value g) (hg 0)))

-- ---- a frame with its check behind it leaves 0

residue : (s : List ℕ) (lo hi : ℕ) → lo < 256 → check_from 0 s ≡ hi * 256 + lo → check_from 0 (s ++ (lo ∷ hi ∷ [])) ≡ 0
unfolding check_from
residue s lo hi h e =
    check-append 0 s (lo ∷ hi ∷ [])
    ∙ ap (λ (c : ℕ). turns 8 (bit_xor (turns 8 (bit_xor c lo)) hi)) (e ∙ sym (xor_shifted hi 8 lo h))
    ∙ ap (λ (c : ℕ). turns 8 (bit_xor (turns 8 c) hi)) (xor-cancel (hi * 2 ^ 8) lo)
    ∙ ap (λ (c : ℕ). turns 8 (bit_xor c hi)) (turns-shift 8 hi)
    ∙ ap (turns 8) (xor_self hi)
    ∙ turns-zero 8

-- so do bytes that end with their check
right_zero : (s : List ℕ) → AllBytes s → 2 ≤ length s → RightCheck s → check_from 0 s ≡ 0
unfolding check
right_zero s h l e =
    let n = length s - 2 in
    let m : length s - 1 ≡ suc n = omega (arith, l) in
    let one : take (suc n) s ≡ take n s ++ (get_or s n 0 ∷ []) = take-suc s n 0 (omega (arith, l)) in
    let two : take (suc (suc n)) s ≡ take (suc n) s ++ (get_or s (suc n) 0 ∷ []) = take-suc s (suc n) 0 (omega (arith, l)) in
    let whole : take n s ++ (get_or s n 0 ∷ get_or s (suc n) 0 ∷ []) ≡ s
    = sym (append_assoc (take n s) (get_or s n 0 ∷ []) (get_or s (suc n) 0 ∷ [])) ∙ ap (λ (x : List ℕ). x ++ (get_or s (suc n) 0 ∷ [])) (sym one) ∙ sym two ∙ take_all (suc (suc n)) s (omega (arith, l)) in
    let summed : check_from 0 (take n s) ≡ get_or s (suc n) 0 * 256 + get_or s n 0 = e ∙ ap (λ (k : ℕ). get_or s n 0 + 256 * get_or s k 0) m ∙ omega arith in
    ap (check_from 0) (sym whole) ∙ residue (take n s) (get_or s n 0) (get_or s (suc n) 0) (h n) summed

-- ---- the theorem

burst : (f g : List ℕ) (p : ℕ) → AllBytes f → AllBytes g → length f ≡ length g → check_from 0 f ≡ 0 → check_from 0 g ≡ 0 → Within16 p f g → f ≡ g
burst f g p hf hg l ef eg w =
    value_inj f g hf hg l
    (alike p (8 * length f) (value f) (value g)
    (λ k h. sym (nth-bits f hf k) ∙ w.before k h ∙ nth-bits g hg k)
    (λ k h. sym (nth-bits f hf k) ∙ w.after k h ∙ nth-bits g hg k)
    (turns-xor (8 * length f) (value f) (value g)
    ∙ ap₂ bit_xor (sym (check-value f 0 hf) ∙ ef) (ap (λ (n : ℕ). turns (8 * n) (value g)) l ∙ sym (check-value g 0 hg) ∙ eg)))

any_seen : (f g : List ℕ) (p : ℕ) → AllBytes f → AllBytes g → length f ≡ length g → 2 ≤ length f → RightCheck f → RightCheck g → Within16 p f g → f ≡ g
any_seen f g p hf hg l n rf rg w = burst f g p hf hg l (right_zero f hf n rf) (right_zero g hg (omega (arith, l, n)) rg) w

pub burst-seen : BurstSeen
unfolding judge_frame
burst-seen =
    record {
      any = any_seen;
      frames = λ f g a b p hf hg ef eg l w.
          let x = passed (is_sized f) f a ef in
          let y = passed (is_sized g) g b eg in
          any_seen f g p hf hg l (omega (arith, x.long)) x.checked y.checked w;
    }
