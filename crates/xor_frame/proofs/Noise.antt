-- Two byte lists with a right check that agree but for one place agree there too: the check of all the bytes is 0 for both, and what is alike cancels. Assumes nothing.
use Prim.Native.Nat.{ℕ, zero, suc, ◌-◌}
use mathlib.Core.Path.{◌≡◌, refl, sym, ap, ap₂, ◌∙◌}
use mathlib.Core.List.{List, [], ◌∷◌, ◌++◌}
use native.Mathlib.Omega.{arith}
use lib.Bits.{bit_xor, xor_comm, xor_self, xor_zero_r}
use lib.ListN.{length, get_or, take}
use lib.Seq.{ext_get_or, take-suc, take_all}
use Rattle.refusals.specs.Rules.{same}
use Rattle.refusals.proofs.Rules.{certain}
use Rattle.numbers.proofs.Xor.{xor_assoc, xor-right}
use Rattle.xor_frame.specs.Frame.{check_from, check, faults}
use Rattle.xor_frame.specs.Noise.{RightCheck, DifferAt, OneByteSeen}

-- the exclusive or of all
all : List ℕ → ℕ
all [] = 0
all (b ∷ s) = bit_xor b (all s)

check-all : (a : ℕ) (s : List ℕ) → check_from a s ≡ bit_xor a (all s)
unfolding check_from all
check-all a [] = sym (xor_zero_r a)
check-all a (b ∷ s) = check-all (bit_xor a b) s ∙ xor_assoc a b (all s)

check-last : (a b : ℕ) (s : List ℕ) → check_from a (s ++ (b ∷ [])) ≡ bit_xor (check_from a s) b
unfolding check_from
check-last a b [] = refl
check-last a b (x ∷ s) = check-last (bit_xor a x) b s

-- with its check behind it, nothing is left
right_zero : (s : List ℕ) (n : ℕ) → length s ≡ suc n → RightCheck s → check_from 0 s ≡ 0
unfolding check
right_zero s n l e =
    let m : length s - 1 ≡ n = omega (arith, l) in
    let whole : take n s ++ (get_or s n 0 ∷ []) ≡ s = sym (take-suc s n 0 (omega (arith, l))) ∙ take_all (suc n) s (omega (arith, l)) in
    let same_check : check_from 0 (take n s) ≡ get_or s n 0 = ap (λ (k : ℕ). check_from 0 (take k s)) (sym m) ∙ e ∙ ap (λ (k : ℕ). get_or s k 0) m in
    ap (check_from 0) (sym whole) ∙ check-last 0 (get_or s n 0) (take n s) ∙ ap (λ (x : ℕ). bit_xor x (get_or s n 0)) same_check ∙ xor_self (get_or s n 0)

alike : (f g : List ℕ) (i : ℕ) → length f ≡ length g → ((k : ℕ) → (k ≡ i → ⊥) → get_or f k 0 ≡ get_or g k 0) → all f ≡ all g → f ≡ g
unfolding all
alike [] [] i l h e = refl
alike [] (y ∷ g) i l h e = absurd (omega (arith, l))
alike (x ∷ f) [] i l h e = absurd (omega (arith, l))
alike (x ∷ f) (y ∷ g) zero l h e =
    let t : f ≡ g = ext_get_or 0 f g (omega (arith, l)) (λ k q. h (suc k) (λ z. omega arith)) in
    ap₂ ◌∷◌ (xor-right x y (all g) (ap (λ (s : List ℕ). bit_xor x (all s)) (sym t) ∙ e)) t
alike (x ∷ f) (y ∷ g) (suc i) l h e =
    let p : x ≡ y = h 0 (λ z. omega arith) in
    ap₂ ◌∷◌ p
    (alike f g i (omega (arith, l)) (λ k n. h (suc k) (λ z. n (omega arith)))
    (xor-right (all f) (all g) y (xor_comm (all f) y ∙ ap (λ (z : ℕ). bit_xor z (all f)) (sym p) ∙ e ∙ xor_comm y (all g))))

zero-all : (s : List ℕ) → check_from 0 s ≡ 0 → all s ≡ 0
zero-all s e = sym (xor_zero_r (all s)) ∙ xor_comm (all s) 0 ∙ sym (check-all 0 s) ∙ e

one_seen : (f g : List ℕ) (i : ℕ) → length f ≡ length g → RightCheck f → RightCheck g → DifferAt i f g → ⊥
one_seen [] [] i l p q d = d.here refl
one_seen [] (y ∷ g) i l p q d = omega (arith, l)
one_seen (x ∷ f) [] i l p q d = omega (arith, l)
one_seen (x ∷ f) (y ∷ g) i l p q d =
    let a = zero-all (x ∷ f) (right_zero (x ∷ f) (length f) refl p) in
    let b = zero-all (y ∷ g) (right_zero (y ∷ g) (length g) refl q) in
    d.here (ap (λ (s : List ℕ). get_or s i 0) (alike (x ∷ f) (y ∷ g) i l d.elsewhere (a ∙ sym b)))

pub one-byte-seen : OneByteSeen
unfolding faults
one-byte-seen =
    record {
      any = one_seen;
      frames = λ first id known fields first' id' known' fields' f g i a b l.
          one_seen f g i l
          (certain (same (check (take (length f - 1) f)) (get_or f (length f - 1) 0)) a.1.1.1.1.1.0)
          (certain (same (check (take (length g - 1) g)) (get_or g (length g - 1) 0)) b.1.1.1.1.1.0);
    }
