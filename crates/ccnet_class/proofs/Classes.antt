-- Every body falls in one class, and a listed class is that of its bytes. Assumes nothing.
use Prim.Native.Nat.{ℕ}
use mathlib.Core.Path.{◌≡◌, refl, sym, ap, ◌∙◌, subst}
use mathlib.Core.Bool.{false, cond}
use mathlib.Core.List.{List, [], ◌∷◌}
use mathlib.Core.Logic.{◌⊎◌, inl, inr, ⊎_elim}
use native.Mathlib.Omega.{arith}
use lib.ListN.{length, get_or}
use borrow.Author.Tests.{ne_eqb}
use Rattle.refusals.specs.Rules.{Condition, same, both}
use Rattle.refusals.proofs.Rules.{by_cases, holds-true, fails-false, cond-true, cond-false}
use Rattle.ccnet_class.specs.Class.{is_state, is_rejection, is_failure, is_type, one_byte, two_bytes, class_of, class_bytes, is_named}
use Rattle.ccnet_class.specs.Promises.{Classes}
use Rattle.ccnet_class.specs.declared.Class.{Class}
use Rattle.ccnet_class.specs.declared.Class.TheVariants.{Ack, Nak, Illegal, State, Busy, Rejecting, Failing, Escrow, Stacked, Returned, Unknown, Table}

-- by how many bytes the body has
pub class-one : (s : List ℕ) → length s ≡ 1 → one_byte (get_or s 0 0) ≡ class_of s
unfolding class_of
class-one [] e = absurd (omega arith)
class-one (b ∷ []) e = refl
class-one (a ∷ b ∷ s) e = absurd (omega arith)

pub class-two : (s : List ℕ) → length s ≡ 2 → two_bytes (get_or s 0 0) (get_or s 1 0) ≡ class_of s
unfolding class_of
class-two [] e = absurd (omega arith)
class-two (b ∷ []) e = absurd (omega arith)
class-two (a ∷ b ∷ []) e = refl
class-two (a ∷ b ∷ c ∷ s) e = absurd (omega arith)

pub class-none : (s : List ℕ) → (length s ≡ 1 → ⊥) → (length s ≡ 2 → ⊥) → Unknown ≡ class_of s
unfolding class_of
class-none [] n m = refl
class-none (b ∷ []) n m = absurd (n refl)
class-none (a ∷ b ∷ []) n m = absurd (m refl)
class-none (a ∷ b ∷ c ∷ s) n m = refl

-- ---- a listed class is that of its bytes

-- a state is no byte that the test for states denies
no-state : (b x : ℕ) → (is_state b).holds → (is_state x).test ≡ false → b ≡ x → ⊥
no-state b x h f e = (is_state x).tells.denied f (subst (λ (y : ℕ). (is_state y).holds) e h)

back : (c : Class) → (is_named c).holds → class_of (class_bytes c) ≡ c
unfolding class_of one_byte two_bytes
back Ack h = refl
back Nak h = refl
back Illegal h = refl
back (State b) h =
    simp (
      ne_eqb b 0x00 (no-state b 0x00 h refl),
      ne_eqb b 0xFF (no-state b 0xFF h refl),
      ne_eqb b 0x30 (no-state b 0x30 h refl),
      holds-true (is_state b) h,
    )
back (Busy b) h = refl
back (Rejecting b) h = simp (holds-true (is_rejection b) h)
back (Failing b) h = simp (holds-true (is_failure b) h)
back (Escrow b) h = simp (holds-true (is_type b) h)
back (Stacked b) h = simp (holds-true (is_type b) h)
back (Returned b) h = simp (holds-true (is_type b) h)
back Unknown h = absurd h
back Table h = absurd h

-- ---- every body is unknown or has the bytes of its class

-- the class is listed, and its bytes are the body
abbrev Told : List ℕ → Class → Type 0
Told s c = (is_named c).holds × (class_bytes c ≡ s)

abbrev Found : List ℕ → Class → Type 0
Found s c = (c ≡ Unknown) ⊎ Told s c

-- so it is of a rule and those after it
next : (s : List ℕ) (w : Condition) (x rest : Class) → (w.holds → Told s x) → Found s rest → Found s (cond w.test x rest)
next s w x rest h f =
    by_cases w
    (λ y. inr (subst (Told s) (sym (cond-true x rest (holds-true w y))) (h y)))
    (λ n. subst (Found s) (sym (cond-false x rest (fails-false w n))) f)

found : (s : List ℕ) → Found s (class_of s)
unfolding class_of one_byte two_bytes
found [] = inl refl
found (b ∷ []) =
    let s = b ∷ [] in
    next s (same b 0x00) Ack _ (λ e. (tt, rw e))
    (next s (same b 0xFF) Nak _ (λ e. (tt, rw e))
    (next s (same b 0x30) Illegal _ (λ e. (tt, rw e))
    (next s (is_state b) (State b) _ (λ h. (h, refl)) (inl refl))))
found (a ∷ b ∷ []) =
    let s = a ∷ b ∷ [] in
    next s (same a 0x1B) (Busy b) _ (λ e. (tt, rw e))
    (next s (both (same a 0x1C) (is_rejection b)) (Rejecting b) _ (λ h. (h.1, rw h.0))
    (next s (both (same a 0x47) (is_failure b)) (Failing b) _ (λ h. (h.1, rw h.0))
    (next s (both (same a 0x80) (is_type b)) (Escrow b) _ (λ h. (h.1, rw h.0))
    (next s (both (same a 0x81) (is_type b)) (Stacked b) _ (λ h. (h.1, rw h.0))
    (next s (both (same a 0x82) (is_type b)) (Returned b) _ (λ h. (h.1, rw h.0)) (inl refl))))))
found (a ∷ b ∷ c ∷ s) = inl refl

pub classes : Classes
classes =
    record {
      back = back;
      again = λ s n. ⊎_elim (λ e. absurd (n e)) (λ t. t) (found s);
      no_table = λ s e.
          ⊎_elim (λ u. let v : Table ≡ Unknown = sym e ∙ u in let z : ◌≡◌ {A = ℕ} 0 1 = cc in omega arith)
          (λ t. subst (λ (k : Class). (is_named k).holds) e t.0) (found s);
      rest = λ s. (
        λ e c h q. subst (λ (k : Class). (is_named k).holds) (sym (back c h) ∙ ap class_of (sym q) ∙ e) h,
        λ f. ⊎_elim (λ e. e) (λ t. absurd (f (class_of s) t.0 (sym t.1))) (found s),
      );
    }
