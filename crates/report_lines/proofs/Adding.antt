-- Bytes added behind those that stand there: one by one, piece by piece, and a number's digits. Assumes nothing.
use Prim.Native.Nat.{ℕ, suc, ◌+◌, ◌-◌, ◌≤◌, ◌<◌}
use mathlib.Core.Path.{◌≡◌, refl, sym, ap, ◌∙◌, subst}
use mathlib.Core.List.{List, [], ◌∷◌, ◌++◌, append_assoc, append-nil}
use native.Mathlib.Nat.{sub-zero}
use native.Mathlib.Numerals.{add-one}
use native.Mathlib.Omega.{arith}
use lib.ListN.{length, take, set, get_or, length-append}
use lib.Seq.{take-suc, take-suc-set, take_all}
use borrow.Author.Tests.{le-ltb}
use Rattle.numbers.specs.Decimal.{decimal}
use Rattle.refusals.specs.Put.{written, writing, laid}
use Rattle.refusals.specs.Put.{Put}
use Rattle.refusals.specs.Put.{Bytes, Refused}
use Rattle.refusals.specs.declared.Refusal.{Refusal}
use Rattle.numbers.proofs.Decimal.{length-decimal, width-least}
use Rattle.refusals.proofs.Writing.{take-over}
use Rattle.report_lines.specs.Scaffolding.{Adds}

-- one byte more
pub add-byte : (before text bytes : List ℕ) (at i : ℕ) → at + i < length text → i < length bytes
    → take (at + i) text ≡ take at before ++ take i bytes
    → take (at + (i + 1)) (set text (at + i) (get_or bytes i 0)) ≡ take at before ++ take (i + 1) bytes
add-byte before text bytes at i h l e =
    let n : at + (i + 1) ≡ suc (at + i) = omega arith in
    rw (n, take-suc-set text (at + i) (get_or bytes i 0) h, e, add-one, take-suc bytes i 0 l) (append_assoc (take at before) (take i bytes) (get_or bytes i 0 ∷ []))

-- all of them
pub add-all : (before text bytes : List ℕ) (at i : ℕ) → i ≡ length bytes → length text ≡ length before → take (at + i) text ≡ take at before ++ take i bytes
    → Adds before at bytes text (at + i)
add-all before text bytes at i l n e =
    record { size = n; ends = ap (λ (j : ℕ). at + j) l; text = e ∙ ap (λ (y : List ℕ). take at before ++ y) (take_all i bytes (omega (arith, l))) }

-- one piece behind the other
pub adds_then : {before s mid t after : List ℕ} {at e f : ℕ} → Adds before at s mid e → Adds mid e t after f → Adds before at (s ++ t) after f
adds_then {before} {s} {mid} {t} {after} {at} {e} {f} p q =
    record {
      ends = omega (arith, p.ends, q.ends, length-append s t);
      text = q.text ∙ ap (λ (y : List ℕ). y ++ t) p.text ∙ append_assoc (take at before) s t;
      size = q.size ∙ p.size;
    }

-- nothing
pub adds_none : (before : List ℕ) (at : ℕ) → Adds before at [] before at
adds_none before at = record { ends = omega arith; text = sym (append-nil (take at before)); size = refl }

-- ---- a number below 2 to the 32nd has ten digits at most

pub ten : (n : ℕ) → n < 4_294_967_296 → length (decimal n) ≤ 10
ten n h = omega (arith, length-decimal n, width-least n 10 (omega arith) (omega arith))

-- and one below 2 to the 64th twenty
pub twenty : (n : ℕ) → n < 18_446_744_073_709_551_616 → length (decimal n) ≤ 20
twenty n h = omega (arith, length-decimal n, width-least n 20 (omega arith) (omega arith))

-- so a room of twenty holds them
pub record Digits (n : ℕ) (k : ℕ) (after : List ℕ) : Type 0 where
  pub many : k ≡ length (decimal n)
  pub are : take k after ≡ decimal n

module _ (n : ℕ) (room after : List ℕ) (h : n < 18_446_744_073_709_551_616) (l : length room ≡ 20) where
  writes : writing (decimal n) room ≡ laid (decimal n) room
  unfolding writing
  writes = rw (le-ltb (length room) (length (decimal n)) (omega (arith, twenty n h)))

  pub digits-put : (p : Put) (k : ℕ) → written p after ≡ writing (decimal n) room → p ≡ Bytes k → Digits n k after
  digits-put p k e f =
      let g : written p after ≡ laid (decimal n) room = e ∙ writes in
      let a : Bytes k ≡ Bytes (length (decimal n)) = sym f ∙ ap (λ w. w.answer) g in
      let m : k ≡ length (decimal n) = cc in
      record { many = m; are = ap (λ j. take j after) m ∙ ap (λ w. take (length (decimal n)) w.room) g ∙ take-over (decimal n) room }

  pub digits-fit : (p : Put) (why : Refusal) → written p after ≡ writing (decimal n) room → p ≡ Refused why → ⊥
  digits-fit p why e f =
      let a : Refused why ≡ Bytes (length (decimal n)) = sym f ∙ ap (λ w. w.answer) (e ∙ writes) in
      let z : ◌≡◌ {A = ℕ} 0 1 = cc in omega arith

-- and the digits that were put there are what is added
pub digits-added : {before text after : List ℕ} {n k at end : ℕ} → Digits n k text → Adds before at (take (k - 0) text) after end → Adds before at (decimal n) after end
digits-added {before} {text} {after} {n} {k} {at} {end} d a = subst (λ (y : List ℕ). Adds before at y after end) (ap (λ (j : ℕ). take j text) (sub-zero k) ∙ d.are) a
