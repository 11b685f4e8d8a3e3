-- The lines of the types, one behind the other. Assumes nothing.
use Prim.Native.Nat.{ℕ, suc, ◌+◌, ◌≤◌, ◌<◌}
use mathlib.Core.Path.{◌≡◌, refl, sym, ap, ◌∙◌, subst}
use mathlib.Core.List.{List, [], ◌∷◌, ◌++◌, append_assoc, append-nil}
use native.Mathlib.Numerals.{add-one}
use native.Mathlib.Omega.{arith}
use lib.ListN.{length, take, get_or, length-take}
use lib.Seq.{take-suc, take_all}
use borrow.Author.Tests.{eq-eqb, ne_eqb}
use Rattle.numbers.specs.Decimal.{decimal}
use Rattle.numbers.proofs.Decimal.{length-decimal, width-least}
use Rattle.report_lines.specs.Scaffolding.{Adds}
use Rattle.bill_table.specs.Table.{word_at}
use Rattle.bill_table.specs.Worth.{total_of}
use Rattle.bill_table.specs.declared.Word.{Word}
use Rattle.report_lines.specs.Lines.{field, line, lines}
use Rattle.report.specs.Report.{value_line, type_line, type_lines}
use Rattle.validator_rules.specs.declared.bills.Bills.{Bills}
use Rattle.report_lines.proofs.Adding.{adds_then, adds_none}
use Rattle.report_lines.proofs.Lines.{lines_none, lines_more, lines-append}

-- a type has at most two digits
pub two : (y : ℕ) → y ≤ 23 → length (decimal y) ≤ 2
two y h = omega (arith, length-decimal y, width-least y 2 (omega arith) (omega arith))

pub type-none : (w : Word) (y : ℕ) (n : Bills) → n.0 ≡ 0 → lines (type_line w y n) ≡ []
unfolding type_line
type-none w y n e = rw (eq-eqb n.0 0 e) lines_none

pub type-seen : (w : Word) (y : ℕ) (n : Bills) → (n.0 ≡ 0 → ⊥)
    → lines (type_line w y n) ≡ line (field "type " y ++ field " bills " n.0) ++ lines (value_line (total_of w n.0))
unfolding type_line
type-seen w y n e = rw (ne_eqb n.0 0 e) (lines_more (field "type " y ++ field " bills " n.0) (value_line (total_of w n.0)))

module _ (t : List ℕ) where
  pub types-nil : (k : ℕ) → type_lines t k [] ≡ []
  unfolding type_lines
  types-nil k = refl

  pub types-cons : (k : ℕ) (n : Bills) (ns : List Bills) → type_lines t k (n ∷ ns) ≡ type_line (word_at t k) k n ++ type_lines t (suc k) ns
  unfolding type_lines
  types-cons k n ns = refl

  abbrev one : ℕ → Bills → List (List ℕ)
  one k n = type_line (word_at t k) k n

  -- one type more
  types_snoc : (k : ℕ) (ns : List Bills) (n : Bills) → type_lines t k (ns ++ (n ∷ [])) ≡ type_lines t k ns ++ one (k + length ns) n
  types_snoc k [] n =
      types-cons k n [] ∙ ap (λ (x : List (List ℕ)). one k n ++ x) (types-nil (suc k)) ∙ append-nil (one k n)
      ∙ ap (λ (j : ℕ). one j n) (omega arith) ∙ sym (ap (λ (x : List (List ℕ)). x ++ one (k + 0) n) (types-nil k))
  types_snoc k (m ∷ ns) n =
      types-cons k m (ns ++ (n ∷ []))
      ∙ ap (λ (x : List (List ℕ)). one k m ++ x) (types_snoc (suc k) ns n)
      ∙ sym (append_assoc (one k m) (type_lines t (suc k) ns) (one (suc k + length ns) n))
      ∙ ap (λ (x : List (List ℕ)). x ++ one (suc k + length ns) n) (sym (types-cons k m ns))
      ∙ ap (λ (j : ℕ). type_lines t k (m ∷ ns) ++ one j n) (omega arith)

  types-none : (ns : List Bills) → lines (type_lines t 0 (take 0 ns)) ≡ []
  types-none ns = ap lines (types-nil 0) ∙ lines_none

  types-one : (ns : List Bills) (y : ℕ) (d : Bills) → y < length ns
      → lines (type_lines t 0 (take (y + 1) ns)) ≡ lines (type_lines t 0 (take y ns)) ++ lines (one y (get_or ns y d))
  types-one ns y d h =
      let l : length (take y ns) ≡ y = length-take y ns ∙ omega arith in
      ap (λ (j : ℕ). lines (type_lines t 0 (take j ns))) (add-one y)
      ∙ ap (λ (x : List Bills). lines (type_lines t 0 x)) (take-suc ns y d h)
      ∙ ap lines (types_snoc 0 (take y ns) (get_or ns y d))
      ∙ lines-append (type_lines t 0 (take y ns)) (one (0 + length (take y ns)) (get_or ns y d))
      ∙ ap (λ (j : ℕ). lines (type_lines t 0 (take y ns)) ++ lines (one j (get_or ns y d))) (omega arith)

  -- the lines of the types, one type more
  pub types-begin : (before : List ℕ) (at : ℕ) (ns : List Bills) → Adds before at (lines (type_lines t 0 (take 0 ns))) before at
  types-begin before at ns = subst (λ (l : List ℕ). Adds before at l before at) (sym (types-none ns)) (adds_none before at)

  pub types-next : {before m after : List ℕ} {at e f : ℕ} (ns : List Bills) (y : ℕ) (d : Bills) → y < length ns
      → Adds before at (lines (type_lines t 0 (take y ns))) m e → Adds m e (lines (type_line (word_at t y) y (get_or ns y d))) after f
      → Adds before at (lines (type_lines t 0 (take (y + 1) ns))) after f
  types-next {before} {m} {after} {at} {e} {f} ns y d h p q =
      subst (λ (l : List ℕ). Adds before at l after f) (sym (types-one ns y d h)) (adds_then p q)

  pub types-all : {before after : List ℕ} {at e : ℕ} (ns : List Bills) (y : ℕ) → length ns ≤ y → Adds before at (lines (type_lines t 0 (take y ns))) after e
      → Adds before at (lines (type_lines t 0 ns)) after e
  types-all {before} {after} {at} {e} ns y h p = subst (λ (l : List Bills). Adds before at (lines (type_lines t 0 l)) after e) (take_all y ns h) p

-- a type's line, piece by piece
pub count-added : {before m o after : List ℕ} {at e f g : ℕ} (y : ℕ) (n : Bills) → Adds before at (field "type " y) m e
    → Adds m e (field " bills " n.0) o f → Adds o f (0x0A ∷ []) after g → Adds before at (line (field "type " y ++ field " bills " n.0)) after g
count-added {before} {m} {o} {after} {at} {e} {f} {g} y n p q r =
    subst (λ (l : List ℕ). Adds before at l after g)
    (sym (append_assoc (field "type " y) (field " bills " n.0) (0x0A ∷ [])))
    (adds_then p (adds_then q r))

-- and what its bills are worth behind it
pub type-added : {before m after : List ℕ} {at e f : ℕ} (w : Word) (y : ℕ) (n : Bills) → (n.0 ≡ 0 → ⊥)
    → Adds before at (line (field "type " y ++ field " bills " n.0)) m e → Adds m e (lines (value_line (total_of w n.0))) after f
    → Adds before at (lines (type_line w y n)) after f
type-added {before} {m} {after} {at} {e} {f} w y n h p q =
    subst (λ (l : List ℕ). Adds before at l after f) (sym (type-seen w y n h)) (adds_then p q)

pub none-added : (before : List ℕ) (at : ℕ) (w : Word) (y : ℕ) (n : Bills) → n.0 ≡ 0 → Adds before at (lines (type_line w y n)) before at
none-added before at w y n e = subst (λ (l : List ℕ). Adds before at l before at) (sym (type-none w y n e)) (adds_none before at)
