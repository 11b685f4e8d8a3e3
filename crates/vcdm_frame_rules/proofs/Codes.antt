-- By code: the five lines of the table, and every other code. Assumes nothing.
use Prim.Native.Nat.{ℕ, ◌+◌, ◌≤◌, ◌<◌}
use mathlib.Core.Path.{◌≡◌, refl, sym, ap, subst}
use mathlib.Core.Bool.{Bool, true, false}
use mathlib.Core.List.{[]}
use mathlib.Core.Logic.{◌⊎◌, ⊎_elim}
use native.Mathlib.Omega.{arith}
use lib.Dec.{eqb, lit≤, lit<}
use borrow.Author.Tests.{eqb-true}
use Rattle.refusals.proofs.Rules.{tested}
use Rattle.xor_frame.specs.Layout.{sizes}
use Rattle.xor_frame.specs.Frame.{length_with}
use Rattle.xor_frame.proofs.Lengths.{length-known}
use Rattle.xor_frame.proofs.Raw.{Sound}
use Rattle.vcdm_frame_rules.specs.Table.{table, code_in, line_in, known, line, row, none, reset, command_fields, asked_fields, answer_fields, command_length, answer_length}
use Rattle.vcdm_frame_rules.specs.Answer.{answer_code}
use Rattle.vcdm_frame_rules.specs.declared.answer.Answer.{Answer}
use Rattle.vcdm_frame_rules.specs.declared.answer.Answer.TheVariants.{Reset, Status, Purged, Dispensed, Last}

-- what holds of each code in the table, and of every code that is none of them, holds of every code
pub by_code {ℓ} : (P : ℕ → Type ℓ) → P 0x44 → P 0x50 → P 0x51 → P 0x52 → P 0x55
    → ((code : ℕ) → eqb code 0x44 ≡ false → eqb code 0x50 ≡ false → eqb code 0x51 ≡ false → eqb code 0x52 ≡ false → eqb code 0x55 ≡ false → P code)
    → (code : ℕ) → P code
by_code P a b c d e other code =
    is 0x44 a (λ na. is 0x50 b (λ nb. is 0x51 c (λ nc. is 0x52 d (λ nd. is 0x55 e (λ ne. other code na nb nc nd ne)))))
  where
    is : (k : ℕ) → P k → (eqb code k ≡ false → P code) → P code
    is k p q = ⊎_elim (λ (t : eqb code k ≡ true). subst P (sym (eqb-true code k t)) p) q (tested (eqb code k))

-- notes are asked by a dispense alone
pub asks-notes : (code : ℕ) → (line code).asks ≡ eqb code 0x52
unfolding table line_in
asks-notes = by_code (λ code. (line code).asks ≡ eqb code 0x52) refl refl refl refl refl (λ code a b c d e. simp (a, b, c, d, e))

pub dispense-known : (known 0x52).test ≡ true
unfolding table code_in
dispense-known = refl

-- a code that is none of the five has no fields
pub no_line : (code : ℕ) → eqb code 0x44 ≡ false → eqb code 0x50 ≡ false → eqb code 0x51 ≡ false → eqb code 0x52 ≡ false → eqb code 0x55 ≡ false
    → line code ≡ row 0 none [] reset
unfolding table line_in
no_line code a b c d e = simp (a, b, c, d, e)

pub not_known : (code : ℕ) → eqb code 0x44 ≡ false → eqb code 0x50 ≡ false → eqb code 0x51 ≡ false → eqb code 0x52 ≡ false → eqb code 0x55 ≡ false
    → (known code).test ≡ false
unfolding table code_in
not_known code a b c d e = simp (a, b, c, d, e)

-- every answer's code is in the table, so its frame has a length
pub answer-known : (a : Answer) → (known (answer_code a)).test ≡ true
unfolding table code_in
answer-known (Reset e) = refl
answer-known (Status e d0 d1 p) = refl
answer-known (Purged e m c r) = refl
answer-known (Dispensed e s c r) = refl
answer-known (Last l e s c r) = refl

pub answer-sized : (a : Answer) → answer_length (answer_code a) ≡ 6 + sizes (answer_fields (answer_code a))
answer-sized a = length-known known answer_fields (answer_code a) (answer-known a)

-- a code of the table that is none of the first four is the fifth
pub last_code : (code : ℕ) → (known code).holds → (code ≡ 0x44 → ⊥) → (code ≡ 0x50 → ⊥) → (code ≡ 0x51 → ⊥) → (code ≡ 0x52 → ⊥) → code ≡ 0x55
unfolding table code_in
last_code code k a b c d = not-this a (not-this b (not-this c (not-this d (λ g. ⊎_elim (λ x. x) (λ x. absurd x) g)))) k
  where
    not-this : {A B C : Type 0} → (A → ⊥) → (B → C) → A ⊎ B → C
    not-this n g w = ⊎_elim (λ x. absurd (n x)) g w

-- a dispense has the most bytes of a command, and a last status those of an answer
pub command-most : (code : ℕ) → sizes (command_fields code) ≤ 7
unfolding sizes
command-most code = go (line code).asks
  where
    go : (t : Bool) → sizes (asked_fields t) ≤ 7
    go true = lit≤ tt
    go false = lit≤ tt

pub command-longest : (code : ℕ) → command_length code ≤ 13
unfolding table code_in line_in length_with sizes
command-longest =
    by_code (λ code. command_length code ≤ 13) (lit≤ tt) (lit≤ tt) (lit≤ tt) (lit≤ tt) (lit≤ tt)
    (λ code a b c d e. let z : command_length code ≡ 0 = simp (a, b, c, d, e) in omega arith)

pub answer-most : (code : ℕ) → answer_length code ≤ 30
unfolding table code_in line_in length_with sizes
answer-most =
    by_code (λ code. answer_length code ≤ 30) (lit≤ tt) (lit≤ tt) (lit≤ tt) (lit≤ tt) (lit≤ tt)
    (λ code a b c d e. let z : answer_length code ≡ 0 = simp (a, b, c, d, e) in omega arith)

-- the fields of commands and answers are sound: no count's range reaches what the reader takes for no count
pub asked-sound : (t : Bool) → Sound (asked_fields t)
asked-sound true = (lit< tt, (lit< tt, (lit< tt, (lit< tt, tt))))
asked-sound false = tt

-- eight counts
abbrev Eight : Type 0
Eight = (223 < 300) × ((223 < 300) × ((223 < 300) × ((223 < 300) × ((223 < 300) × ((223 < 300) × ((223 < 300) × ((223 < 300) × Unit {0})))))))

below : Eight
below = (lit< tt, (lit< tt, (lit< tt, (lit< tt, (lit< tt, (lit< tt, (lit< tt, (lit< tt, tt))))))))

pub answers-sound : (code : ℕ) → Sound (answer_fields code)
unfolding table line_in
answers-sound =
    by_code (λ code. Sound (answer_fields code)) tt tt below below below
    (λ code a b c d e. subst Sound (sym (ap (λ r. r.answer) (no_line code a b c d e))) tt)
