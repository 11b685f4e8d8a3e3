-- The codes that a record may hold are bytes. Assumes nothing.
use Prim.Native.Nat.{ℕ, ◌%◌, ◌<◌}
use mathlib.Core.Path.{◌≡◌, sym, ap, ◌∙◌}
use mathlib.Core.Bool.{true, false}
use mathlib.Core.Logic.{⊎_elim}
use native.Mathlib.Nat.{mod-eq_of_lt}
use native.Mathlib.Omega.{arith}
use lib.Dec.{ltb, eqb}
use borrow.Author.Tests.{lt-ltb, ne_eqb}
use Rattle.refusals.specs.Rules.{same, among}
use Rattle.refusals.proofs.Rules.{fails-false, by_cases}
use Rattle.dispenser_frame_rules.specs.Table.{table, code_in, known, answer_fields, answer_length}
use Rattle.xor_frame.proofs.Lengths.{length_none, length_some}
use Rattle.recording.specs.Record.{in_list}

known-below : (code : ℕ) → (known code).holds → code < 256
unfolding table code_in
known-below code =
    ⊎_elim (λ e. omega arith) (⊎_elim (λ e. omega arith) (⊎_elim (λ e. omega arith) (⊎_elim (λ e. omega arith)
    (⊎_elim (λ e. omega arith) (⊎_elim (λ e. omega arith) (⊎_elim (λ e. omega arith) (λ n. absurd n)))))))

pub known_same : (code : ℕ) → (known code).test ≡ true → code % 256 ≡ code
known_same code e = mod-eq_of_lt (known-below code ((known code).tells.shown e))

pub known-above : (code : ℕ) → 255 < code → (known code).test ≡ false
known-above code h = fails-false (known code) (λ k. omega (arith, known-below code k))

-- a code is in the table where its answer has a length
pub known-length : (code n : ℕ) → n ≡ answer_length code → ltb 0 n ≡ (known code).test
known-length code n e =
    by_cases (same n 0)
    (λ z. ap (ltb 0) z ∙ sym (length_none known answer_fields code (sym e ∙ z)))
    (λ z. lt-ltb 0 n (omega arith) ∙ sym (length_some known answer_fields code (λ y. z (e ∙ y))))

listed_below : (code : ℕ) → (in_list code).holds → code < 256
unfolding in_list among
listed_below code =
    ⊎_elim (λ e. omega arith) (⊎_elim (λ e. omega arith) (⊎_elim (λ e. omega arith) (⊎_elim (λ e. omega arith)
    (⊎_elim (λ e. omega arith) (⊎_elim (λ e. omega arith) (λ n. absurd n))))))

-- of the six codes, the last, where it is none of the others
pub last-listed : (code : ℕ) → (code ≡ 0x30 → ⊥) → (code ≡ 0x33 → ⊥) → (code ≡ 0x35 → ⊥) → (code ≡ 0x36 → ⊥) → (code ≡ 0x38 → ⊥)
    → eqb code 0x41 ≡ (in_list code).test
unfolding in_list among
last-listed code a b c d f =
    by_cases (same code 0x41)
    (λ e. rw e)
    (λ e.
    simp (
      ne_eqb code 0x41 e,
      ne_eqb 0x30 code (λ y. a (sym y)),
      ne_eqb 0x33 code (λ y. b (sym y)),
      ne_eqb 0x35 code (λ y. c (sym y)),
      ne_eqb 0x36 code (λ y. d (sym y)),
      ne_eqb 0x38 code (λ y. f (sym y)),
      ne_eqb 0x41 code (λ y. e (sym y)),
    ))

pub listed_same : (code : ℕ) → (in_list code).test ≡ true → code % 256 ≡ code
listed_same code e = mod-eq_of_lt (listed_below code ((in_list code).tells.shown e))
