-- The error byte of an answer is the frame's own, and the class told beside it is its own. Assumes nothing.
use Prim.Native.Nat.{ℕ}
use mathlib.Core.Path.{◌≡◌, refl, sym, ap, ◌∙◌}
use mathlib.Core.Bool.{false}
use mathlib.Core.List.{List}
use lib.ListN.{get_or}
use Rattle.xor_frame.specs.Layout.{all_values}
use Rattle.xor_frame.specs.Frame.{soh, code_of}
use Rattle.xor_frame.proofs.Frames.{passed-known}
use Rattle.dispenser_frame_rules.specs.Table.{model_id, known, table, code_in, line_in, line, answer_fields}
use Rattle.dispenser_frame_rules.specs.Answer.{answer_error, answer_in, read_answer}
use Rattle.error_codes.specs.Errors.{error_class}
use Rattle.error_codes.specs.declared.ErrorClass.{ErrorClass}
use Rattle.dispenser_frame_rules.specs.Promises.{ErrorTold, error_in, error_place}
use Rattle.dispenser_frame_rules.specs.declared.answer.Answer.{Answer}
use Rattle.dispenser_frame_rules.specs.AnswerRead.{Read as Found}
use Rattle.dispenser_frame_rules.proofs.Codes.{by_code}
use Rattle.dispenser_frame_rules.proofs.Trips.{answer-passed}

-- the error byte of what a frame's fields make, by code
placed : (s : List ℕ) (code : ℕ) → (known code).holds
    → answer_error ((line code).makes (all_values (answer_fields code) 4 s)) ≡ get_or s (error_place code) 0
unfolding table code_in line_in all_values
placed s =
    by_code (λ code. (known code).holds → answer_error ((line code).makes (all_values (answer_fields code) 4 s)) ≡ get_or s (error_place code) 0)
    (λ k. refl) (λ k. refl) (λ k. refl) (λ k. refl) (λ k. refl) (λ k. refl) (λ k. refl)
    (λ code a b c d e f g k. let n : (known code).test ≡ false = simp (a, b, c, d, e, f, g) in absurd ((known code).tells.denied n k))

placed-in : (s : List ℕ) (a : Answer) (b : ErrorClass) → read_answer s ≡ Found a b → answer_error (answer_in s) ≡ error_in s
placed-in s a b e = placed s (code_of s) (passed-known soh model_id known answer_fields s (answer-passed s a b e).none)

-- the class told is that of the error byte
pub error-as-told : ErrorTold
error-as-told =
    record {
      error = λ s a b e. ap answer_error (sym (answer-passed s a b e).is) ∙ placed-in s a b e;
      told = λ s a b e. (answer-passed s a b e).told ∙ ap error_class (placed-in s a b e);
    }
