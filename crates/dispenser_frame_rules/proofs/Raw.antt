-- Answers and commands are read by the reader's values alone: what they make where all are in their ranges, and else a refusal.
-- Assumes nothing.
use Prim.Native.Nat.{ℕ, ◌+◌, ◌-◌, ◌<◌}
use mathlib.Core.Path.{◌≡◌, refl, sym, ◌∙◌}
use mathlib.Core.Bool.{Bool, true, false, cond, ◌&&◌, and-false, and-true}
use mathlib.Core.List.{List, [], ◌∷◌, ◌++◌}
use native.Mathlib.Omega.{arith}
use lib.Dec.{eqb, lit<}
use lib.ListN.{get_or}
use borrow.Author.Tests.{ne_eqb}
use Rattle.refusals.specs.Rules.{within, same, judged}
use Rattle.refusals.proofs.Rules.{by_cases, fails-false}
use Rattle.xor_frame.specs.Layout.{Field, sizes, all_fit, all_values, all_in_range}
use Rattle.dispenser_frame_rules.specs.Answer.{read_as}
use Rattle.dispenser_frame_rules.specs.Table.{wanted, line, asks, asked_fields}
use Rattle.dispenser_frame_rules.specs.Command.{counts_fit, asked_at, command_in}
use Rattle.dispenser_frame_rules.specs.Parts.{fields_read, counts_read}
use Rattle.xor_frame.specs.Parts.{count_at, field_faults}
use Rattle.xor_frame.proofs.Raw.{Sound, raw_values, read-raw}
use Rattle.dispenser_frame_rules.specs.CommandRead.{Read, Refused as NoCommand}
use Rattle.dispenser_frame_rules.specs.declared.answer.Answer.{Answer}
use Rattle.dispenser_frame_rules.specs.AnswerRead.{Refused}
use Rattle.xor_frame.specs.declared.frame.Fault.TheVariants.{Field as Outside}

-- an answer's fields: the answer that the reader's values make where all are in their ranges, and a refusal where not
module _ (fs : List Field) (make : List ℕ → Answer) (s : List ℕ) (h : Sound fs) where
  pub fields-good : (all_in_range fs (raw_values fs 4 s)).test ≡ true → read_as (make (raw_values fs 4 s)) ≡ fields_read fs make s
  unfolding fields_read
  fields-good e = sym (read-raw fs (λ v. read_as (make v)) (Refused Outside) s h ∙ rw e)

  pub fields-bad : (all_in_range fs (raw_values fs 4 s)).test ≡ false → Refused Outside ≡ fields_read fs make s
  unfolding fields_read
  fields-bad e = sym (read-raw fs (λ v. read_as (make v)) (Refused Outside) s h ∙ rw e)

-- a command's counts, by what is asked of each cassette
counts-asked : (up lo : Bool) (code : ℕ) (s : List ℕ)
    → judged (field_faults (asked_fields up ++ asked_fields lo) s) NoCommand (Read code (asked_at up 4 s) (asked_at lo (4 + sizes (asked_fields up)) s))
    ≡ cond ((asks up (cond up (count_at 4 s) 0)).test && (asks lo (cond lo (count_at (cond up 6 4) s) 0)).test)
    (Read code (cond up (count_at 4 s) 0) (cond lo (count_at (cond up 6 4) s) 0)) (NoCommand Outside)
unfolding all_fit all_values all_in_range raw_values sizes
counts-asked true true code s =
    read-raw (wanted ∷ wanted ∷ []) (λ v. Read code (get_or v 0 0) (get_or v 1 0)) (NoCommand Outside) s (lit< tt, (lit< tt, tt)) ∙ simp and-true
counts-asked true false code s =
    read-raw (wanted ∷ []) (λ v. Read code (get_or v 0 0) 0) (NoCommand Outside) s (lit< tt, tt)
counts-asked false true code s =
    read-raw (wanted ∷ []) (λ v. Read code 0 (get_or v 0 0)) (NoCommand Outside) s (lit< tt, tt) ∙ simp and-true
counts-asked false false code s = refl

pub counts-raw : (code : ℕ) (s : List ℕ) (upper lower : ℕ) → upper ≡ cond (line code).upper (count_at 4 s) 0
    → lower ≡ cond (line code).lower (count_at (cond (line code).upper 6 4) s) 0
    → counts_read code s ≡ cond (counts_fit code upper lower).test (Read code upper lower) (NoCommand Outside)
unfolding counts_read counts_fit command_in
counts-raw code s upper lower e f = rw (e, f) (counts-asked (line code).upper (line code).lower code s)

-- ---- fixed bytes

pub thirty-same : (b : ℕ) → (within 0x30 0x30 b).test ≡ eqb b 0x30
thirty-same b =
    by_cases (same b 0x30)
    (λ e. rw e)
    (λ n. rw (ne_eqb b 0x30 n) (fails-false (within 0x30 0x30 b) (λ h. n (omega arith))))

-- two fixed bytes tested first, and not in their place
pub fixed-first : (a b c d : Bool) → (c && (a && (b && d))) ≡ ((a && b) && (c && d))
fixed-first true true c d = refl
fixed-first true false c d = and-false c
fixed-first false b c d = and-false c
