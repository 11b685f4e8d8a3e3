-- By code: the seven lines of the table, and every other code. Assumes nothing.
use Prim.Native.Nat.{ℕ, ◌+◌, ◌≤◌, ◌<◌}
use mathlib.Core.Path.{◌≡◌, refl, sym, subst}
use mathlib.Core.Bool.{Bool, true, false, cond, ◌||◌}
use mathlib.Core.Logic.{◌⊎◌, ⊎_elim}
use native.Mathlib.Omega.{arith}
use lib.Dec.{eqb, lit≤}
use borrow.Author.Tests.{eqb-true, le-leb}
use Rattle.refusals.specs.Rules.{within}
use Rattle.refusals.proofs.Rules.{tested}
use mathlib.Core.List.{◌++◌}
use Rattle.xor_frame.specs.Layout.{sizes}
use Rattle.dispenser_frame_rules.specs.Table.{table, code_in, line_in, known, line, command_fields, asked_fields, answer_fields, command_length, answer_length, paid_one_fields, tested_fields}
use Rattle.xor_frame.specs.Frame.{length_with}
use Rattle.xor_frame.proofs.Lengths.{length-known}
use Rattle.dispenser_frame_rules.specs.Answer.{pay_code, test_code, answer_code}
use Rattle.dispenser_frame_rules.specs.declared.answer.Cassette.{Cassette}
use Rattle.dispenser_frame_rules.specs.declared.answer.Cassette.TheVariants.{Upper, Lower}
use Rattle.dispenser_frame_rules.specs.declared.answer.Answer.{Answer}
use Rattle.dispenser_frame_rules.specs.declared.answer.Answer.TheVariants.{Purged, PaidOne, PaidBoth, Tested, Status}

-- what holds of each code in the table, and of every code that is none of them, holds of every code
pub by_code : (P : ℕ → Type 0) → P 0x44 → P 0x45 → P 0x46 → P 0x55 → P 0x56 → P 0x76 → P 0x77
    → ((code : ℕ) → eqb code 0x44 ≡ false → eqb code 0x45 ≡ false → eqb code 0x46 ≡ false → eqb code 0x55 ≡ false
    → eqb code 0x56 ≡ false → eqb code 0x76 ≡ false → eqb code 0x77 ≡ false → P code)
    → (code : ℕ) → P code
by_code P a b c d e f g other code =
    is 0x44 a (λ na. is 0x45 b (λ nb. is 0x46 c (λ nc. is 0x55 d (λ nd. is 0x56 e (λ ne. is 0x76 f (λ nf. is 0x77 g (λ ng.
    other code na nb nc nd ne nf ng)))))))
  where
    is : (k : ℕ) → P k → (eqb code k ≡ false → P code) → P code
    is k p q = ⊎_elim (λ (t : eqb code k ≡ true). subst P (sym (eqb-true code k t)) p) q (tested (eqb code k))

pub upper-asked : (code : ℕ) → (line code).upper ≡ (eqb code 0x45 || eqb code 0x56)
unfolding table line_in
upper-asked = by_code (λ code. (line code).upper ≡ (eqb code 0x45 || eqb code 0x56)) refl refl refl refl refl refl refl (λ code a b c d e f g. simp (a, b, c, d, e, f, g))

pub lower-asked : (code : ℕ) → (line code).lower ≡ (eqb code 0x55 || eqb code 0x56)
unfolding table line_in
lower-asked = by_code (λ code. (line code).lower ≡ (eqb code 0x55 || eqb code 0x56)) refl refl refl refl refl refl refl (λ code a b c d e f g. simp (a, b, c, d, e, f, g))

-- the fields of an answer that speaks of one cassette are the same for both
pub pay-fields : (k : Cassette) → answer_fields (pay_code k) ≡ paid_one_fields
unfolding table line_in
pay-fields Upper = refl
pay-fields Lower = refl

pub test_fields : (k : Cassette) → answer_fields (test_code k) ≡ tested_fields
unfolding table line_in
test_fields Upper = refl
test_fields Lower = refl

-- any byte is 00h to FFh
pub any-byte : (b : ℕ) → b < 256 → (within 0x00 0xFF b).test ≡ true
any-byte b h = simp (le-leb 0 b (omega arith), le-leb b 255 (omega arith))

-- every answer's code is in the table, so its frame has a length
pub answer-known : (a : Answer) → (known (answer_code a)).test ≡ true
unfolding table code_in
answer-known (Purged e) = refl
answer-known (PaidOne Upper c x e s r) = refl
answer-known (PaidOne Lower c x e s r) = refl
answer-known (PaidBoth uc ux lc lx e us ls ur lr) = refl
answer-known (Tested Upper c e s r) = refl
answer-known (Tested Lower c e s r) = refl
answer-known (Status e s0 s1) = refl

pub answer-sized : (a : Answer) → answer_length (answer_code a) ≡ 6 + sizes (answer_fields (answer_code a))
answer-sized a = length-known known answer_fields (answer_code a) (answer-known a)

-- a code of the table that is none of the first six is the seventh
pub last_code : (code : ℕ) → (known code).holds → (code ≡ 0x44 → ⊥) → (code ≡ 0x45 → ⊥) → (code ≡ 0x46 → ⊥) → (code ≡ 0x55 → ⊥)
    → (code ≡ 0x56 → ⊥) → (code ≡ 0x76 → ⊥) → code ≡ 0x77
unfolding table code_in
last_code code k a b c d e f =
    not-this a (not-this b (not-this c (not-this d (not-this e (not-this f (λ g. ⊎_elim (λ x. x) (λ x. absurd x) g)))))) k
  where
    not-this : {A B C : Type 0} → (A → ⊥) → (B → C) → A ⊎ B → C
    not-this n g w = ⊎_elim (λ x. absurd (n x)) g w

-- the place of the lower count, where one is asked, lies in the frame
pub lower-fits : (code : ℕ) → (line code).lower ≡ true → cond (line code).upper 6 4 + 4 ≤ 6 + sizes (command_fields code)
unfolding sizes
lower-fits code e = rw e (go (line code).upper)
  where
    go : (up : Bool) → cond up 6 4 + 4 ≤ 6 + sizes (asked_fields up ++ asked_fields true)
    go true = lit≤ tt
    go false = lit≤ tt

-- two counts are the most that a command has, and no answer is longer than that of a payout from both
pub command-most : (code : ℕ) → sizes (command_fields code) ≤ 4
unfolding sizes
command-most code = go (line code).upper (line code).lower
  where
    go : (up lo : Bool) → sizes (asked_fields up ++ asked_fields lo) ≤ 4
    go true true = lit≤ tt
    go true false = lit≤ tt
    go false true = lit≤ tt
    go false false = lit≤ tt

pub command-longest : (code : ℕ) → command_length code ≤ 10
unfolding table code_in line_in length_with sizes
command-longest =
    by_code (λ code. command_length code ≤ 10) (lit≤ tt) (lit≤ tt) (lit≤ tt) (lit≤ tt) (lit≤ tt) (lit≤ tt) (lit≤ tt)
    (λ code a b c d e f g. let z : command_length code ≡ 0 = simp (a, b, c, d, e, f, g) in omega arith)

pub answer-most : (code : ℕ) → answer_length code ≤ 21
unfolding table code_in line_in length_with sizes
answer-most =
    by_code (λ code. answer_length code ≤ 21) (lit≤ tt) (lit≤ tt) (lit≤ tt) (lit≤ tt) (lit≤ tt) (lit≤ tt) (lit≤ tt)
    (λ code a b c d e f g. let z : answer_length code ≡ 0 = simp (a, b, c, d, e, f, g) in omega arith)
