-- `numbers::read_digits` meets its contract. The invariant: n has as many digits as were read, at most, and what is left to read, after n, says the number
-- of the whole, and is all digits exactly where the whole is. Assumes nothing.
use mathlib.Core.Path.{◌≡◌, refl, sym, ◌∙◌}
use mathlib.Core.Bool.{true, false}
use mathlib.Core.List.{List}
use Prim.Native.Nat.{ℕ, ◌-◌, ◌≤◌, ◌<◌}
use native.Mathlib.Numerals.{add-one}
use lib.ListN.{length, get_or}
use Rattle.std.specs.Prelude.{eqb}
use Rattle.std.proofs.Common.{eqb-true}
use Rattle.std.proofs.lemmas.Bool.{eqb-false}
use Rattle.numbers.specs.Decimal.{is_digit, number, read_digits}
use Rattle.numbers.specs.Number.{NoNumber}
use Rattle.numbers.proofs.Decimal.{number-end, number_at, only_end, only_at, one_more, pow-most}
use Rattle.refusals.proofs.Rules.{tests}
use borrow.Author.Rules.{rules}
use native.Mathlib.Omega.{arith}
use Rattle.numbers.proofs.read_digits.Goals.{then-is_empty-via-then-is_empty, then-is_empty-via-else-is_empty+then-s-gt9}
use Rattle.numbers.proofs.read_digits.Goals as goal

-- what is not empty has a byte
some : (n : ℕ) → eqb n 0 ≡ false → 1 ≤ n
some n e = omega (arith, eqb-false n 0 e)

-- a digit counts less than ten
digit_under : (b : ℕ) → (is_digit b).test ≡ true → b - 0x30 < 10
digit_under b e = omega (arith, ((is_digit b).tells.shown e).1)

too_short : (s : List ℕ) → length s < 1 → NoNumber ≡ read_digits s
unfolding read_digits
too_short s h = search tests

too_long : (s : List ℕ) → 9 < length s → NoNumber ≡ read_digits s
unfolding read_digits
too_long s h =
    let some : 1 ≤ length s = omega arith in
    search tests

pub returns-then-is_empty : goal.returns-then-is_empty
returns-then-is_empty c =
    elim c.then-is_empty.branch [
      | then-is_empty-via-then-is_empty w ↦
          let none = eqb-true _ 0 (sym c.is_empty.ensures ∙ w.if-is_empty.true) in
          too_short c.args.s.now (omega arith)
      | then-is_empty-via-else-is_empty+then-s-gt9 w ↦ too_long c.args.s.now w.if-s-gt9.true
    ]

pub loop-b-init : goal.loop-b-init
unfolding number
loop-b-init c = (search rules, refl, refl)

pub returns-then-not-byte_within : goal.returns-then-not-byte_within
unfolding read_digits
returns-then-not-byte_within c =
    let s = c.args.s.now in
    let e = sym c.byte_within.ensures ∙ c.if-not-byte_within.true in
    let some = some _ (sym c.is_empty.ensures ∙ c.if-is_empty.false) in
    search (tests, ← c.loop-b.invariant.2, only_at s c.loop-b.b-index c.loop-b-test.true, e)

pub overflow_add-n : goal.overflow_add-n
overflow_add-n c =
    let e = sym c.byte_within.ensures ∙ c.if-not-byte_within.false in
    omega (arith, pow-most {m = 8} c.loop-b.invariant.0 (omega arith), digit_under (get_or c.args.s.now c.loop-b.b-index 0) e)

pub loop-b-preserved : goal.loop-b-preserved
loop-b-preserved c =
    let turn = c.loop-b in
    let s = c.args.s.now in
    let h : turn.b-index < length s = c.loop-b-test.true in
    let e = sym c.byte_within.ensures ∙ c.if-not-byte_within.false in (
      rw add-one (one_more _ _ turn.b-index turn.invariant.0 (digit_under _ e)),
      rw (← number_at) turn.invariant.1,
      simp e at (sym (only_at s turn.b-index h) ∙ turn.invariant.2),
    )

pub returns : goal.returns
unfolding read_digits
returns c =
    let end = c.loop-b in
    let s = c.args.s.now in
    let h : length s ≤ end.b-index = c.loop-b-test.false in
    let some = some _ (sym c.is_empty.ensures ∙ c.if-is_empty.false) in
    search (tests, ← end.invariant.1, ← end.invariant.2, number-end end.n s end.b-index h, only_end s end.b-index h)
