-- `bill_table::worth_of` meets its contract, and no product is too large. Assumes nothing.
use Prim.Native.Nat.{◌*◌, ◌^◌, ◌≤◌, ◌<◌}
use native.Mathlib.Omega.{arith}
use borrow.Author.Rules.{rules}
use borrow.Author.Tests.{lt-ltb, le-ltb}
use Rattle.bill_table.specs.Worth.{worth}
use Rattle.bill_table.proofs.Amounts.{zeros-few, one-most, all_most}
use Rattle.bill_table.proofs.worth_of.Goals as goal

pub ten_to-requires : goal.ten_to-requires
ten_to-requires c = zeros-few _ c.requires.fact.1.1.1 c.if-word-lt-PLACES.true

pub overflow_mul-one : goal.overflow_mul-one
overflow_mul-one c =
    let w = c.args.word in
    let h : w.first < 256 = search rules in
    record { fits = rw c.ten_to.ensures (omega (arith, one-most w.first w.last h (zeros-few _ c.requires.fact.1.1.1 c.if-word-lt-PLACES.true))) }

pub overflow_mul-whole : goal.overflow_mul-whole
overflow_mul-whole c =
    let w = c.args.word in
    let h : w.first < 256 = search rules in
    let one = one-most w.first w.last h (zeros-few _ c.requires.fact.1.1.1 c.if-word-lt-PLACES.true) in
    record { fits = rw c.ten_to.ensures (omega (arith, all_most c.args.count (w.first * 10 ^ w.last) c.requires.count_bound one)) }

pub returns-then-word-lt-PLACES : goal.returns-then-word-lt-PLACES
unfolding worth
returns-then-word-lt-PLACES c = simp (lt-ltb _ _ c.if-word-lt-PLACES.true, c.ten_to.ensures)

pub overflow_mul-whole-else-word-lt-PLACES : goal.overflow_mul-whole-else-word-lt-PLACES
overflow_mul-whole-else-word-lt-PLACES c =
    let w = c.args.word in
    let h : w.first ≤ 255_000_000_000 = search rules in
    record { fits = omega (arith, all_most c.args.count w.first c.requires.count_bound h) }

pub returns-else-word-lt-PLACES : goal.returns-else-word-lt-PLACES
unfolding worth
returns-else-word-lt-PLACES c = simp (le-ltb _ _ c.if-word-lt-PLACES.false)
