-- `payout::fewest` meets its contract. Assumes nothing.
use native.Mathlib.Omega.{arith}
use native.Mathlib.Nat.{add-mul, one-mul, zero-mul}
use Prim.Native.Nat.{ℕ, ◌-◌, ◌≤◌, ◌<◌}
use mathlib.Core.Path.{◌≡◌, sym, ◌∙◌}
use lib.ListN.{length, get_or}
use Rattle.std.proofs.Common.{eqb-true, rules}
use Rattle.std.proofs.lemmas.Bool.{eqb-false}
use Rattle.payout.specs.Scaffolding.{lesser}
use Rattle.payout.proofs.Turn.{most, lesser-under, turns, ends-most, ends-left, base-some, base-none, start, notes-few}
use Rattle.payout.proofs.+fewest.Goals as goal

pub returns-then-amount-eq0 : goal.returns-then-amount-eq0
returns-then-amount-eq0 t c =
    base-some c.args.values.now c.args.stocks.now _ _ _ (eqb-true (length c.args.values.now) 0 (sym c.is_empty.ensures ∙ c.if-is_empty.true)) c.requires.1 c.if-amount-eq0.true

pub returns-then-is_empty : goal.returns-then-is_empty
returns-then-is_empty t c =
    base-none c.args.values.now c.args.stocks.now _ _ _ (eqb-true (length c.args.values.now) 0 (sym c.is_empty.ensures ∙ c.if-is_empty.true)) c.if-amount-eq0.false

pub loop-n-init : goal.loop-n-init
loop-n-init t c =
    let a = c.args in
    (omega arith, omega (arith, zero-mul (get_or a.values.now 0 0)), start a.values.now a.stocks.now _ _ _)

room-left : (n s e m : ℕ) → n ≤ lesser s (lesser e m) → n ≤ m
room-left n s e m h = (lesser-under n e m (lesser-under n s (lesser e m) h).1).1

pub better_of-found-requires : goal.better_of-found-requires
better_of-found-requires t c =
    let a = c.args in
    let e : c.min-most.result ≡ lesser (get_or a.stocks.now 0 0) (lesser a.each a.room) = search rules in
    let h : c.loop-n.n ≤ most a.stocks.now a.each a.room = omega (arith, c.loop-n-test.true, e) in
    omega (arith, notes-few _ _ _ (a.room - c.loop-n.n) _ _ c.fewest-rest.result c.fewest-rest.ensures, room-left c.loop-n.n (get_or a.stocks.now 0 0) a.each a.room h, c.requires.2)

pub returns-then-left-value : goal.returns-then-left-value
returns-then-left-value t c =
    let a = c.args in
    let some : (length a.values.now ≡ 0) → ⊥ = eqb-false _ 0 (sym c.is_empty.ensures ∙ c.if-is_empty.false) in
    let l = c.loop-n in
    let e : c.min-most.result ≡ lesser (get_or a.stocks.now 0 0) (lesser a.each a.room) = search rules in
    let h : l.n ≤ most a.stocks.now a.each a.room = omega (arith, c.loop-n-test.true, e) in
    let k = turns a.values.now a.stocks.now some c.requires.1 c.requires.0 _ _ _ l.left l.n l.found c.fewest-rest.result l.invariant.1 h
    l.invariant.2 c.fewest-rest.ensures in
    rw c.better_of-found.ensures
    (ends-left a.values.now a.stocks.now some c.requires.1 c.requires.0 _ _ _ l.left l.n _ c.if-left-value.true l.invariant.1 k)

pub loop-n-preserved : goal.loop-n-preserved
loop-n-preserved t c =
    let a = c.args in
    let some : (length a.values.now ≡ 0) → ⊥ = eqb-false _ 0 (sym c.is_empty.ensures ∙ c.if-is_empty.false) in
    let l = c.loop-n in
    let v = get_or a.values.now 0 0 in
    let e : c.min-most.result ≡ lesser (get_or a.stocks.now 0 0) (lesser a.each a.room) = search rules in
    let h : l.n ≤ most a.stocks.now a.each a.room = omega (arith, c.loop-n-test.true, e) in
    let k = turns a.values.now a.stocks.now some c.requires.1 c.requires.0 _ _ _ l.left l.n l.found c.fewest-rest.result l.invariant.1 h
    l.invariant.2 c.fewest-rest.ensures in
    (omega (arith, c.loop-n-test.true), omega (arith, l.invariant.1, add-mul l.n 1 v, one-mul v, c.if-left-value.false), rw c.better_of-found.ensures k)

pub returns : goal.returns
returns t c =
    let a = c.args in
    let l = c.loop-n in
    let some : (length a.values.now ≡ 0) → ⊥ = eqb-false _ 0 (sym c.is_empty.ensures ∙ c.if-is_empty.false) in
    let e : c.min-most.result ≡ lesser (get_or a.stocks.now 0 0) (lesser a.each a.room) = search rules in
    let past : most a.stocks.now a.each a.room < l.n = omega (arith, e, c.loop-n-test.false) in
    ends-most a.values.now a.stocks.now some c.requires.1 c.requires.0 _ _ _ l.n _ past l.invariant.2
