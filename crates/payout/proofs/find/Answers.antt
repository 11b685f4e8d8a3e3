-- `payout::find` meets its contract. Assumes nothing.
use native.Mathlib.Omega.{arith}
use mathlib.Core.Path.{refl, sym, ◌∙◌}
use Rattle.payout.specs.Plan.{in_range}
use Rattle.payout.proofs.Planned.{few-enough, four-else, right-refused, right-two, right-four}
use Rattle.payout.proofs.find.Goals as goal

pub fewest-requires : goal.fewest-requires
fewest-requires c =
    let a = c.args in
    let h = (in_range a.values.now a.stocks.now a.amount).tells.shown (sym c.is_in_range.ensures ∙ c.if-not-is_in_range.false) in
    let f = few-enough a.values.now a.stocks.now a.amount h in
    (f.0, f.1, omega arith)

pub returns-then-values-eq2 : goal.returns-then-values-eq2
returns-then-values-eq2 c =
    let a = c.args in
    let h =
    (in_range a.values.now a.stocks.now a.amount).tells.shown
    (sym c.is_in_range.ensures ∙ c.if-not-is_in_range.false)
    in
    rw c.plan_of.ensures
    (right-two a.values.now a.stocks.now a.amount h _ _ _ c.if-values-eq2.true c.fewest.ensures refl refl)

pub fewest-requires-else-values-eq2 : goal.fewest-requires-else-values-eq2
fewest-requires-else-values-eq2 c =
    let a = c.args in
    let h = (in_range a.values.now a.stocks.now a.amount).tells.shown (sym c.is_in_range.ensures ∙ c.if-not-is_in_range.false) in
    let f = few-enough a.values.now a.stocks.now a.amount h in
    (f.0, f.1, omega arith)

pub returns-else-values-eq2 : goal.returns-else-values-eq2
returns-else-values-eq2 c =
    let a = c.args in
    let h =
    (in_range a.values.now a.stocks.now a.amount).tells.shown
    (sym c.is_in_range.ensures ∙ c.if-not-is_in_range.false)
    in
    let e = four-else a.values.now a.stocks.now a.amount h c.if-values-eq2.false in
    rw c.plan_of-else-values-eq2.ensures (right-four a.values.now a.stocks.now a.amount h _ _ _ e c.fewest-else-values-eq2.ensures refl refl)

pub returns-then-not-is_in_range : goal.returns-then-not-is_in_range
returns-then-not-is_in_range c = right-refused _ _ _ (sym c.is_in_range.ensures ∙ c.if-not-is_in_range.true)
