-- `payout::do_fit` meets its contract: whether the cassettes from i on fit is whether all of them do. Assumes nothing.
use mathlib.Core.Path.{sym, ◌∙◌}
use Rattle.payout.proofs.Range.{fit-step, fit-end}
use Rattle.payout.proofs.do_fit.Goals as goal

pub loop-i-preserved : goal.loop-i-preserved
loop-i-preserved c =
    let e = fit-step c.args.values.now c.args.stocks.now c.requires c.loop-i.i c.loop-i-test.true in
    c.loop-i.invariant ∙ e ∙ rw (sym c.does_fit.ensures ∙ c.if-not-does_fit.false)

pub returns-then-not-does_fit : goal.returns-then-not-does_fit
returns-then-not-does_fit c =
    let e = fit-step c.args.values.now c.args.stocks.now c.requires c.loop-i.i c.loop-i-test.true in
    sym (c.loop-i.invariant ∙ e ∙ rw (sym c.does_fit.ensures ∙ c.if-not-does_fit.true))

pub returns : goal.returns
returns c =
    sym (c.loop-i.invariant ∙ fit-end c.args.values.now c.args.stocks.now c.requires c.loop-i.i c.loop-i-test.false)
