-- `live::desk::tallied` meets its contract. Assumes nothing.
use Prim.Native.Nat.{◌+◌}
use mathlib.Core.Path.{sym, ◌∙◌}
use Rattle.refusals.proofs.Rules.{cond-true, cond-false}
use Rattle.live.proofs.desk.tallied.Goals as goal

pub returns-then-declines : goal.returns-then-declines
returns-then-declines c =
    let args = c.args in
    record { errors = c.erred-known.ensures; declined = sym (cond-true (args.declined + 1) args.declined (sym c.declines.ensures ∙ c.if-declines.true)) }

pub returns : goal.returns
returns c =
    let args = c.args in
    record { errors = c.erred-known.ensures; declined = sym (cond-false (args.declined + 1) args.declined (sym c.declines.ensures ∙ c.if-declines.false)) }
