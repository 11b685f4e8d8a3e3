-- `ccnet_frame::write_command` meets its contract: what was planned is what is written, of the code and the data as one body.
-- Assumes nothing.
use Rattle.std.specs.Prelude.{◌≡◌, Err}
use Rattle.std.proofs.lemmas.Result.{err_from_is_err_and}
use mathlib.Core.Path.{sym, ◌∙◌}
use mathlib.Core.List.{◌∷◌}
use Rattle.ccnet_frame.proofs.Planned.{body_refused, body-fit}
use native.Mathlib.Omega.{arith}
use Rattle.ccnet_frame.proofs.write_command.Goals as goal

pub overflow_cast-n : goal.overflow_cast-n
overflow_cast-n c =
    let args = c.args in
    let body = args.code ∷ args.given.now in
    let plan = sym c.plan.ensures ∙ c.in_ok-n.was in
    let fit = body-fit args.address body args.room.now _ _ _ (omega arith) c.is_body.ensures plan in
    omega (arith, fit.most)

pub lay-requires : goal.lay-requires
lay-requires c =
    let args = c.args in
    let body = args.code ∷ args.given.now in
    let plan = sym c.plan.ensures ∙ c.in_ok-n.was in
    let fit = body-fit args.address body args.room.now _ _ _ (omega arith) c.is_body.ensures plan in
    omega (arith, fit.long, fit.holds)

pub returns : goal.returns
returns c =
    let args = c.args in
    let body = args.code ∷ args.given.now in
    let plan = sym c.plan.ensures ∙ c.in_ok-n.was in
    let fit = body-fit args.address body args.room.now _ _ _ (omega arith) c.is_body.ensures plan in
    fit.writes _ c.lay.ensures

pub returns-in_err-n : goal.returns-in_err-n
returns-in_err-n c =
    let args = c.args in
    let p = err_from_is_err_and c.from_residual.result c.from_residual.ensures.1 in
    let was : c.plan.result ≡ Err c.in_err-n.field-0.0 = c.in_err-n.was in
    let plan = sym c.plan.ensures ∙ was in
    rw (p.1, p.2) (body_refused args.address (args.code ∷ args.given.now) args.room.now _ _ _ (omega arith) c.is_body.ensures plan)
