-- `ccnet_wide::write` meets its contract: what was planned is what is written. Assumes nothing.
use Rattle.std.specs.Prelude.{◌≡◌, Err}
use Rattle.std.proofs.lemmas.Result.{err_from_is_err_and}
use mathlib.Core.Path.{sym, ap, ◌∙◌}
use Prim.Native.Nat.{◌+◌}
use lib.ListN.{length}
use Rattle.ccnet_wide.proofs.Frames.{lead-most}
use Rattle.ccnet_wide.proofs.Planned.{wide-refused, wide-fit}
use native.Mathlib.Omega.{arith}
use Rattle.ccnet_wide.proofs.write.Goals as goal

pub overflow_add-length : goal.overflow_add-length
overflow_add-length c = omega (arith, c.lead_size.ensures, lead-most c.args.lead)

pub overflow_add-length-2 : goal.overflow_add-length-2
overflow_add-length-2 c = omega (arith, c.lead_size.ensures, lead-most c.args.lead, c.before.before.before.well_formed.1.1.0.1)

pub overflow_cast-n : goal.overflow_cast-n
overflow_cast-n c =
    let args = c.args in
    let plan = sym c.plan.ensures ∙ c.in_ok-n.was in
    let long = ap (λ k. 7 + k + length args.given.now) c.lead_size.ensures in
    let fit = wide-fit args.address args.lead args.given.now args.room.now _ _ _ long c.is_wide.ensures plan in
    omega (arith, fit.most)

pub lay_wide-requires : goal.lay_wide-requires
lay_wide-requires c =
    let args = c.args in
    let plan = sym c.plan.ensures ∙ c.in_ok-n.was in
    let long = ap (λ k. 7 + k + length args.given.now) c.lead_size.ensures in
    let fit = wide-fit args.address args.lead args.given.now args.room.now _ _ _ long c.is_wide.ensures plan in
    omega (arith, fit.long, fit.holds)

pub returns : goal.returns
returns c =
    let args = c.args in
    let plan = sym c.plan.ensures ∙ c.in_ok-n.was in
    let long = ap (λ k. 7 + k + length args.given.now) c.lead_size.ensures in
    let fit = wide-fit args.address args.lead args.given.now args.room.now _ _ _ long c.is_wide.ensures plan in
    fit.writes _ c.lay_wide.ensures

pub returns-in_err-n : goal.returns-in_err-n
returns-in_err-n c =
    let args = c.args in
    let p = err_from_is_err_and c.from_residual.result c.from_residual.ensures.1 in
    let was : c.plan.result ≡ Err c.in_err-n.field-0.0 = c.in_err-n.was in
    let plan = sym c.plan.ensures ∙ was in
    let long = ap (λ k. 7 + k + length args.given.now) c.lead_size.ensures in
    rw (p.1, p.2) (wide-refused args.address args.lead args.given.now args.room.now _ _ _ long c.is_wide.ensures plan)
