-- `ccnet_wide::judge` meets its contract: judged as every frame is, with what stands before its true length. Assumes nothing.
use Rattle.std.specs.Prelude.{◌≡◌, Err}
use Rattle.std.proofs.lemmas.Result.{err_from_is_err_and}
use mathlib.Core.Path.{sym, ap, ap₂, ◌∙◌}
use Rattle.ccnet_frame.proofs.Frames.{sized-by}
use Rattle.ccnet_wide.specs.Wide.{is_sized}
use Rattle.ccnet_wide.proofs.Frames.{with_lead, judged-wide}
use Rattle.ccnet_wide.proofs.judge.Goals as goal

pub returns : goal.returns
returns c =
    let args = c.args in
    let s = args.s.now in
    let found = sym (c.judge_sized.ensures ∙ sized-by (is_sized args.form s) s _ c.is_sized.ensures) ∙ c.in_ok-address.was in
    ap₂ with_lead c.lead_at.ensures (sym found) ∙ judged-wide args.form s

pub returns-in_err-address : goal.returns-in_err-address
returns-in_err-address c =
    let args = c.args in
    let p = err_from_is_err_and c.from_residual.result c.from_residual.ensures.1 in
    let was : c.judge_sized.result ≡ Err c.in_err-address.field-0.0 = c.in_err-address.was in
    let s = args.s.now in
    let found = sym (c.judge_sized.ensures ∙ sized-by (is_sized args.form s) s _ c.is_sized.ensures) ∙ was in
    rw (p.1, p.2) (ap (with_lead _) (sym found) ∙ judged-wide args.form s)
