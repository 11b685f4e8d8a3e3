-- `ccnet_wide::data_of` meets its contract: the part behind the true length and before the last two bytes, or an empty one. Assumes nothing.
use mathlib.Core.Path.{sym, ap, ◌∙◌}
use Prim.Native.Nat.{ℕ, ◌+◌}
use Rattle.ccnet_wide.proofs.Frames.{good-long, good-lead-most, good-part}
use native.Mathlib.Omega.{arith}
use Rattle.ccnet_wide.proofs.data_of.Goals as goal

pub overflow_add-start : goal.overflow_add-start
overflow_add-start c =
    let args = c.args in
    let good = sym c.judge.ensures ∙ c.in-Ok.is in
    omega (arith, c.lead_size-start.ensures, good-lead-most args.form args.s.now _ _ good)

pub overflow_sub-result : goal.overflow_sub-result
overflow_sub-result c =
    let args = c.args in
    let good = sym c.judge.ensures ∙ c.in-Ok.is in
    omega (arith, good-long args.form args.s.now _ _ good)

pub slice_bounds-result-count : goal.slice_bounds-result-count
slice_bounds-result-count c =
    let args = c.args in
    let good = sym c.judge.ensures ∙ c.in-Ok.is in
    omega (arith, good-long args.form args.s.now _ _ good, c.lead_size-start.ensures, good-lead-most args.form args.s.now _ _ good)

pub slice_bounds-result-start : goal.slice_bounds-result-start
slice_bounds-result-start c =
    let args = c.args in
    let good = sym c.judge.ensures ∙ c.in-Ok.is in
    omega (arith, good-long args.form args.s.now _ _ good, c.lead_size-start.ensures, good-lead-most args.form args.s.now _ _ good)

pub returns-in-Ok : goal.returns-in-Ok
returns-in-Ok c =
    let args = c.args in
    let good = sym c.judge.ensures ∙ c.in-Ok.is in
    let s = args.s in
    let size = c.lead_size-start.ensures in
    rw good (record { bytes = good-part args.form s.now _ _ good _ size; place = ap (λ (k : ℕ). (s.ref_ptr.0, 5 + k + s.ref_ptr.1)) size })
