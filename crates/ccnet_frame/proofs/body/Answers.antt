-- `ccnet_frame::body` meets its contract: the part behind the first three bytes and before the last two, or an empty one.
-- Assumes nothing.
use mathlib.Core.Path.{sym, ◌∙◌}
use Rattle.ccnet_frame.proofs.Frames.{good-long}
use native.Mathlib.Omega.{arith}
use Rattle.ccnet_frame.proofs.body.Goals as goal

pub overflow_sub-result : goal.overflow_sub-result
overflow_sub-result c = omega (arith, good-long _ _ (sym c.judge.ensures ∙ c.in-Ok.is))

pub slice_bounds-result-count : goal.slice_bounds-result-count
slice_bounds-result-count c = omega (arith, good-long _ _ (sym c.judge.ensures ∙ c.in-Ok.is))

pub slice_bounds-result-start : goal.slice_bounds-result-start
slice_bounds-result-start c = omega (arith, good-long _ _ (sym c.judge.ensures ∙ c.in-Ok.is))
