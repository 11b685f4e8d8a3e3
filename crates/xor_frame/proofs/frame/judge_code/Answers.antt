-- `xor_frame::frame::judge_code` meets its contract: each return is at the first test that fails. Assumes nothing.
use mathlib.Core.Path.{sym}
use lib.Seq.{length-take-le}
use Rattle.refusals.proofs.Rules.{tests}
use native.Mathlib.Omega.{arith}
use Rattle.xor_frame.proofs.frame.judge_code.Goals as goal

pub returns-then-n-eq0 : goal.returns-then-n-eq0
returns-then-n-eq0 c = search tests

pub returns-then-end-n : goal.returns-then-end-n
returns-then-end-n c = search tests

pub returns-then-s-end-ne-ETX : goal.returns-then-s-end-ne-ETX
returns-then-s-end-ne-ETX c = search tests

pub slice_bounds-check_of-end : goal.slice_bounds-check_of-end
slice_bounds-check_of-end c = sym (length-take-le _ _ (omega arith))

pub returns-then-check_of-s : goal.returns-then-check_of-s
returns-then-check_of-s c = search (tests, ← c.check_of.ensures)

pub returns : goal.returns
returns c = search (tests, ← c.check_of.ensures)
