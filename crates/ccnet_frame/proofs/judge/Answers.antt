-- `ccnet_frame::judge` meets its contract: its length byte says the bytes given. Assumes nothing.
use mathlib.Core.Path.{ap, ◌∙◌}
use lib.Dec.{eqb}
use lib.ListN.{length}
use Rattle.ccnet_frame.specs.Frame.{is_sized, judge_frame}
use Rattle.ccnet_frame.proofs.Frames.{sized-by}
use Rattle.ccnet_frame.proofs.judge.Goals as goal

pub returns : goal.returns
unfolding judge_frame
returns c =
    let s = c.args.s.now in
    c.judge_sized.ensures ∙ sized-by (is_sized s) s _ (ap (λ b. eqb b (length s)) c.byte_at.ensures)
