-- Every frame that a reader takes has a right check, so the theorem of all byte lists speaks of any two of them. Assumes nothing.
use Prim.Native.Nat.{ℕ, ◌≤◌}
use mathlib.Core.List.{List}
use native.Mathlib.Omega.{arith}
use lib.ListN.{length}
use Rattle.ccnet_frame.specs.Frame.{is_sized, judge_frame}
use Rattle.ccnet_frame.specs.Noise.{RightCheck}
use Rattle.ccnet_frame.proofs.Frames.{passed}
use Rattle.ccnet_frame.proofs.Noise.{burst-seen}
use Rattle.ccnet_wide.specs.Noise.{Taken, narrow, wide, BurstSeenInAnyForm}
use Rattle.ccnet_wide.proofs.Frames.{good-read}

taken-right : (s : List ℕ) → Taken s → RightCheck s × (2 ≤ length s)
unfolding judge_frame
taken-right s (narrow address e) = let x = passed (is_sized s) s address e in (x.checked, omega (arith, x.long))
taken-right s (wide form address lead e) = let x = (good-read form s address lead e).tested in (x.checked, omega (arith, x.long))

pub burst-seen-in-any-form : BurstSeenInAnyForm
burst-seen-in-any-form f g p hf hg tf tg l w =
    let x = taken-right f tf in
    burst-seen.any f g p hf hg l x.1 x.0 (taken-right g tg).0 w
