-- `xor_frame::frame::lay` meets its contract: the bytes, and behind them their check. Assumes nothing.
use mathlib.Core.Path.{refl, ap}
use lib.ListN.{length, length-append}
use Rattle.refusals.proofs.Writing.{over-closed}
use Rattle.xor_frame.specs.Frame.{closed}
use Rattle.xor_frame.proofs.frame.lay.Goals as goal

pub returns : goal.returns
unfolding closed
returns c =
    let s = c.args.bytes.now in
    let copied = c.copy_from_slice.ensures.after in (
      rw length-append refl,
      over-closed _ _ _ _ c.args.room.now (ap length copied) c.requires (rw (copied, c.check_of.ensures) refl),
    )
