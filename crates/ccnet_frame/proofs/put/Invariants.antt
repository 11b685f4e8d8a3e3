-- `ccnet_frame::put` meets its contract: the room's first i bytes, and the bytes left laid from there on, are all the bytes laid
-- from the start; and those left, after the check so far, give the check after all. Assumes nothing.
use mathlib.Core.Path.{◌≡◌}
use mathlib.Core.List.{◌++◌}
use lib.ListN.{length, take, drop}
use Rattle.refusals.specs.Put.{over}
use Rattle.ccnet_check.specs.Check.{check_from}
use Rattle.ccnet_frame.proofs.put.Given as goal

abbrev pub invariant-loop-i : goal.invariant-loop-i
invariant-loop-i l =
    (length l.room ≡ length l.initial.room)
    × (take l.i l.room ++ over (drop l.i l.bytes) (drop l.i l.room) ≡ over l.bytes l.initial.room)
    × (check_from l.sum (drop l.i l.bytes) ≡ check_from l.c l.bytes)
