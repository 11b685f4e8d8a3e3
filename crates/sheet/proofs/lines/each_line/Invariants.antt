-- `sheet::each_line` ends: each line gets on. A call leaves f callable. Assumes nothing.
use denote.Param.Always.{always_mut}
use lib.ListN.{length}
use Prim.Native.Nat.{◌-◌}
use Rattle.sheet.proofs.lines.each_line.Given as goal

abbrev pub invariant-loop-at : goal.invariant-loop-at
invariant-loop-at g l = always_mut g.F.FnMut l.initial.f → always_mut g.F.FnMut l.f

abbrev pub decreases-loop-at : goal.decreases-loop-at
decreases-loop-at g l = length l.all - l.at
