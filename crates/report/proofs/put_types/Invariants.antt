-- `report::put_types` meets its contract. The invariant: the lines of the first y types are added. Assumes nothing.
use Prim.Native.Nat.{◌+◌, ◌*◌, ◌≤◌}
use lib.ListN.{take}
use Rattle.report_lines.specs.Scaffolding.{Adds}
use Rattle.report_lines.specs.Lines.{lines}
use Rattle.report.specs.Report.{type_lines}
use Rattle.report.proofs.put_types.Given as goal

abbrev pub invariant-loop-y : goal.invariant-loop-y
invariant-loop-y l =
    (l.end ≤ l.at + 56 * l.y) × Adds l.initial.text l.at (lines (type_lines l.table 0 (take l.y l.n-items))) l.text l.end
