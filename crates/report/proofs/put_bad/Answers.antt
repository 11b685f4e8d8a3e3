-- `report::put_bad` meets its contract. Assumes nothing.
use Rattle.report_lines.proofs.Lines.{line-added}
use native.Mathlib.Omega.{arith}
use Rattle.report.proofs.put_bad.Goals as goal

pub returns : goal.returns
returns c =
    let a = c.put_field-a.ensures in
    let r = c.put_line.ensures in
    simp (← c.number.ensures) (record { adds = line-added _ _ a.adds r.adds; upper_bound = omega (arith, a.upper_bound, r.upper_bound) })
