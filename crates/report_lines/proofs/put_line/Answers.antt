-- `report_lines::put_line` meets its contract. Assumes nothing.
use Rattle.report_lines.proofs.Adding.{adds_then}
use native.Mathlib.Omega.{arith}
use Rattle.report_lines.proofs.put_line.Goals as goal

pub returns : goal.returns
returns c =
    let a = c.put_field-a.ensures in
    let e = c.put.ensures in
    record { adds = adds_then a.adds e; upper_bound = omega (arith, a.upper_bound, e.ends) }
