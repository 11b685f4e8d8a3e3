-- `report_lines::put_sums` meets its contract. Assumes nothing.
use Rattle.report_lines.proofs.Adding.{adds_then}
use native.Mathlib.Omega.{arith}
use Rattle.report_lines.proofs.put_sums.Goals as goal

pub returns : goal.returns
returns c =
    let p = c.put_paid-a.ensures in
    let u = c.put_unpaid-b.ensures in
    let e = c.put.ensures in
    record { adds = adds_then (adds_then p.adds u.adds) e; upper_bound = omega (arith, p.upper_bound, u.upper_bound, e.ends) }
