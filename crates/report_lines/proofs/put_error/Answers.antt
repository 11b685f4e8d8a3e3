-- `report_lines::put_error` meets its contract. Assumes nothing.
use Rattle.report_lines.proofs.Adding.{adds_then}
use Rattle.report_lines.proofs.Lines.{line-added}
use native.Mathlib.Omega.{arith}
use Rattle.report_lines.proofs.put_error.Goals as goal

pub returns : goal.returns
returns c =
    let a = c.put-a.ensures in
    let b = c.put_name-b.ensures in
    let e = c.put.ensures in
    record { adds = line-added _ _ a (adds_then b.adds e); upper_bound = omega (arith, a.ends, b.upper_bound, e.ends) }
