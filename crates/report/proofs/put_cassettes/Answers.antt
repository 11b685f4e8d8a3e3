-- `report::put_cassettes` meets its contract. Assumes nothing.
use Rattle.report_lines.proofs.Lines.{first-added, one-added}
use native.Mathlib.Omega.{arith}
use Rattle.report.proofs.put_cassettes.Goals as goal

pub returns : goal.returns
returns c =
    let u = c.put_sums-a.ensures in
    let l = c.put_sums-b.ensures in
    let x = c.put_error-c.ensures in
    let y = c.put_error.ensures in
    record { adds = first-added _ _ u.adds (first-added _ _ l.adds (first-added _ _ x.adds (one-added _ y.adds))); upper_bound = omega (arith, u.upper_bound, l.upper_bound, x.upper_bound, y.upper_bound) }
