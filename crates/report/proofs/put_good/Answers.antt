-- `report::put_good` meets its contract. Assumes nothing.
use Rattle.report_lines.proofs.Lines.{lines-added, first-added, one-added}
use native.Mathlib.Omega.{arith}
use Rattle.report.proofs.put_good.Goals as goal

pub returns : goal.returns
returns c =
    let cs = c.put_cassettes-a.ensures in
    let d = c.put_line-b.ensures in
    let t = c.put_types-c.ensures in
    let r = c.put_line.ensures in
    record { adds = lines-added _ _ cs.adds (first-added _ _ d.adds (lines-added _ _ t.adds (one-added _ r.adds))); upper_bound = omega (arith, cs.upper_bound, d.upper_bound, t.upper_bound, r.upper_bound) }
