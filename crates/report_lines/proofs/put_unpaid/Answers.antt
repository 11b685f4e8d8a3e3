-- `report_lines::put_unpaid` meets its contract. Assumes nothing.
use Rattle.report_lines.specs.Lines.{unpaid_part}
use Rattle.report_lines.proofs.Adding.{adds_then}
use native.Mathlib.Omega.{arith}
use Rattle.report_lines.proofs.put_unpaid.Goals as goal

pub returns : goal.returns
unfolding unpaid_part
returns c =
    let f = c.put_field.ensures in
    let e = c.put_field-c.ensures in
    let d = c.put_field-b.ensures in
    let a = c.put_field-a.ensures in
    record { adds = adds_then a.adds (adds_then d.adds (adds_then e.adds f.adds)); upper_bound = omega (arith, a.upper_bound, d.upper_bound, e.upper_bound, f.upper_bound) }
