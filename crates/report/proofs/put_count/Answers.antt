-- `report::put_count` meets its contract. Assumes nothing.
use lib.ListN.{length-append}
use Rattle.numbers.specs.Decimal.{decimal}
use Rattle.report_lines.specs.Text.{bytes_of}
use Rattle.report.proofs.Types.{two, count-added}
use native.Mathlib.Omega.{arith}
use Rattle.report.proofs.put_count.Goals as goal

pub put_field-b-requires : goal.put_field-b-requires
put_field-b-requires c =
    let a = c.put_field-a.ensures.adds in
    omega (arith, a.ends, a.size, two c.args.y c.requires.y_bound, c.requires.at_in_bounds, length-append (bytes_of "type ") (decimal c.args.y))

pub put-requires : goal.put-requires
put-requires c =
    let a = c.put_field-a.ensures.adds in
    let d = c.put_field-b.ensures in
    omega (arith, a.ends, a.size, d.adds.size, d.upper_bound, two c.args.y c.requires.y_bound, c.requires.at_in_bounds, length-append (bytes_of "type ") (decimal c.args.y))

pub returns : goal.returns
returns c =
    let a = c.put_field-a.ensures.adds in
    let d = c.put_field-b.ensures in
    let e = c.put.ensures in record { adds = count-added c.args.y c.args.n a d.adds e; upper_bound = omega (arith, a.ends, d.upper_bound, e.ends, two c.args.y c.requires.y_bound, length-append (bytes_of "type ") (decimal c.args.y)) }
