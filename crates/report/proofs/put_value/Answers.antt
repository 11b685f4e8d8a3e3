-- `report::put_value` meets its contract. Assumes nothing.
use mathlib.Core.List.{◌++◌}
use Rattle.numbers.specs.Decimal.{decimal}
use Rattle.report_lines.specs.Text.{bytes_of}
use Rattle.report.specs.Report.{spaced}
use Rattle.report_lines.proofs.Adding.{adds_then}
use Rattle.report_lines.proofs.Lines.{line-added}
use Rattle.report.proofs.Values.{eighteen, single}
use native.Mathlib.Omega.{arith}
use Rattle.report.proofs.put_value.Goals as goal

pub put_digits-b-requires : goal.put_digits-b-requires
put_digits-b-requires c =
    let a = c.put-a.ensures in
    omega (arith, a.ends, a.size, eighteen c.args.value.whole c.requires.whole_bound.0, c.requires.at_in_bounds)

pub put-c-requires : goal.put-c-requires
put-c-requires c =
    let a = c.put-a.ensures in
    let b = c.put_digits-b.ensures in
    omega (arith, a.ends, a.size, b.ends, b.size, eighteen c.args.value.whole c.requires.whole_bound.0, c.requires.at_in_bounds)

pub put_digits-d-requires : goal.put_digits-d-requires
put_digits-d-requires c =
    let a = c.put-a.ensures in
    let b = c.put_digits-b.ensures in
    let d = c.put-c.ensures in
    omega (
      arith,
      a.ends,
      a.size,
      b.ends,
      b.size,
      d.ends,
      d.size,
      eighteen c.args.value.whole c.requires.whole_bound.0,
      single c.args.value.decimals c.requires.whole_bound.1,
      c.requires.at_in_bounds,
    )

pub put-requires : goal.put-requires
put-requires c =
    let a = c.put-a.ensures in
    let b = c.put_digits-b.ensures in
    let d = c.put-c.ensures in
    let e = c.put_digits-d.ensures in
    omega (
      arith,
      a.ends,
      a.size,
      b.ends,
      b.size,
      d.ends,
      d.size,
      e.ends,
      e.size,
      eighteen c.args.value.whole c.requires.whole_bound.0,
      single c.args.value.decimals c.requires.whole_bound.1,
      c.requires.at_in_bounds,
    )

pub returns : goal.returns
returns c =
    let v = c.args.value in
    let a = c.put-a.ensures in
    let b = c.put_digits-b.ensures in
    let d = c.put-c.ensures in
    let e = c.put_digits-d.ensures in
    let f = c.put.ensures in record {
      adds = line-added (bytes_of "value ") (decimal v.whole ++ (spaced v.letters ++ decimal v.decimals)) a
          (line-added (decimal v.whole) (spaced v.letters ++ decimal v.decimals) b (line-added (spaced v.letters) (decimal v.decimals) d (adds_then e f)));
      upper_bound = omega (
        arith,
        a.ends,
        b.ends,
        d.ends,
        e.ends,
        f.ends,
        eighteen c.args.value.whole c.requires.whole_bound.0,
        single c.args.value.decimals c.requires.whole_bound.1,
      );
    }
