-- `report_lines::put_number` meets its contract. Assumes nothing.
use Rattle.report_lines.proofs.Adding.{ten}
use native.Mathlib.Omega.{arith}
use Rattle.report_lines.proofs.put_number.Goals as goal

pub put_digits-requires : goal.put_digits-requires
put_digits-requires c = omega (arith, ten c.args.n c.ranges.n.fits, c.requires)

pub returns : goal.returns
returns c =
    let a = c.put_digits.ensures in
    record { adds = a; upper_bound = omega (arith, a.ends, ten c.args.n c.ranges.n.fits) }
