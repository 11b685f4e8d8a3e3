-- `report_lines::put_digits` meets its contract. Assumes nothing.
use mathlib.Core.Path.{refl}
use lib.ListN.{length-take}
use Rattle.report_lines.proofs.Adding.{twenty, digits-put, digits-fit, digits-added}
use native.Mathlib.Omega.{arith}
use Rattle.report_lines.proofs.put_digits.Goals as goal

pub slice_bounds-put-end : goal.slice_bounds-put-end
slice_bounds-put-end c =
    let args = c.args in
    let w = c.write_decimal in
    let d = digits-put args.n _ w.new.room c.ranges.n.fits refl w.result _ w.ensures c.in-Ok.is in
    omega (arith, d.many, twenty args.n c.ranges.n.fits)

pub put-requires : goal.put-requires
put-requires c =
    let args = c.args in
    let w = c.write_decimal in
    let d = digits-put args.n _ w.new.room c.ranges.n.fits refl w.result _ w.ensures c.in-Ok.is in
    simp length-take (omega (arith, d.many, twenty args.n c.ranges.n.fits))

pub returns-in-Ok : goal.returns-in-Ok
returns-in-Ok c =
    let args = c.args in
    let w = c.write_decimal in
    let d = digits-put args.n _ w.new.room c.ranges.n.fits refl w.result _ w.ensures c.in-Ok.is in
    digits-added d c.put.ensures

pub returns-in-Err : goal.returns-in-Err
returns-in-Err c =
    let args = c.args in
    let w = c.write_decimal in
    absurd (digits-fit args.n _ w.new.room c.ranges.n.fits refl w.result _ w.ensures c.in-Err.is)
