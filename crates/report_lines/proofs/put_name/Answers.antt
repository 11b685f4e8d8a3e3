-- `report_lines::put_name` meets its contract. Assumes nothing.
use native.Mathlib.Omega.{arith}
use Rattle.report_lines.proofs.put_name.Goals as goal

pub returns-in-None : goal.returns-in-None
returns-in-None c = let e = c.put.ensures in rw c.in-None.is (record { adds = e; upper_bound = omega (arith, e.ends) })

pub returns-in-Some : goal.returns-in-Some
returns-in-Some c = rw c.in-Some.is c.put_class.ensures
