-- `report_lines::put_class` meets its contract, class by class. Assumes nothing.
use native.Mathlib.Omega.{arith}
use Rattle.report_lines.proofs.put_class.Goals as goal

pub returns-in-Fine : goal.returns-in-Fine
returns-in-Fine c = let e = c.put.ensures in rw c.in-Fine.is (record { adds = e; upper_bound = omega (arith, e.ends) })

pub returns-in-OutOfNotes : goal.returns-in-OutOfNotes
returns-in-OutOfNotes c = let e = c.put-in-OutOfNotes.ensures in rw c.in-OutOfNotes.is (record { adds = e; upper_bound = omega (arith, e.ends) })

pub returns-in-NotSeated : goal.returns-in-NotSeated
returns-in-NotSeated c = let e = c.put-in-NotSeated.ensures in rw c.in-NotSeated.is (record { adds = e; upper_bound = omega (arith, e.ends) })

pub returns-in-Jam : goal.returns-in-Jam
returns-in-Jam c = let e = c.put-in-Jam.ensures in rw c.in-Jam.is (record { adds = e; upper_bound = omega (arith, e.ends) })

pub returns-in-CountInDoubt : goal.returns-in-CountInDoubt
returns-in-CountInDoubt c = let e = c.put-in-CountInDoubt.ensures in rw c.in-CountInDoubt.is (record { adds = e; upper_bound = omega (arith, e.ends) })

pub returns-in-OtherListed : goal.returns-in-OtherListed
returns-in-OtherListed c = let e = c.put-in-OtherListed.ensures in rw c.in-OtherListed.is (record { adds = e; upper_bound = omega (arith, e.ends) })

pub returns-in-Unlisted : goal.returns-in-Unlisted
returns-in-Unlisted c = let e = c.put-in-Unlisted.ensures in rw c.in-Unlisted.is (record { adds = e; upper_bound = omega (arith, e.ends) })
