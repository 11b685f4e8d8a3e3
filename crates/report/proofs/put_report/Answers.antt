-- `report::put_report` meets its contract. Assumes nothing.
use Rattle.report.specs.Report.{report_text}
use Rattle.report_lines.proofs.Lines.{one-added}
use Rattle.report.proofs.put_report.Goals as goal

pub returns-in-Ok : goal.returns-in-Ok
unfolding report_text
returns-in-Ok c = rw c.in-Ok.is c.put_good.ensures

pub returns-in-Err : goal.returns-in-Err
unfolding report_text
returns-in-Err c = let e = c.put_bad.ensures in rw c.in-Err.is (record { adds = one-added _ e.adds; upper_bound = e.upper_bound })
