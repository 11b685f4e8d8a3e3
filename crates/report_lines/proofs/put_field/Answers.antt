-- `report_lines::put_field` meets its contract. Assumes nothing.
use Rattle.report_lines.proofs.Adding.{adds_then}
use borrow.Author.Rules.{rules}
use Rattle.report_lines.proofs.put_field.Goals as goal

pub returns : goal.returns
returns c = record { adds = adds_then c.put-end.ensures c.put_number.ensures.adds; upper_bound = search rules }
