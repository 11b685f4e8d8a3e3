-- `report::put_worth` meets its contract. Assumes nothing.
use Rattle.std.specs.Prelude.{Ok}
use mathlib.Core.Path.{sym, ap, ◌∙◌}
use Prim.Native.Nat.{◌<◌}
use Rattle.report.specs.Report.{value_line}
use Rattle.report_lines.proofs.Lines.{one-added, nothing-added}
use Rattle.report.proofs.Values.{total-fits}
use borrow.Author.Rules.{rules}
use Rattle.report.proofs.put_worth.Goals as goal

pub put_value-requires : goal.put_value-requires
put_value-requires c =
    let w = c.args.word in
    let small : w.first < 256 = search rules in
    record { at_in_bounds = c.requires; whole_bound = total-fits w c.args.n _ small (sym c.total_of.ensures ∙ (c.in-Ok-Some.is ∙ ap Ok c.in-Ok-Some.field-0-is)) }

pub returns-in-Ok-None : goal.returns-in-Ok-None
returns-in-Ok-None c =
    record { adds = nothing-added c.args.text.now c.args.at (ap value_line (sym c.total_of.ensures ∙ (c.in-Ok-None.is ∙ ap Ok c.in-Ok-None.field-0-is))); upper_bound = search rules }

pub returns-in-Ok-Some : goal.returns-in-Ok-Some
returns-in-Ok-Some c =
    let e = c.put_value.ensures in
    rw (sym c.total_of.ensures ∙ (c.in-Ok-Some.is ∙ ap Ok c.in-Ok-Some.field-0-is)) (record { adds = one-added _ e.adds; upper_bound = e.upper_bound })

pub returns-in-Err : goal.returns-in-Err
returns-in-Err c =
    record { adds = nothing-added c.args.text.now c.args.at (ap value_line (sym c.total_of.ensures ∙ c.in-Err.is)); upper_bound = search rules }
