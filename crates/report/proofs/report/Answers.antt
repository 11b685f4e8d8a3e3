-- `report::report` meets its contract. Assumes nothing.
use mathlib.Core.Path.{ap, ◌∙◌}
use Rattle.refusals.specs.Put.{writing}
use Rattle.report.specs.Report.{report_text, report_of}
use Rattle.report.proofs.report.Goals as goal

pub returns : goal.returns
unfolding report_of
returns c = c.write_report.ensures ∙ ap (λ f. writing (report_text f) c.args.room.now) c.replay.ensures
