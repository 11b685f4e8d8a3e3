-- `report::write_report` meets its contract: the text fits its own room, and is laid in the one lent. Assumes nothing.
use mathlib.Core.Path.{ap, ◌∙◌}
use Rattle.refusals.specs.Put.{writing}
use Rattle.report.proofs.Laying.{text-laid}
use Rattle.report.proofs.write_report.Goals as goal

pub returns : goal.returns
returns c = c.lay.ensures ∙ ap (λ l. writing l c.args.room.now) (text-laid c.put_report-n.ensures.adds)
