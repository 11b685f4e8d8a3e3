-- `xor_frame::frame::count` meets its contract: what `read_digits` finds in the two bytes. Assumes nothing.
use mathlib.Core.Path.{ap, ◌∙◌}
use Rattle.xor_frame.proofs.Raw.{counted, count-found}
use Rattle.xor_frame.proofs.frame.count.Goals as goal

pub returns : goal.returns
returns c = c.unwrap_or.ensures ∙ ap counted c.read_digits.ensures ∙ count-found c.args.s.now c.args.at c.requires
