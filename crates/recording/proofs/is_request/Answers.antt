-- `recording::is_request` meets its contract. Assumes nothing.
use mathlib.Core.Path.{sym}
use Rattle.recording.proofs.Lists.{known-above, known-length}
use Rattle.recording.proofs.is_request.Goals as goal

pub returns-then-code-gt255 : goal.returns-then-code-gt255
returns-then-code-gt255 c = sym (known-above c.args.code c.if-code-gt255.true)

pub returns : goal.returns
returns c = known-length c.args.code c.answer_length.result c.answer_length.ensures
