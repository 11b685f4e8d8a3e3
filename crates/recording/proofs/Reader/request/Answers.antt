-- `recording::Reader::request` meets its contract. Assumes nothing.
use mathlib.Core.Path.{sym, ◌∙◌}
use Rattle.recording.specs.Reading.{request_read}
use Rattle.recording.proofs.Lists.{known_same}
use Rattle.recording.proofs.Reader.request.Goals as goal

pub returns-then-is_request : goal.returns-then-is_request
unfolding request_read
returns-then-is_request c =
    simp (
      c.whole.ensures,
      known_same c.args.self.code (sym c.is_request.ensures ∙ c.if-is_request.true),
      ← c.is_request.ensures,
      c.if-is_request.true,
    )

pub returns : goal.returns
unfolding request_read
returns c = simp (← c.is_request.ensures, c.if-is_request.false, c.refused.ensures)
