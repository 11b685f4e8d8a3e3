-- `ccnet_frame::write_nak` meets its contract: of a frame of one byte nothing but the room is asked. Assumes nothing.
use mathlib.Core.Path.{◌∙◌}
use Rattle.ccnet_frame.proofs.Planned.{one-byte-written}
use Rattle.ccnet_frame.proofs.write_nak.Goals as goal

pub returns : goal.returns
returns c = c.write_answer.ensures ∙ one-byte-written _ _
