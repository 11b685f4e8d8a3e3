-- `vcdm_frame::command::asks` meets its contract. Assumes nothing.
use mathlib.Core.Path.{sym}
use Rattle.vcdm_frame_rules.proofs.Codes.{asks-notes}
use Rattle.vcdm_frame.proofs.command.asks.Goals as goal

pub returns : goal.returns
returns c = sym (asks-notes _)
