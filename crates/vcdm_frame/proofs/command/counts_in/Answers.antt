-- `vcdm_frame::command::counts_in` meets its contract. Assumes nothing.
use Rattle.vcdm_frame_rules.specs.Parts.{lowered_counts}
use Rattle.vcdm_frame.proofs.command.counts_in.Goals as goal

pub returns : goal.returns
unfolding lowered_counts
returns c = rw (c.lower.ensures, c.lower-2.ensures, c.lower-3.ensures, c.lower-4.ensures)
