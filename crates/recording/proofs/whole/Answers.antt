-- `recording::whole` meets its contract. Assumes nothing.
use Rattle.recording.proofs.whole.Goals as goal

pub returns : goal.returns
returns c = simp c.fresh.ensures
