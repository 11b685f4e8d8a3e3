-- `recording::Reader::refused` meets its contract. Assumes nothing.
use Rattle.recording.proofs.Reader.refused.Goals as goal

pub returns : goal.returns
returns c = simp c.awaiting.ensures
