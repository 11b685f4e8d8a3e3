-- `recording::taking::record_at` meets its contract. Assumes nothing.
use Rattle.recording.specs.Taking.{found_at}
use borrow.Author.Rules.{rules}
use Rattle.recording.proofs.taking.record_at.Goals as goal

pub returns : goal.returns
unfolding found_at
returns c = search rules
