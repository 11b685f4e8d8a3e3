-- `dispenser_frame::command::asked_count` meets its contract. Assumes nothing.
use Rattle.dispenser_frame.proofs.command.asked_count.Goals as goal

pub count-requires : goal.count-requires
count-requires c = c.requires c.if-asked.true

pub returns-then-asked : goal.returns-then-asked
returns-then-asked c = rw c.if-asked.true c.count.ensures
