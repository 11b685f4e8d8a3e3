-- `live::whole_bytes` meets its contract. Assumes nothing.
use Rattle.live_rules.specs.Entering.{whole_bytes}
use Rattle.live.proofs.Entries.{begun-whole, past-kind}
use Rattle.live.proofs.entry.whole_bytes.Goals as goal

pub returns-in-Kind : goal.returns-in-Kind
unfolding whole_bytes
returns-in-Kind c = rw c.in-Kind.is

pub returns-in_default : goal.returns-in_default
unfolding whole_bytes
returns-in_default c = let args = c.args in begun-whole args.reader.place (past-kind args.reader.place c.in_default.not-Kind) args.reader.start args.fed
