-- `exchange::step::keep` meets its contract. Assumes nothing.
use mathlib.Core.Path.{sym}
use lib.Seq.{set_out}
use Rattle.exchange.proofs.step.keep.Goals as goal

pub returns-else-at-store : goal.returns-else-at-store
returns-else-at-store c = sym (set_out c.args.store.now c.args.at c.args.b c.if-at-store.false)
