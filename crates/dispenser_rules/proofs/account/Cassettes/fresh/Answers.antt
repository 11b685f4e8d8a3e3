-- `dispenser_rules::account::Cassettes::fresh` meets its contract. Assumes nothing.
use Rattle.dispenser_rules.proofs.account.Cassettes.fresh.Goals as goal

pub returns : goal.returns
returns c = rw (c.fresh.ensures, c.fresh-2.ensures)
