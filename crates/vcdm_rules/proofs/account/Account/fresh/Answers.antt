-- `vcdm_rules::account::Account::fresh` meets its contract. Assumes nothing.
use Rattle.vcdm_rules.proofs.account.Account.fresh.Goals as goal

pub returns : goal.returns
returns c = rw (c.fresh.ensures, c.fresh-2.ensures, c.fresh-3.ensures, c.fresh-4.ensures)
