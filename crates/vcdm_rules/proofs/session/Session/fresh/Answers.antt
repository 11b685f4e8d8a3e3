-- `vcdm_rules::session::Session::fresh` meets its contract. Assumes nothing.
use Rattle.vcdm_rules.specs.Session.{fresh_session}
use Rattle.vcdm_rules.proofs.session.Session.fresh.Goals as goal

pub returns : goal.returns
unfolding fresh_session
returns c = rw (c.fresh.ensures, c.fresh-2.ensures)
