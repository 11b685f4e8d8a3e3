-- `validator_rules::session::Session::fresh` meets its contract. Assumes nothing.
use Rattle.validator_rules.specs.Session.{fresh_session}
use borrow.Author.Rules.{rules}
use Rattle.validator_rules.proofs.session.Session.fresh.Goals as goal

pub returns : goal.returns
unfolding fresh_session
returns c = search rules
