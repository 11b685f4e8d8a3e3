-- `validator::session::send_command` meets its contract: the room holds it, so that it is never refused. Assumes nothing.
use Rattle.validator_rules.proofs.Sending.{command-sent}
use Rattle.validator.proofs.session.send_command.Goals as goal

pub returns : goal.returns
returns c = rw c.unwrap_or.ensures (command-sent _ _ _ _ _ c.requires.in_bounds c.requires.given_len_bound c.write_command.ensures)
