-- `validator::session::send_ack` meets its contract: the room holds it, so that it is never refused. Assumes nothing.
use Rattle.validator_rules.proofs.Sending.{short-sent}
use Rattle.validator.proofs.session.send_ack.Goals as goal

pub returns : goal.returns
returns c = rw c.unwrap_or.ensures (short-sent _ _ _ _ c.requires c.write_ack.ensures)
