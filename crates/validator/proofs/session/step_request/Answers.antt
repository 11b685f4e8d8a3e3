-- `validator::session::step_request` sends no more data than a command has. Assumes nothing.
use mathlib.Core.Path.{sym, ◌∙◌}
use Rattle.validator_rules.proofs.Sending.{command-size}
use Rattle.validator.proofs.session.step_request.Goals as goal

pub send_command-n-requires-clause-given_len_bound : goal.send_command-n-requires-clause-given_len_bound
send_command-n-requires-clause-given_len_bound c = command-size _ _ (sym c.is_command.ensures ∙ c.if-not-is_command.false)
