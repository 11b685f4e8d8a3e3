-- `live::desk::to_validator` meets its contract, kind by kind. Assumes nothing.
use Rattle.live.proofs.Steps.{not-taking, taker-untouched}
use Rattle.live.proofs.desk.to_validator.Goals as goal

pub returns-in-ValidatorByte : goal.returns-in-ValidatorByte
returns-in-ValidatorByte c = rw c.in-ValidatorByte.is c.byte.ensures

pub returns-in-Tick : goal.returns-in-Tick
returns-in-Tick c = rw c.in-Tick.is c.tick.ensures

pub returns-in-Command : goal.returns-in-Command
returns-in-Command c = rw c.in-Command.is c.request.ensures

pub returns-in_default : goal.returns-in_default
returns-in_default c = taker-untouched c.args.x (not-taking c.args.x c.in_default.not-ValidatorByte c.in_default.not-Tick c.in_default.not-Command) c.args.session c.args.room.now
