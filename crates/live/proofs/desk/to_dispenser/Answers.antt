-- `live::desk::to_dispenser` meets its contract, kind by kind. Assumes nothing.
use mathlib.Core.Path.{ap}
use Rattle.dispenser_rules.specs.Session.{After}
use Rattle.live_rules.specs.Live.{with_room}
use Rattle.live.proofs.Steps.{not-paying, payer-untouched}
use Rattle.live.proofs.desk.to_dispenser.Goals as goal

pub returns-in-Request : goal.returns-in-Request
returns-in-Request c = rw c.in-Request.is c.request.ensures

pub returns-in-DispenserByte : goal.returns-in-DispenserByte
returns-in-DispenserByte c = rw c.in-DispenserByte.is c.byte.ensures

pub returns-in-Tick : goal.returns-in-Tick
returns-in-Tick c = rw c.in-Tick.is c.tick.ensures

pub returns-in-Clear : goal.returns-in-Clear
returns-in-Clear c = rw c.in-Clear.is (ap (λ (w : After). with_room w c.args.room.now) c.clear.ensures)

pub returns-in_default : goal.returns-in_default
returns-in_default c = payer-untouched c.args.x (not-paying c.args.x c.in_default.not-Request c.in_default.not-DispenserByte c.in_default.not-Tick c.in_default.not-Clear) c.args.session c.args.room.now
