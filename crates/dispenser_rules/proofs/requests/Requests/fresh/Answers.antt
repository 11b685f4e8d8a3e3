-- `dispenser_rules::requests::Requests::fresh` meets its contract. Assumes nothing.
use mathlib.Core.Path.{refl}
use Rattle.dispenser_rules.specs.Requests.{fresh_requests}
use Rattle.dispenser_rules.proofs.requests.Requests.fresh.Goals as goal

pub returns : goal.returns
unfolding fresh_requests
returns c = refl
