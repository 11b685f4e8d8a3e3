-- `dispenser::session::hand_over` meets its contract. Assumes nothing.
use Rattle.std.specs.Prelude.{◌≡◌, refl, Ok, Err}
use Rattle.std.specs.Result.{result_unwrap_or}
use Rattle.refusals.specs.Put.{Put}
use Rattle.dispenser_rules.specs.Session.{bytes_put}
use Rattle.dispenser_rules.specs.Session.{hand_over}
use Rattle.dispenser.proofs.session.hand_over.Goals as goal

pub returns : goal.returns
unfolding hand_over
returns c =
    let same : (put : Put) → bytes_put put ≡ result_unwrap_or put 0 = elim [ Ok n ↦ refl | Err why ↦ refl ] in
    simp (← c.write_command.ensures, c.unwrap_or.ensures, ← same c.write_command.result)
