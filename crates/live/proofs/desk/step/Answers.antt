-- `live::step` meets its contract. Assumes nothing.
use native.Mathlib.Omega.{arith}
use Rattle.live.proofs.Steps.{lives}
use borrow.Author.Rules.{rules}
use Rattle.live.proofs.desk.step.Goals as goal

pub overflow_add-result : goal.overflow_add-result
overflow_add-result c = record { fits = omega (arith, c.requires.records_bound) }

pub returns : goal.returns
returns c =
    let args = c.args in
    let paid = c.to_dispenser-paid in
    let taken = c.to_validator-taken in
    let tally = c.tallied-tally in
    lives args.desk args.room.now args.room255.now (search (rules, c.to_dispenser-arg-1.given))
    (search (rules, c.to_validator-arg-1.given)) args.x paid.result taken.result _ _ tally.result.errors tally.result.declined paid.ensures taken.ensures
    tally.ensures.errors tally.ensures.declined
