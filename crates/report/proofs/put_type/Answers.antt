-- `report::put_type` meets its contract. Assumes nothing.
use Rattle.report.proofs.Types.{none-added, type-added}
use borrow.Author.Rules.{rules}
use native.Mathlib.Omega.{arith}
use Rattle.report.proofs.put_type.Goals as goal

pub returns-then-n-eq0 : goal.returns-then-n-eq0
returns-then-n-eq0 c =
    let args = c.args in
    record { adds = none-added args.text.now args.at args.word args.y args.n c.if-n-eq0.true; upper_bound = search rules }

pub put_worth-requires : goal.put_worth-requires
put_worth-requires c =
    let a = c.put_count-a.ensures in
    omega (arith, a.adds.size, a.upper_bound, c.requires.at_in_bounds)

pub returns : goal.returns
returns c =
    let args = c.args in
    let a = c.put_count-a.ensures in
    let b = c.put_worth.ensures in
    record { adds = type-added args.word args.y args.n c.if-n-eq0.false a.adds b.adds; upper_bound = omega (arith, a.upper_bound, b.upper_bound) }
