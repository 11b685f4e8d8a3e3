-- `report::put_types` meets its contract. The invariant: the lines of the first y types are added. Assumes nothing.
use mathlib.Core.Path.{◌≡◌}
use lib.ListN.{length}
use Rattle.report.proofs.Types.{types-begin, types-next, types-all}
use borrow.Author.Rules.{rules}
use native.Mathlib.Omega.{arith}
use Rattle.report.proofs.put_types.Goals as goal

pub loop-y-init : goal.loop-y-init
loop-y-init c = let args = c.args in (search rules, types-begin args.table.now args.text.now args.at args.bills)

pub put_type-end-requires : goal.put_type-end-requires
put_type-end-requires c =
    let turn = c.loop-y in
    let all : length c.args.bills ≡ 24 = search rules in
    record { at_in_bounds = omega (arith, turn.invariant.0, turn.invariant.1.size, c.requires); y_bound = omega arith }

pub loop-y-preserved : goal.loop-y-preserved
loop-y-preserved c =
    let turn = c.loop-y in
    let w = c.put_type-end.ensures in
    let args = c.args in
    let all : length args.bills ≡ 24 = search rules in (
      omega (arith, turn.invariant.0, w.upper_bound),
      types-next args.table.now args.bills turn.y _ (omega arith) turn.invariant.1
          (rw c.word_at-word.ensures at w.adds),
    )

pub shape_of-text : goal.shape_of-text
shape_of-text c = c.loop-y.invariant.1.size

pub returns : goal.returns
returns c =
    let end = c.loop-y in
    let args = c.args in
    let all : length args.bills ≡ 24 = search rules in
    record { adds = types-all args.table.now args.bills end.y (omega arith) end.invariant.1; upper_bound = omega (arith, end.invariant.0) }
