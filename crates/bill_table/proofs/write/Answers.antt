-- `bill_table::write` meets its contract: a table has 120 bytes. Assumes nothing.
use Rattle.std.proofs.Common.{rules}
use mathlib.Core.Path.{◌≡◌, sym}
use lib.ListN.{length}
use native.Mathlib.Omega.{arith}
use Rattle.refusals.proofs.Writing.{writing-refused, writing-laid}
use Rattle.bill_table.proofs.write.Goals as goal

pub returns-then-room-lt-SIZE : goal.returns-then-room-lt-SIZE
returns-then-room-lt-SIZE c =
    let n : length c.args.table.now ≡ 120 = search rules in
    writing-refused _ _ (omega arith)

pub returns : goal.returns
returns c =
    let n : length c.args.table.now ≡ 120 = search rules in
    writing-laid _ _ _ _ (omega arith) (sym n) c.lay.ensures
