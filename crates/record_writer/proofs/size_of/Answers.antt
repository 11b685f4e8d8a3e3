-- `record_writer::size_of` meets its contract: a number divided by 128 has one group fewer. Assumes nothing.
use Prim.Native.Nat.{◌<◌}
use Rattle.record_writer.proofs.Laying.{one-group, group-more}
use native.Mathlib.Omega.{arith}
use borrow.Author.Rules.{rules}
use Rattle.record_writer.proofs.size_of.Goals as goal

pub returns-then-n-lt128 : goal.returns-then-n-lt128
returns-then-n-lt128 c = record { groups = one-group _ c.if-n-lt128.true; most = omega arith }

pub returns-then-n-lt16384 : goal.returns-then-n-lt16384
returns-then-n-lt16384 c = record { groups = group-more 1 _ (omega arith) (one-group _ (omega (arith, c.if-n-lt16384.true))); most = omega arith }

pub returns-then-n-lt2097152 : goal.returns-then-n-lt2097152
returns-then-n-lt2097152 c = record { groups = group-more 2 _ (omega arith) (group-more 1 _ (omega arith) (one-group _ (omega (arith, c.if-n-lt2097152.true)))); most = omega arith }

pub returns-then-n-lt268435456 : goal.returns-then-n-lt268435456
returns-then-n-lt268435456 c = record { groups = group-more 3 _ (omega arith) (group-more 2 _ (omega arith) (group-more 1 _ (omega arith) (one-group _ (omega (arith, c.if-n-lt268435456.true))))); most = omega arith }

pub returns : goal.returns
returns c =
    let small : c.args.n < 4_294_967_296 = search rules in
    record { groups = group-more 4 _ (omega arith) (group-more 3 _ (omega arith) (group-more 2 _ (omega arith) (group-more 1 _ (omega arith) (one-group _ (omega (arith, small)))))); most = omega arith }
