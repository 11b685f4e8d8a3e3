-- `live::entry::is_full` meets its contract. Assumes nothing.
use Prim.Native.Nat.{◌+◌}
use mathlib.Core.Path.{sym}
use mathlib.Core.Logic.{inl, inr}
use native.Mathlib.Omega.{arith}
use borrow.Author.Tests.{le-ltb, lt-leb}
use Rattle.refusals.proofs.Rules.{holds-true}
use Rattle.recording.specs.Record.{most_bytes}
use Rattle.live_rules.specs.Entering.{is_full}
use Rattle.live.proofs.entry.is_full.Goals as goal

pub returns-then-left-size : goal.returns-then-left-size
unfolding is_full
returns-then-left-size c = let args = c.args in sym (holds-true (is_full args.written args.records args.declined args.size) (inl (omega (arith, c.if-left-size.true))))

pub returns-then-records-ge-MOST : goal.returns-then-records-ge-MOST
unfolding is_full
returns-then-records-ge-MOST c = let args = c.args in sym (holds-true (is_full args.written args.records args.declined args.size) (inr (inl (omega (arith, c.if-records-ge-MOST.true)))))

pub returns : goal.returns
unfolding is_full
returns c =
    let args = c.args in
    rw (le-ltb most_bytes (args.written + args.size) (omega (arith, c.if-left-size.false)), lt-leb most_bytes args.records (omega (arith, c.if-records-ge-MOST.false)))
