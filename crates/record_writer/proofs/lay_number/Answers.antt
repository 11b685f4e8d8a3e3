-- `record_writer::lay_number` meets its contract: there is room for the number, so it is laid. Assumes nothing.
use mathlib.Core.Path.{◌≡◌, sym, ap, ◌∙◌}
use Prim.Native.Nat.{ℕ, ◌+◌}
use lib.ListN.{length}
use Rattle.numbers.specs.Seven.{groups}
use Rattle.record_writer.proofs.Laying.{laid-number}
use native.Mathlib.Omega.{arith}
use borrow.Author.Rules.{rules}
use Rattle.record_writer.proofs.lay_number.Goals as goal

pub overflow_add-result : goal.overflow_add-result
overflow_add-result c =
    let here = c.args in
    let w = laid-number here.n here.at here.room.now _ _ c.requires c.write_groups.ensures in
    let put = sym w.0 ∙ c.in-Ok.is in
    let size : length (groups here.n) ≡ c.in-Ok.k = cc in
    let fits = c.requires in
    search rules

pub returns-in-Ok : goal.returns-in-Ok
returns-in-Ok c =
    let here = c.args in
    let w = laid-number here.n here.at here.room.now _ _ c.requires c.write_groups.ensures in
    let put = sym w.0 ∙ c.in-Ok.is in
    let size : c.in-Ok.k ≡ length (groups here.n) = cc in
    record { place = ap (λ (i : ℕ). here.at + i) size; bytes = w.1 }

pub returns-in-Err : goal.returns-in-Err
returns-in-Err c =
    let here = c.args in
    let w = laid-number here.n here.at here.room.now _ _ c.requires c.write_groups.ensures in
    let k = sym w.0 ∙ c.in-Err.is in
    let z : ◌≡◌ {A = ℕ} 0 1 = cc in
    absurd (omega arith)
