-- `record_writer::lay_one` meets its contract: the kind, and then the number. Assumes nothing.
use mathlib.Core.Path.{refl, ◌∙◌}
use Prim.Native.Nat.{◌<◌}
use lib.ListN.{length, length-set}
use Rattle.refusals.proofs.Writing.{over-one}
use borrow.Author.Rules.{rules}
use Rattle.record_writer.proofs.lay_one.Goals as goal

pub shape_of-room : goal.shape_of-room
shape_of-room c = simp length-set at c.room-1.given

pub returns : goal.returns
returns c =
    let here = c.args in
    let some : 0 < length here.room.now = search rules in
    record { place = c.lay_number.ensures.place; bytes = c.lay_number.ensures.bytes ∙ over-one _ _ _ here.room.now 0 refl some }
