-- `record_writer::write` meets its contract. Assumes nothing.
use mathlib.Core.Path.{sym, ◌∙◌}
use Rattle.record_writer.proofs.Written.{no_room, not_taken, is-written}
use native.Mathlib.Omega.{arith}
use Rattle.record_writer.proofs.write.Goals as goal

pub returns-then-room-length_of : goal.returns-then-room-length_of
returns-then-room-length_of c = let here = c.args in no_room here.x here.room.now (omega (arith, c.if-room-length_of.true, c.length_of.ensures))

pub returns-then-is_taken : goal.returns-then-is_taken
returns-then-is_taken c =
    let here = c.args in
    is-written here.x here.room.now (omega (arith, c.if-room-length_of.false, c.length_of.ensures)) _ _ (sym c.is_taken.ensures ∙ c.if-is_taken.true) c.lay.ensures.place c.lay.ensures.bytes

pub returns : goal.returns
returns c =
    let here = c.args in
    not_taken here.x here.room.now (omega (arith, c.if-room-length_of.false, c.length_of.ensures)) (sym c.is_taken.ensures ∙ c.if-is_taken.false)
