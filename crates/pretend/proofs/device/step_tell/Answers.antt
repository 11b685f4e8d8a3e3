-- `pretend::device::step_tell` meets its contract, by what the writer did. Assumes nothing.
use mathlib.Core.Path.{sym, ◌∙◌}
use Rattle.pretend.proofs.Telling.{tell-sends, tell-refused}
use Rattle.pretend.proofs.device.step_tell.Goals as goal

pub returns-in-Ok : goal.returns-in-Ok
returns-in-Ok c =
    simp (c.done.ensures, c.sent.ensures)
    (tell-sends c.args.wire c.args.code c.args.answer c.args.room.now c.if-room-lt-ROOM.false
    (sym (simp c.if-not-is_awaiting.false at c.is_awaiting.ensures))
    (sym c.code_of.ensures ∙ c.if-code_of-code.false) _ _
    (sym (simp c.in-Ok.is at c.write_answer.ensures)))

pub returns-in-Err : goal.returns-in-Err
returns-in-Err c =
    simp c.not_done-in-Err.ensures
    (tell-refused c.args.wire c.args.code c.args.answer c.args.room.now c.if-room-lt-ROOM.false
    (sym (simp c.if-not-is_awaiting.false at c.is_awaiting.ensures)) _ _
    (sym (simp c.in-Err.is at c.write_answer.ensures)))
