-- `vcdm_frame::answer::write_answer` meets its contract. Assumes nothing.
use mathlib.Core.Path.{sym, ap, ◌∙◌}
use borrow.Author.Tests.{lt-ltb, le-ltb}
use Rattle.vcdm_frame_rules.specs.Table.{answer_length}
use Rattle.vcdm_frame_rules.specs.Answer.{answer_fits, write_answer, answer_refusals}
use Rattle.vcdm_frame_rules.proofs.Codes.{answer-sized}
use Rattle.vcdm_frame_rules.proofs.Raw.{answer-laid}
use native.Mathlib.Omega.{arith}
use Rattle.vcdm_frame.proofs.answer.write_answer.Goals as goal

pub returns-then-room-n : goal.returns-then-room-n
unfolding write_answer answer_refusals
returns-then-room-n c = simp (← c.code_of.ensures, ← c.answer_length-n.ensures, lt-ltb _ _ c.if-room-n.true)

pub lay_answer-requires : goal.lay_answer-requires
lay_answer-requires c =
    let k = answer-sized c.args.answer in
    let e = c.answer_length-n.ensures ∙ ap answer_length c.code_of.ensures in
    omega arith

pub returns-then-fits : goal.returns-then-fits
unfolding write_answer answer_refusals
returns-then-fits c =
    simp (← c.code_of.ensures, ← c.answer_length-n.ensures, le-ltb _ _ c.if-room-n.false, ← c.fits.ensures, c.if-fits.true)
    (c.lay_answer.ensures ∙ answer-laid _ _ ((answer_fits c.args.answer).tells.shown (sym c.fits.ensures ∙ c.if-fits.true)))

pub returns-else-fits : goal.returns-else-fits
unfolding write_answer answer_refusals
returns-else-fits c = simp (← c.code_of.ensures, ← c.answer_length-n.ensures, le-ltb _ _ c.if-room-n.false, ← c.fits.ensures, c.if-fits.false)
