-- `validator::session::read` meets its contract: a good body is never empty, and that of a refused frame always is. Assumes nothing.
use Rattle.validator_rules.proofs.Reading.{read-bad, read-good}
use native.Mathlib.Omega.{arith}
use Rattle.validator.proofs.session.read.Goals as goal

pub returns-then-is_empty : goal.returns-then-is_empty
returns-then-is_empty c =
    let h = c.if-is_empty.ensures in
    read-bad c.args.frame.now c.body-part.result.now c.body-part.ensures.bytes c.args.code (grind arith)

pub returns : goal.returns
returns c =
    let h = c.if-is_empty.ensures in
    let k = c.if-is_empty.false in
    read-good c.args.frame.now c.body-part.result.now c.body-part.ensures.bytes c.args.code c.class_to.result c.class_to.ensures (grind arith)
