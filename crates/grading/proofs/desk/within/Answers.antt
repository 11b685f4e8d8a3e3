-- `grading::desk::within` meets its contract. Assumes nothing.
use mathlib.Core.Path.{◌∙◌}
use native.Mathlib.Omega.{arith}
use Rattle.grading.proofs.Loops.{all_past, part_length, some-part, whole_part, past-part}
use Rattle.grading.proofs.desk.within.Goals as goal

pub returns-then-left-eq0 : goal.returns-then-left-eq0
returns-then-left-eq0 c =
    c.past.ensures ∙ all_past c.args.replay c.args.piece.now (omega (arith, c.if-left-eq0.true, c.requires.counted.fed_most)) c.requires.piece_nonzero

pub slice_bounds-through-end : goal.slice_bounds-through-end
slice_bounds-through-end c = omega (arith, c.least-n.ensures.first)

pub through-after-requires : goal.through-after-requires
through-after-requires c =
    let l = c.least-n.ensures in
    let n = part_length c.args.piece.now _ l.first in
    record { counted = c.requires.counted; unbroken = c.requires.unbroken; piece_nonzero = omega (arith, n, some-part l c.requires.piece_nonzero (omega (arith, c.if-left-eq0.false))); piece_bound = omega (arith, n, l.second) }

pub returns-then-n-piece : goal.returns-then-n-piece
returns-then-n-piece c = whole_part c.args.replay c.args.piece.now _ c.if-n-piece.true c.through-after.ensures

pub returns : goal.returns
returns c =
    let l = c.least-n.ensures in
    let h = c.if-n-piece.false in
    past-part c.args.replay c.args.piece.now c.least-n.result c.through-after.ensures c.past-2.ensures
    (omega (arith, l.other (omega (arith, l.first, h)), c.requires.counted.fed_most)) (omega (arith, l.first, h))
