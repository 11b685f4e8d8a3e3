-- What is passed over is within the student's window.
use Rattle.std.proofs.Common.{ap, arith}
use Rattle.parted.proofs.Turns.{parted-within}
use Rattle.compare.proofs.compare_windows.Goals as goal

pub returns-then-bytes-gt0 : goal.returns-then-bytes-gt0
returns-then-bytes-gt0 c =
    let found = c.parting-found.ensures in
    let w = parted-within c.args.student.now c.args.reference.now in
    let at = ap (λ p. p.at) found in
    (c.if-bytes-gt0.true, omega (arith, w.student, at, c.requires), omega (arith, w.records, at, ap (λ p. p.records) found))
