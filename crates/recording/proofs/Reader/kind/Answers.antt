-- `recording::Reader::kind` meets its contract, kind by kind. Assumes nothing.
use Prim.Native.Nat.{◌<◌}
use mathlib.Core.Path.{sym, ◌∙◌}
use native.Mathlib.Omega.{arith}
use Rattle.recording.specs.Reading.{kind_byte}
use Rattle.recording.proofs.Places.{other-kind}
use Rattle.recording.proofs.Reader.kind.Goals as goal

pub returns-then-b-eq0 : goal.returns-then-b-eq0
unfolding kind_byte
returns-then-b-eq0 c = simp (c.more.ensures, c.awaiting.ensures, c.if-b-eq0.true)

pub returns-then-b-eq1 : goal.returns-then-b-eq1
unfolding kind_byte
returns-then-b-eq1 c = simp (c.more-then-b-eq1.ensures, c.awaiting-then-b-eq1.ensures, c.if-b-eq1.true)

pub returns-then-b-eq2 : goal.returns-then-b-eq2
unfolding kind_byte
returns-then-b-eq2 c = simp (c.more-then-b-eq2.ensures, c.awaiting-then-b-eq2.ensures, c.if-b-eq2.true)

pub returns-then-b-eq3 : goal.returns-then-b-eq3
unfolding kind_byte
returns-then-b-eq3 c = simp (c.more-then-b-eq3.ensures, c.awaiting-then-b-eq3.ensures, c.if-b-eq3.true)

pub returns-then-b-eq4 : goal.returns-then-b-eq4
unfolding kind_byte
returns-then-b-eq4 c = simp (c.more-then-b-eq4.ensures, c.awaiting-then-b-eq4.ensures, c.if-b-eq4.true)

pub returns-then-b-eq5 : goal.returns-then-b-eq5
unfolding kind_byte
returns-then-b-eq5 c = simp (c.whole.ensures, c.if-b-eq5.true)

pub returns : goal.returns
returns c =
    let other : 5 < c.args.b = omega (arith, c.if-b-eq5.false, c.if-b-eq4.false, c.if-b-eq3.false, c.if-b-eq2.false, c.if-b-eq1.false, c.if-b-eq0.false) in
    c.refused.ensures ∙ sym (other-kind _ _ (λ z. omega arith))
