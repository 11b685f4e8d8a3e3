-- `recording::taking::single` meets its contract, kind by kind. Assumes nothing.
use mathlib.Core.Path.{refl, sym, ◌∙◌}
use Prim.Native.Nat.{◌≤◌, ◌<◌}
use borrow.Author.Tests.{lt-ltb, le-ltb}
use Rattle.recording.specs.Reading.{kind_byte, byte_read, command_read}
use Rattle.recording.proofs.Lists.{listed_same}
use Rattle.recording.proofs.Places.{last-place}
use native.Mathlib.Omega.{arith}
use borrow.Author.Rules.{rules}
use Rattle.recording.proofs.taking.single.Goals as goal

pub returns-then-kind-eq2 : goal.returns-then-kind-eq2
unfolding kind_byte
returns-then-kind-eq2 c = λ r rest. rw c.if-kind-eq2.true refl

pub returns-then-n-gt255 : goal.returns-then-n-gt255
unfolding kind_byte byte_read
returns-then-n-gt255 c = λ r rest. rw (c.if-kind-eq1.true, lt-ltb 255 _ c.if-n-gt255.true) refl

pub returns-then-kind-eq1 : goal.returns-then-kind-eq1
unfolding kind_byte byte_read
returns-then-kind-eq1 c = λ r rest. rw (c.if-kind-eq1.true, le-ltb 255 _ c.if-n-gt255.false) refl

pub returns-then-n-gt255-2 : goal.returns-then-n-gt255-2
unfolding kind_byte byte_read
returns-then-n-gt255-2 c = λ r rest. rw (c.if-kind-eq3.true, lt-ltb 255 _ c.if-n-gt255-2.true) refl

pub returns-then-kind-eq3 : goal.returns-then-kind-eq3
unfolding kind_byte byte_read
returns-then-kind-eq3 c = λ r rest. rw (c.if-kind-eq3.true, le-ltb 255 _ c.if-n-gt255-2.false) refl

pub returns-then-is_command : goal.returns-then-is_command
unfolding command_read
returns-then-is_command c =
    let here = c.args in
    let some : 0 < here.kind = search rules in
    let few : here.kind ≤ 4 = search rules in
    let listed = sym c.is_command.ensures ∙ c.if-is_command.true in
    λ r rest. rw (last-place here.kind few (λ z. omega (arith, some, z)) c.if-kind-eq1.false c.if-kind-eq2.false c.if-kind-eq3.false, listed, listed_same here.n listed) refl

pub returns : goal.returns
unfolding command_read
returns c =
    let here = c.args in
    let some : 0 < here.kind = search rules in
    let few : here.kind ≤ 4 = search rules in
    λ r rest. rw (last-place here.kind few (λ z. omega (arith, some, z)) c.if-kind-eq1.false c.if-kind-eq2.false c.if-kind-eq3.false, sym c.is_command.ensures ∙ c.if-is_command.false) refl
