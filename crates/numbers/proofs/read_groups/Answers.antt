-- `numbers::read_groups` meets its contract. The invariant: reading on from i, after what the groups before it say, gives what reading
-- from the start gives. Assumes nothing.
use mathlib.Core.Path.{refl, sym, ◌∙◌, ap, subst}
use Rattle.std.specs.Prelude.{Some}
use Rattle.numbers.specs.Seven.{read_groups}
use Rattle.numbers.proofs.Groups.{first-weight, weight-most, Found, found, found-more, read-end, read_at}
use borrow.Author.Rules.{rules}
use native.Mathlib.Numerals.{add-one}
use Rattle.numbers.proofs.read_groups.Goals as goal

pub loop-i-init : goal.loop-i-init
unfolding read_groups
loop-i-init c = (search rules, first-weight, refl)

pub group_after-requires : goal.group_after-requires
group_after-requires c =
    let turn = c.loop-i in
    record { below = turn.invariant.0; most = weight-most turn.invariant.1 }

pub loop-i-preserved : goal.loop-i-preserved
loop-i-preserved c =
    let turn = c.loop-i in
    let is = sym c.group_after.ensures ∙ c.in-Some-More.is ∙ ap Some c.in-Some-More.field-0-is in
    let next = found-more turn.invariant.0 turn.invariant.1 (subst (Found turn.acc turn.w _) is (found _ _ _)) in (
      next.0,
      rw add-one next.1,
      sym (read_at turn.i _ _ _ c.loop-i-test.true is) ∙ turn.invariant.2,
    )

pub returns-in-Some-Last : goal.returns-in-Some-Last
returns-in-Some-Last c =
    let turn = c.loop-i in
    let is = sym c.group_after.ensures ∙ c.in-Some-Last.is ∙ ap Some c.in-Some-Last.field-0-is in
    sym (read_at turn.i _ _ _ c.loop-i-test.true is) ∙ turn.invariant.2

pub returns-in-None : goal.returns-in-None
returns-in-None c =
    let turn = c.loop-i in
    let is = sym c.group_after.ensures ∙ c.in-None.is in
    sym (read_at turn.i _ _ _ c.loop-i-test.true is) ∙ turn.invariant.2

pub returns : goal.returns
returns c =
    let end = c.loop-i in
    sym (read-end end.i end.acc end.w _ c.loop-i-test.false) ∙ end.invariant.2
