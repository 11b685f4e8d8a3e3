-- `vcdm_frame::answer::fits` meets its contract, kind by kind of answer. Assumes nothing.
use Rattle.std.proofs.Common.{rules, ◌≡◌}
use mathlib.Core.Path.{sym, ◌∙◌}
use Rattle.xor_frame.specs.Layout.{in_range}
use Rattle.vcdm_frame_rules.specs.Table.{serial, last_serial}
use Rattle.vcdm_frame_rules.proofs.Raw.{fits-by}
use Rattle.vcdm_frame.proofs.answer.fits.Goals as goal

pub returns-in-Reset : goal.returns-in-Reset
returns-in-Reset c = rw c.in-Reset.is (sym (fits-by _))

pub returns-in-Status : goal.returns-in-Status
returns-in-Status c = rw c.in-Status.is (c.places_fit.ensures ∙ sym (fits-by _))

pub returns-then-cassettes_fit : goal.returns-then-cassettes_fit
returns-then-cassettes_fit c = rw c.in-Purged.is (sym (fits-by _ ∙ simp (← c.cassettes_fit.ensures, c.if-cassettes_fit.true, c.names_fit.ensures)))

pub returns-else-cassettes_fit : goal.returns-else-cassettes_fit
returns-else-cassettes_fit c = rw c.in-Purged.is (sym (fits-by _ ∙ simp (← c.cassettes_fit.ensures, c.if-cassettes_fit.false)))

pub returns-then-contains : goal.returns-then-contains
returns-then-contains c =
    let e : c.contains.result ≡ (in_range serial c.in-Dispensed.serial).test = search rules in
    rw c.in-Dispensed.is (sym (fits-by _ ∙ simp (← e, c.if-contains.true, c.cassettes_fit-then-contains.ensures)))

pub returns-else-contains : goal.returns-else-contains
returns-else-contains c =
    let e : c.contains.result ≡ (in_range serial c.in-Dispensed.serial).test = search rules in
    rw c.in-Dispensed.is (sym (fits-by _ ∙ simp (← e, c.if-contains.false)))

pub returns-then-contains-2 : goal.returns-then-contains-2
returns-then-contains-2 c =
    let e : c.contains-in-Last.result ≡ (in_range last_serial c.in-Last.serial).test = search rules in
    rw c.in-Last.is (sym (fits-by _ ∙ simp (← e, c.if-contains-2.true, c.cassettes_fit-then-contains-2.ensures)))

pub returns-else-contains-2 : goal.returns-else-contains-2
returns-else-contains-2 c =
    let e : c.contains-in-Last.result ≡ (in_range last_serial c.in-Last.serial).test = search rules in
    rw c.in-Last.is (sym (fits-by _ ∙ simp (← e, c.if-contains-2.false)))
