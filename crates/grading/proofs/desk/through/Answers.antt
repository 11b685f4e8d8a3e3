-- `grading::desk::through` meets its contract. The invariant: what is left of the piece, fed to what the loop has, leaves what the whole piece leaves; there are no more records
-- than bytes fed. Assumes nothing.
use mathlib.Core.Path.{◌≡◌, sym, ap, ◌∙◌}
use mathlib.Core.Bool.{true≢false}
use Rattle.recording.specs.NextRecord.{Bad}
use Rattle.grading_rules.specs.Feeding.{broken_at}
use Rattle.grading_step.specs.Scaffolding.{shelf, joined}
use Rattle.grading.proofs.Loops.{further, gives, breaks, holds_as, other-fault, uncut, ends_as, begun-inside, begins, eq-le, counts, joins, in-slot, no_slot, shelved, no-bill}
use native.Mathlib.Omega.{arith}
use Rattle.dispenser_rules.specs.Requests.{slots_after}
use Rattle.validator_rules.specs.Bills.{booked_by}
use Rattle.grading.proofs.desk.through.Goals as goal
use Rattle.grading.proofs.desk.through.Goals.{then-slot-lt-MOST, else-slot-lt-MOST, then-is_some, else-is_some}

pub loop-i-init : goal.loop-i-init
loop-i-init c = (
  omega arith,
  omega (arith, c.requires.piece_bound),
  omega (arith, c.requires.counted.declined_most),
  omega (arith, c.requires.counted.records_most),
  c.glances_in-all.ensures,
  eq-le c.glances_in-glances.ensures,
  λ e. begun-inside c.args.replay.reader.place c.requires.unbroken (sym c.is_begun-cut.ensures ∙ e),
  rw c.is_begun-cut.ensures (begins c.args.replay c.args.piece.now c.requires.piece_nonzero),
)

pub record_in-found-requires : goal.record_in-found-requires
record_in-found-requires c = c.loop-i.invariant.5

pub overflow_add-at : goal.overflow_add-at
overflow_add-at c = omega (arith, c.loop-i-test.true, c.loop-i.invariant.1)

pub reader_after-reader-requires : goal.reader_after-reader-requires
reader_after-reader-requires c = omega (arith, c.loop-i.invariant.1)

pub overflow_add-end : goal.overflow_add-end
overflow_add-end c = omega (arith, c.loop-i.invariant.1)

pub rejoined-requires : goal.rejoined-requires
rejoined-requires c =
    let inv = c.loop-i.invariant in
    record { declined_bound = omega (arith, inv.0, inv.1, inv.2, inv.3); records_bound = omega (arith, inv.0, inv.1, inv.3); fed_bound = omega (arith, inv.1) }

pub returns-in-Cut : goal.returns-in-Cut
returns-in-Cut c =
    let turn = c.loop-i in
    let inv = turn.invariant in
    let h = c.loop-i-test.true in
    let d = joined turn.run (shelf turn.books turn.slots) turn.bills turn.store turn.store255 turn.table in
    let found = c.record_in-found.result in
    let told = c.record_in-found.ensures in
    c.rejoined.ensures
    ∙ holds_as _ _ turn.i turn.cut _ h inv.1 inv.6 found told d (c.in-Err.is ∙ ap Bad c.in-Cut.is) inv.7 c.reader_at.ensures c.reader_after-reader.ensures

pub returns-in_default : goal.returns-in_default
returns-in_default c =
    let turn = c.loop-i in
    let inv = turn.invariant in
    let h = c.loop-i-test.true in
    let d = joined turn.run (shelf turn.books turn.slots) turn.bills turn.store turn.store255 turn.table in
    let found = c.record_in-found.result in
    let told = c.record_in-found.ensures in
    c.broken.ensures
    ∙ ap (broken_at _) c.start_of.ensures
    ∙ breaks _ _ turn.i turn.cut _ h inv.1 inv.6 found told d (other-fault _ (uncut _ c.in_default.not-Cut)) c.in-Err.is inv.7

pub step-moved-requires : goal.step-moved-requires
step-moved-requires c =
    let inv = c.loop-i.invariant in
    record { declined_bound = omega (arith, inv.0, inv.1, inv.2, inv.3); records_bound = omega (arith, inv.0, inv.1, inv.3) }

pub overflow_add-i : goal.overflow_add-i
overflow_add-i c =
    let turn = c.loop-i in
    let inv = turn.invariant in
    let h = c.loop-i-test.true in
    let d = joined turn.run (shelf turn.books turn.slots) turn.bills turn.store turn.store255 turn.table in
    let found = c.record_in-found.result in
    let told = c.record_in-found.ensures in
    let f = further _ _ turn.i turn.cut _ h inv.1 inv.6 found told d _ _ c.in-Ok.is in
    omega (arith, f.1, inv.1)

pub loop-i-smaller : goal.loop-i-smaller
loop-i-smaller c =
    let turn = c.loop-i in
    let inv = turn.invariant in
    let h = c.loop-i-test.true in
    let d = joined turn.run (shelf turn.books turn.slots) turn.bills turn.store turn.store255 turn.table in
    let found = c.record_in-found.result in
    let told = c.record_in-found.ensures in
    let f = further _ _ turn.i turn.cut _ h inv.1 inv.6 found told d _ _ c.in-Ok.is in
    omega (arith, f.0, f.1)

pub loop-i-preserved : goal.loop-i-preserved
loop-i-preserved c =
    let turn = c.loop-i in
    let inv = turn.invariant in
    let h = c.loop-i-test.true in
    let d = joined turn.run (shelf turn.books turn.slots) turn.bills turn.store turn.store255 turn.table in
    let found = c.record_in-found.result in
    let told = c.record_in-found.ensures in
    let moved = c.step-moved.result in
    let g = c.step-moved.ensures (shelf turn.books turn.slots) turn.bills in
    let x = c.in-Ok.x in
    let size = c.in-Ok.size in
    let is = c.in-Ok.is in
    let noted = c.written-noted.result in
    let kept : c.if-slot-lt-MOST.slots ≡ slots_after turn.slots noted =
    elim c.if-slot-lt-MOST.branch [
      | then-slot-lt-MOST w ↦ w.slots-is ∙ in-slot turn.slots noted w.if-slot-lt-MOST.true
      | else-slot-lt-MOST w ↦ w.slots-is ∙ no_slot turn.slots noted w.if-slot-lt-MOST.false
    ] in
    let credited : c.if-is_some.bills ≡ booked_by turn.bills moved.bill =
    elim c.if-is_some.branch [
      | then-is_some w ↦ w.bills-is ∙ w.booked-counts.ensures
      | else-is_some w ↦ w.bills-is ∙ no-bill turn.bills moved.bill (sym c.is_some.ensures ∙ w.if-is_some.false)
    ] in
    let on = shelved turn.books c.booked-entered.result turn.slots c.if-slot-lt-MOST.slots moved.run.asked moved.run.payer.handed moved.entry noted c.booked-entered.ensures c.written-noted.ensures kept in
    let f = further _ _ turn.i turn.cut _ h inv.1 inv.6 found told d x size is in
    let n = counts d _ x g in (
      f.1,
      inv.1,
      omega (arith, inv.2, n.0, n.1),
      omega (arith, f.0, inv.3, n.0),
      inv.4,
      eq-le inv.4,
      λ e. absurd (true≢false (sym e)),
      gives _ _ turn.i turn.cut _ h inv.1 inv.6 found told d _ x size is (joins _ _ _ _ on credited ∙ g) inv.7,
    )

pub overflow_add-end-2 : goal.overflow_add-end-2
overflow_add-end-2 c = omega (arith, c.loop-i.invariant.1)

pub rejoined-requires-2 : goal.rejoined-requires-2
rejoined-requires-2 c =
    let inv = c.loop-i.invariant in
    record { declined_bound = omega (arith, inv.0, inv.1, inv.2, inv.3); records_bound = omega (arith, inv.0, inv.1, inv.3); fed_bound = omega (arith, inv.1) }

pub returns : goal.returns
returns c =
    let end = c.loop-i in
    let inv = end.invariant in
    let d = joined end.run (shelf end.books end.slots) end.bills end.store end.store255 end.table in
    c.rejoined-2.ensures ∙ ends_as _ _ end.i c.reader_at-reader.ensures c.loop-i-test.false inv.0 d inv.7
