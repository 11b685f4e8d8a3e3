-- `dispenser_books::requests::kept_at` meets its contract. Assumes nothing.
use Rattle.dispenser_rules.specs.Requests.{kept_at}
use borrow.Author.Tests.{le-leb, le-ltb, lt-leb, lt-ltb}
use Rattle.dispenser_rules.proofs.Ring.{slot-within}
use borrow.Author.Rules.{rules}
use Rattle.dispenser_books.proofs.requests.kept_at.Goals.{then-held-place-via-then-held-place, then-held-place-via-else-held-place+then-held-gt-MOST, then-held-place-via-else-held-place+else-held-gt-MOST+then-next-ge-MOST}
use Rattle.dispenser_books.proofs.requests.kept_at.Goals as goal

pub returns-then-held-place : goal.returns-then-held-place
unfolding kept_at
returns-then-held-place c =
    elim c.then-held-place.branch [
      | then-held-place-via-then-held-place w ↦ simp (le-ltb _ _ w.if-held-place.true)
      | then-held-place-via-else-held-place+then-held-gt-MOST w ↦ simp (lt-leb _ _ w.if-held-gt-MOST.true, lt-ltb _ _ w.if-held-place.false)
      | then-held-place-via-else-held-place+else-held-gt-MOST+then-next-ge-MOST w ↦
          simp (le-ltb _ _ w.if-next-ge-MOST.true, le-leb _ _ w.if-held-gt-MOST.false, lt-ltb _ _ w.if-held-place.false)
    ]

pub bounds-requests-slot : goal.bounds-requests-slot
bounds-requests-slot c = rw c.around-slot.ensures (slot-within _ _ _ c.if-next-ge-MOST.false c.if-held-gt-MOST.false c.if-held-place.false)

pub offset_bounds-requests-slot : goal.offset_bounds-requests-slot
offset_bounds-requests-slot c = let w = bounds-requests-slot c in search rules

pub returns : goal.returns
unfolding kept_at
returns c = simp (← c.around-slot.ensures, lt-ltb _ _ c.if-next-ge-MOST.false, le-leb _ _ c.if-held-gt-MOST.false, lt-ltb _ _ c.if-held-place.false)
