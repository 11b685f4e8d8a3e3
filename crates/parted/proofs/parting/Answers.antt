-- `parted::parting` meets its contract. The invariant: from here on the two part as they do from the start on, and no record is empty. Assumes nothing.
use mathlib.Core.Path.{◌≡◌, sym, ◌∙◌}
use mathlib.Core.List.{List}
use Prim.Native.Nat.{ℕ}
use native.Mathlib.Numerals.{add-one}
use Rattle.parted.specs.Parting.{turn_at}
use Rattle.parted.specs.declared.Turn.{Turn}
use Rattle.parted.specs.declared.Turn.TheVariants.{On}
use Rattle.parted.proofs.Turns.{Fits, due-fits, turn_on, from_start, from_on, from-ends}
use native.Mathlib.Omega.{arith}
use Rattle.parted.proofs.parting.Goals as goal

pub loop-n-init : goal.loop-n-init
loop-n-init c = (omega arith, omega arith, from_start _ _)

-- a turn that goes on: some bytes, within the student's
fit : (s t : List ℕ) (at n : ℕ) (r : Turn) → r ≡ turn_at s t at → r ≡ On n → Fits s at n
fit s t at n r e f = due-fits s at n (turn_on s t at n (sym e ∙ f)).student

pub overflow_add-at : goal.overflow_add-at
overflow_add-at c = omega (arith, (fit _ _ _ _ _ c.turn_at.ensures c.in-On.is).fits)

pub overflow_add-records : goal.overflow_add-records
overflow_add-records c = omega (arith, (fit _ _ _ _ _ c.turn_at.ensures c.in-On.is).fits, (fit _ _ _ _ _ c.turn_at.ensures c.in-On.is).some, c.loop-n.invariant.1)

pub loop-n-smaller : goal.loop-n-smaller
loop-n-smaller c = omega (arith, (fit _ _ _ _ _ c.turn_at.ensures c.in-On.is).fits, (fit _ _ _ _ _ c.turn_at.ensures c.in-On.is).some)

pub loop-n-preserved : goal.loop-n-preserved
loop-n-preserved c =
    let turn = c.loop-n in (
      omega (arith, (fit _ _ _ _ _ c.turn_at.ensures c.in-On.is).fits),
      omega (arith, (fit _ _ _ _ _ c.turn_at.ensures c.in-On.is).some, turn.invariant.1),
      rw (add-one turn.records) (sym (from_on _ _ turn.at turn.records _ (sym c.turn_at.ensures ∙ c.in-On.is)) ∙ turn.invariant.2),
    )

pub returns-in-Ends : goal.returns-in-Ends
returns-in-Ends c =
    let turn = c.loop-n in
    sym (from-ends _ _ turn.at turn.records _ (sym c.turn_at.ensures ∙ c.in-Ends.is)) ∙ turn.invariant.2
