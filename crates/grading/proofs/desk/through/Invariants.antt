-- `grading::desk::through` meets its contract. The invariant: what is left of the piece, fed to what the loop has, leaves what the whole piece leaves; there are no more records
-- than bytes fed. Assumes nothing.
use mathlib.Core.Path.{◌≡◌}
use mathlib.Core.Bool.{true, false, cond}
use Prim.Native.Nat.{◌+◌, ◌-◌, ◌≤◌}
use lib.ListN.{length, drop}
use Rattle.recording.specs.Reading.{fresh_reader}
use Rattle.recording.specs.Taking.{glances_in}
use Rattle.recording.proofs.Places.{Inside}
use Rattle.grading_rules.specs.Feeding.{fed_piece}
use Rattle.grading_step.specs.Scaffolding.{shelf, joined}
use Rattle.grading.specs.Scaffolding.{replay_on}
use Rattle.grading.proofs.desk.through.Given as goal

abbrev pub invariant-loop-i : goal.invariant-loop-i
invariant-loop-i l =
    (l.i ≤ length l.piece) × (l.fed + length l.piece ≤ 4_294_967_295) × (l.run.declined ≤ l.run.records) × (l.run.records ≤ l.fed + l.i) × (l.all ≡ glances_in false l.piece)
    × (l.glances ≤ glances_in l.cut l.piece) × (l.cut ≡ true → Inside l.begun.place)
    × (fed_piece (replay_on (joined l.run (shelf l.books l.slots) l.bills l.store l.store255 l.table) (cond l.cut l.begun fresh_reader) (l.fed + l.i)) (drop l.i l.piece)
    ≡ fed_piece (replay_on (joined l.initial.run (shelf l.initial.books l.initial.slots) l.initial.bills l.initial.store l.initial.store255 l.initial.table) l.begun l.fed) l.piece)

abbrev pub decreases-loop-i : goal.decreases-loop-i
decreases-loop-i l = length l.piece - l.i
