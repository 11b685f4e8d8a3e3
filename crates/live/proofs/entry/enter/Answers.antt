-- `live::enter` meets its contract. Assumes nothing.
use Rattle.live.proofs.Entries.{can-grow, was-entered, was-kept}
use mathlib.Core.Path.{refl}
use Rattle.live.proofs.entry.enter.Goals as goal

pub step-lived-requires : goal.step-lived-requires
step-lived-requires c =
    let args = c.args in
    let note = c.note-entry in
    let g = can-grow args.written args.desk.records args.desk.declined args.x args.out.now note.result _ _ note.ensures c.in-Ok.is in
    record { declined_bound = g.0; records_bound = g.1 }

pub returns-in-Ok : goal.returns-in-Ok
returns-in-Ok c =
    let args = c.args in
    let note = c.note-entry in
    was-entered args.desk args.written args.x args.out.now args.room.now args.room255.now note.result _ note.ensures c.step-lived.result _ _ _
    c.in-Ok.is c.step-lived.ensures

pub returns-in-Err : goal.returns-in-Err
returns-in-Err c =
    let args = c.args in
    let note = c.note-entry in
    was-kept args.desk args.written args.x args.out.now args.room.now args.room255.now note.result _ note.ensures _ c.in-Err.is _ refl
