-- `live::entry::note` meets its contract. Assumes nothing.
use mathlib.Core.Path.{sym, ◌∙◌}
use Rattle.live.proofs.Entries.{was-full, was-written}
use Rattle.live.proofs.entry.note.Goals as goal

pub returns-then-is_full : goal.returns-then-is_full
returns-then-is_full c =
    let args = c.args in
    let size = c.length_of in
    was-full args.written args.records args.declined args.x args.out.now size.result size.ensures (sym c.is_full.ensures ∙ c.if-is_full.true)

pub returns-in-Ok : goal.returns-in-Ok
returns-in-Ok c =
    let args = c.args in
    let size = c.length_of in
    let put = c.write in
    was-written args.written args.records args.declined args.x args.out.now size.result size.ensures
    (sym c.is_full.ensures ∙ c.if-is_full.false) put.result _ _ c.in-Ok.is put.ensures

pub returns-in-Err : goal.returns-in-Err
returns-in-Err c =
    let args = c.args in
    let size = c.length_of in
    let put = c.write in
    was-written args.written args.records args.declined args.x args.out.now size.result size.ensures
    (sym c.is_full.ensures ∙ c.if-is_full.false) put.result _ _ c.in-Err.is put.ensures
