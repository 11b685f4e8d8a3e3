-- `parted::due_at` meets its contract. Assumes nothing.
use mathlib.Core.Path.{sym, ap, ◌∙◌}
use Prim.Native.Nat.{◌<◌}
use lib.ListN.{length}
use Rattle.std.proofs.lemmas.Result.{err_from_is_err_and}
use Rattle.parted.specs.Parting.{due_of}
use Rattle.parted.proofs.Turns.{due-end, due-inside}
use borrow.Author.Rules.{rules}
use Rattle.parted.proofs.due_at.Goals as goal

pub returns-then-recording-at : goal.returns-then-recording-at
returns-then-recording-at c = sym (due-end _ _ (search rules))

pub returns : goal.returns
returns c =
    let here = c.args in
    let inside : here.at < length here.recording.now = search rules in
    sym (due-inside _ _ inside ∙ ap due_of (sym c.record_at.ensures ∙ c.in_ok-n.was))

pub returns-in_err-n : goal.returns-in_err-n
returns-in_err-n c =
    let p = err_from_is_err_and c.from_residual.result c.from_residual.ensures.1 in
    let here = c.args in
    let inside : here.at < length here.recording.now = search rules in
    rw (p.1, p.2) (sym (due-inside _ _ inside ∙ ap due_of (sym c.record_at.ensures ∙ c.in_err-n.was)))
