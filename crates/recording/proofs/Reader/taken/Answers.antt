-- `recording::Reader::taken` meets its contract. Assumes nothing.
use mathlib.Core.Path.{sym, ◌∙◌}
use Rattle.recording.proofs.Folds.{taken-before, taken-past}
use Rattle.recording.proofs.Reader.taken.Goals as goal

pub returns-then-at-ge-MOST : goal.returns-then-at-ge-MOST
returns-then-at-ge-MOST c = c.past.ensures ∙ sym (taken-past _ _ _ c.if-at-ge-MOST.true)

pub returns : goal.returns
returns c = c.byte.ensures ∙ sym (taken-before _ _ _ c.if-at-ge-MOST.false)
