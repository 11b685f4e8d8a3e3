-- `error_codes::searched` meets its contract: none of the codes passed is the byte. Assumes nothing.
use mathlib.Core.Path.{sym, ap, ◌∙◌}
use native.Mathlib.Omega.{arith}
use borrow.Author.Count.{below_more}
use borrow.Author.Rules.{rules}
use Rattle.refusals.specs.Rules.{among}
use Rattle.error_codes.specs.Errors.{published, listed, error_class}
use Rattle.error_codes.specs.declared.Entry.{Entry}
use Rattle.error_codes.proofs.Published.{among-place, unlisted-class}
use Rattle.error_codes.proofs.Entries.{entry_at}
use Rattle.error_codes.proofs.searched.Goals as goal

pub loop-entry-init : goal.loop-entry-init
loop-entry-init c = λ k h e. omega arith

pub returns-then-entry-error : goal.returns-then-entry-error
unfolding error_class listed among
returns-then-entry-error c =
    let x = entry_at c.loop-entry.entry-index _ (search rules) in
    ap (λ (e : Entry). e.class) x ∙ ap error_class (sym (ap (λ (e : Entry). e.code) x) ∙ c.if-entry-error.true)

pub loop-entry-preserved : goal.loop-entry-preserved
unfolding error_class listed among
loop-entry-preserved c =
    let x = entry_at c.loop-entry.entry-index _ (search rules) in
    below_more _ _ c.loop-entry.invariant (λ e. c.if-entry-error.false (ap (λ (y : Entry). y.code) x ∙ e))

pub returns : goal.returns
unfolding listed
returns c =
    let error = c.args.error in
    sym (unlisted-class error (search rules) (among-place error published (λ k h. c.loop-entry.invariant k (omega arith))))
