-- `recording::taking::short_request` meets its contract. Assumes nothing.
use mathlib.Core.Path.{refl, sym, ◌∙◌}
use Prim.Native.Nat.{◌<◌}
use native.Mathlib.Nat.{mod-eq_of_lt}
use Rattle.numbers.specs.Seven.{number_end}
use Rattle.recording.specs.Reading.{request_read}
use borrow.Author.Rules.{rules}
use Rattle.recording.proofs.taking.short_request.Goals as goal

pub returns-then-is_request : goal.returns-then-is_request
unfolding request_read
returns-then-is_request c =
    let here = c.args in
    let small : here.upper < number_end = search rules in
    λ at rest. rw (sym c.is_request.ensures ∙ c.if-is_request.true, mod-eq_of_lt small) refl

pub returns : goal.returns
unfolding request_read
returns c = λ at rest. rw (sym c.is_request.ensures ∙ c.if-is_request.false) refl
