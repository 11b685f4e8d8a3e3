-- What a sending leaves: the answer's frame whole, and every other byte of the room as it was. Assumes nothing.
use Prim.Native.Nat.{ℕ, ◌≤◌}
use mathlib.Core.Path.{◌≡◌, ap}
use mathlib.Core.List.{List}
use native.Mathlib.Omega.{arith}
use lib.ListN.{length}
use Rattle.refusals.specs.Put.{over, laid, refused as not-put}
use Rattle.refusals.proofs.Rules.{none-judged}
use Rattle.dispenser_frame_rules.specs.Answer.{answer_code, answer_fits, answer_frame, answer_refusals, write_answer}
use Rattle.dispenser_frame_rules.specs.declared.answer.Answer.{Answer}
use Rattle.dispenser_frame_rules.proofs.Codes.{answer-most}
use Rattle.pretend_rules.specs.Device.{bytes_put, handed, send}

-- an answer that fits is put whole
pub sent-laid : (a : Answer) (r : List ℕ) → (answer_fits a).holds → 21 ≤ length r → send a r ≡ handed (length (answer_frame a)) (over (answer_frame a) r)
unfolding send write_answer answer_refusals
sent-laid a r h long =
    ap (λ v. handed (bytes_put v.answer) v.room)
    (none-judged (λ why. not-put why r) (laid (answer_frame a) r) (answer_refusals a r)
    ((λ x. omega (arith, answer-most (answer_code a))), ((λ x. x h), tt)))
