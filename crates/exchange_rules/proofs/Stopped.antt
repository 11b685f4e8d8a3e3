-- The line counts the paying commands that closed unknown in succession as the history does, up to the limit. Assumes nothing.
use Prim.Native.Nat.{ℕ, ◌+◌, ◌≤◌}
use mathlib.Core.Path.{◌≡◌, refl, sym, ap, ◌∙◌}
use mathlib.Core.Bool.{Bool, true, false}
use mathlib.Core.Logic.{◌↔◌}
use native.Mathlib.Omega.{arith}
use Rattle.refusals.specs.Rules.{under}
use Rattle.refusals.proofs.Rules.{by_cases, holds-true, fails-false, cond-true, cond-false}
use Rattle.ledger.specs.Account.{Ending, answered, refused, unknown}
use Rattle.ledger.proofs.Stopped.{going}
use Rattle.ledger.proofs.Follows.{least}
use Rattle.exchange_rules.specs.Limits.{doubt_limit}
use Rattle.exchange_rules.specs.Exchange.{one_more, doubts_after}

-- a number under the limit is itself, and any other the limit
least-low : (n : ℕ) → n ≤ doubt_limit → least doubt_limit n ≡ n
unfolding least
least-low n h = by_cases (under n doubt_limit) (λ g. cond-true _ _ (holds-true (under n doubt_limit) g)) (λ g. cond-false _ _ (fails-false (under n doubt_limit) g) ∙ omega arith)

least-high : (n : ℕ) → doubt_limit ≤ n → least doubt_limit n ≡ doubt_limit
unfolding least
least-high n h = cond-false _ _ (fails-false (under n doubt_limit) (λ g. omega arith))

-- one more
least_more : (n : ℕ) → one_more (least doubt_limit n) ≡ least doubt_limit (n + 1)
unfolding one_more
least_more n =
    by_cases (under n doubt_limit)
    (λ h. ap one_more (least-low n (omega arith)) ∙ cond-true _ _ (holds-true (under n doubt_limit) h) ∙ sym (least-low (n + 1) (omega arith)))
    (λ h. ap one_more (least-high n (omega arith)) ∙ sym (least-high (n + 1) (omega arith)))

-- what a closing makes of the count is what it makes of the history's
pub counted_same : (pays : Bool) (end : Ending) (m n : ℕ) → m ≡ least doubt_limit n → doubts_after pays end m ≡ least doubt_limit (going pays end n)
unfolding least
counted_same true answered m n e = refl
counted_same true refused m n e = refl
counted_same true unknown m n e = ap one_more e ∙ least_more n
counted_same false end m n e = e

-- the line is stopped exactly where the history says so
pub stopped-same : (m n : ℕ) → m ≡ least doubt_limit n → (doubt_limit ≤ m) ↔ (doubt_limit ≤ n)
stopped-same m n e =
    by_cases (under n doubt_limit)
    (λ h. let z = least-low n (omega arith) in ((λ g. omega arith), λ g. omega arith))
    (λ h. let z = least-high n (omega arith) in ((λ g. omega arith), λ g. omega arith))
