-- `error_codes::searched` meets its contract: none of the codes passed is the byte. Assumes nothing.
use mathlib.Core.Path.{◌≡◌}
use Prim.Native.Nat.{ℕ, ◌<◌}
use lib.ListN.{get_or}
use Rattle.error_codes.specs.Errors.{published}
use Rattle.error_codes.proofs.searched.Given as goal

abbrev pub invariant-loop-entry : goal.invariant-loop-entry
invariant-loop-entry l = (k : ℕ) → k < l.entry-index → get_or published k 0 ≡ l.error → ⊥
