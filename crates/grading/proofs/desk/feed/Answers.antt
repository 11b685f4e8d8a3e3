-- `grading::desk::feed` meets its contract. Assumes nothing.
use mathlib.Core.Bool.{false}
use mathlib.Core.Path.{◌≡◌, sym, ◌∙◌}
use Prim.Native.Nat.{ℕ, ◌<◌}
use lib.Dec.{eqb}
use Rattle.std.proofs.Common.{eqb-true}
use Rattle.std.proofs.lemmas.Bool.{eqb-false}
use native.Mathlib.Omega.{arith}
use Rattle.recording.proofs.Places.{sound-unless}
use Rattle.grading.proofs.Loops.{empty-fed, unbroken, broken-fed}
use Rattle.grading.proofs.desk.feed.Goals as goal

-- what is not empty has a byte
some : (n : ℕ) → eqb n 0 ≡ false → 0 < n
some n e = omega (arith, eqb-false n 0 e)

pub returns-then-is_empty : goal.returns-then-is_empty
returns-then-is_empty c = empty-fed c.args.replay c.args.piece.now (eqb-true _ 0 (sym c.is_empty.ensures ∙ c.if-is_empty.true))

pub within-requires : goal.within-requires
within-requires c =
    record { counted = c.requires; unbroken = unbroken c.args.replay.reader.place (sound-unless _ c.in_default.not-Broken); piece_nonzero = some _ (sym c.is_empty.ensures ∙ c.if-is_empty.false) }

pub returns-in-Broken : goal.returns-in-Broken
returns-in-Broken c =
    c.broken.ensures ∙ broken-fed c.args.replay c.args.piece.now c.in-Broken.is (some _ (sym c.is_empty.ensures ∙ c.if-is_empty.false))

pub returns-in_default : goal.returns-in_default
returns-in_default c = c.within.ensures
