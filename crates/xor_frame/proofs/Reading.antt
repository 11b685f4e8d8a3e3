-- The tests of a frame: they give 01's numbers in its order, and those that `judge` makes, and then those of the fields, are all of them.
-- Assumes nothing.
use Prim.Native.Nat.{ℕ, ◌+◌, ◌≤◌}
use mathlib.Core.Path.{◌≡◌, refl, sym, ◌∙◌}
use mathlib.Core.Bool.{Bool, true, false, cond, not}
use mathlib.Core.List.{List}
use native.Mathlib.Omega.{arith}
use lib.Dec.{eqb}
use lib.ListN.{length}
use borrow.Author.Tests.{le-ltb, ne_eqb}
use Rattle.refusals.specs.Rules.{Condition, judged, NoneOf, same}
use Rattle.refusals.proofs.Rules.{exactly, certain}
use Rattle.xor_frame.specs.Layout.{Field, sizes}
use Rattle.xor_frame.specs.Frame.{code_of, length_with, faults}
use Rattle.xor_frame.specs.Parts.{outer_faults, field_faults}
use Rattle.xor_frame.specs.Promises.{InOrder}
use Rattle.xor_frame.specs.declared.frame.Fault.{Fault}
use Rattle.xor_frame.specs.Verdict.{Verdict}
use Rattle.xor_frame.specs.Verdict.{Good, Bad}
use Rattle.xor_frame.proofs.Lengths.{length-known, length_some}

pub in_order : InOrder
unfolding faults
in_order first id known fields s = refl

-- a code without a length is one that is not in the table
unknown : (known : ℕ → Condition) (fields : ℕ → List Field) (code : ℕ) → eqb (length_with known fields code) 0 ≡ not (known code).test
unfolding length_with
unknown known fields code = go (known code).test
  where
    go : (t : Bool) → eqb (cond t (6 + sizes (fields code)) 0) 0 ≡ not t
    go true = ne_eqb (6 + sizes (fields code)) 0 (λ e. omega arith)
    go false = refl

module _ {A : Type 0} (refuse : Fault → A) where
  -- refused as the verdict says, or gone on with
  abbrev pub after : Verdict → A → A
  after Good a = a
  after (Bad f) a = refuse f

  through : (t : Bool) (f : Fault) (v : Verdict) (a : A) → after (cond t (Bad f) v) a ≡ cond t (refuse f) (after v a)
  through true f v a = refl
  through false f v a = refl

  -- all the tests of a frame of six bytes or more
  pub reading : (first id : ℕ) (known : ℕ → Condition) (fields : ℕ → List Field) (s : List ℕ) (done : A) → 6 ≤ length s
      → judged (faults first id known fields s) refuse done
      ≡ after (judged (outer_faults first id (length_with known fields (code_of s)) s) Bad Good) (judged (field_faults (fields (code_of s)) s) refuse done)
  unfolding faults
  reading first id known fields s done h = rw (le-ltb (length s) 6 h, unknown known fields (code_of s)) (simp through)

-- a frame that passed the tests before its fields has a code of the table, and is as long as that asks
module _ (first id : ℕ) (known : ℕ → Condition) (fields : ℕ → List Field) (s : List ℕ)
    (e : judged (outer_faults first id (length_with known fields (code_of s)) s) Bad Good ≡ Good) where
  passed : NoneOf (outer_faults first id (length_with known fields (code_of s)) s)
  passed =
      (exactly (outer_faults first id (length_with known fields (code_of s)) s) Bad Good (λ x y p. cc)
      (λ x p. absurd (let z : ◌≡◌ {A = ℕ} 0 1 = cc in omega arith))).accepted.0 e

  shown : (known (code_of s)).test ≡ true
  shown = length_some known fields (code_of s) passed.1.0

  pub good-frame : (known (code_of s)).holds × (6 + sizes (fields (code_of s)) ≡ length s)
  good-frame = (
    (known (code_of s)).tells.shown shown,
    sym (certain (same (length s) (length_with known fields (code_of s))) passed.1.1.0 ∙ length-known known fields (code_of s) shown),
  )
