-- `parted::is_equal` meets its contract. Assumes nothing.
use mathlib.Core.Path.{◌≡◌, refl, ap, ◌∙◌}
use mathlib.Core.Bool.{◌&&◌}
use mathlib.Core.List.{List, [], ◌∷◌}
use Prim.Native.Nat.{ℕ}
use lib.Dec.{eqb}
use lib.Pointwise.{pointwise}
use Rattle.parted.specs.Parting.{equal}
use Rattle.parted.proofs.is_equal.Goals as goal

one_by_one : (s t : List ℕ) → pointwise eqb s t ≡ (equal s t).test
unfolding equal
one_by_one [] [] = refl
one_by_one [] (y ∷ t) = refl
one_by_one (x ∷ s) [] = refl
one_by_one (x ∷ s) (y ∷ t) = ap (λ b. eqb x y && b) (one_by_one s t)

pub returns : goal.returns
returns c = c.eq.ensures ∙ one_by_one c.args.a.now c.args.b.now
