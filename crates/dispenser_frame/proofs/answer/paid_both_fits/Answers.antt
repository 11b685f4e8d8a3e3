-- `dispenser_frame::answer::paid_both_fits` meets its contract: the ranges of each cassette in turn are those of 01's order. Assumes nothing.
use Prim.Native.Nat.{ℕ}
use mathlib.Core.Path.{◌≡◌, refl, sym, ◌∙◌}
use mathlib.Core.Bool.{Bool, true, false, ◌&&◌, and-false}
use mathlib.Core.List.{[], ◌∷◌}
use Rattle.refusals.specs.Rules.{within}
use Rattle.xor_frame.specs.Layout.{all_in_range}
use Rattle.dispenser_frame_rules.specs.Table.{paid_one_fields, paid_both_fields}
use Rattle.dispenser_frame.proofs.answer.paid_both_fits.Goals as goal

-- the tests of one cassette and then of the other are those of both field by field; e, the error, is tested in each
by_field : (a b e s r c d t q : Bool)
    → ((a && (b && (e && (s && (r && true))))) && (c && (d && (e && (t && (q && true))))))
    ≡ (a && (b && (c && (d && (e && (s && (t && (r && (q && true)))))))))
by_field false b e s r c d t q = refl
by_field true false e s r c d t q = refl
by_field true true false s r c d t q = simp and-false
by_field true true true false r c d t q = simp and-false
by_field true true true true false c d t q = simp and-false
by_field true true true true true c d t q = refl

both-fit : (uc ux lc lx e us ls ur lr : ℕ)
    → ((all_in_range paid_one_fields (uc ∷ ux ∷ e ∷ us ∷ ur ∷ [])).test && (all_in_range paid_one_fields (lc ∷ lx ∷ e ∷ ls ∷ lr ∷ [])).test)
    ≡ (all_in_range paid_both_fields (uc ∷ ux ∷ lc ∷ lx ∷ e ∷ us ∷ ls ∷ ur ∷ lr ∷ [])).test
unfolding all_in_range
both-fit uc ux lc lx e us ls ur lr =
    by_field (within 0 69 uc).test (within 0 69 ux).test (within 0x30 0x7F e).test (within 0x30 0x31 us).test (within 0 99 ur).test (within 0 69 lc).test (within 0 69 lx).test (within 0x30 0x31 ls).test (within 0 99 lr).test

pub returns-then-paid_one_fits : goal.returns-then-paid_one_fits
returns-then-paid_one_fits c =
    sym (sym (both-fit _ _ _ _ _ _ _ _ _) ∙ simp (← c.paid_one_fits.ensures, c.if-paid_one_fits.true, c.paid_one_fits-then-paid_one_fits.ensures))

pub returns-else-paid_one_fits : goal.returns-else-paid_one_fits
returns-else-paid_one_fits c =
    sym (sym (both-fit _ _ _ _ _ _ _ _ _) ∙ simp (← c.paid_one_fits.ensures, c.if-paid_one_fits.false))
