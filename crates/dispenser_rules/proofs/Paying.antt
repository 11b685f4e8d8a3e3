-- A request that can be sent pays exactly where it asks for notes. Assumes nothing.
use Prim.Native.Nat.{ℕ, ◌+◌, ◌<◌}
use mathlib.Core.Path.{◌≡◌, refl, sym, ◌∙◌}
use mathlib.Core.Bool.{Bool, true, false, ◌||◌, true≢false}
use mathlib.Core.Logic.{◌↔◌}
use native.Mathlib.Omega.{arith}
use Rattle.dispenser_frame_rules.specs.Table.{table, line_in, line, asks}
use Rattle.dispenser_frame_rules.specs.Command.{counts_fit, sendable}
use Rattle.dispenser_frame_rules.proofs.Codes.{by_code}
use Rattle.dispenser_rules.specs.Session.{pays}
use Rattle.dispenser_rules.specs.Promises.{PaysForNotes}

-- the codes that pay are those whose line in the table asks notes of a cassette
by-table : (code : ℕ) → pays code ≡ ((line code).upper || (line code).lower)
unfolding pays table line_in
by-table =
    by_code (λ code. pays code ≡ ((line code).upper || (line code).lower)) refl refl refl refl refl refl refl
    (λ code a b c d e f g. simp (a, b, c, d, e, f, g))

asked : (u l : Bool) (upper lower : ℕ) → (asks u upper).holds → (asks l lower).holds → ((u || l) ≡ true) ↔ (0 < upper + lower)
asked true l upper lower a b = ((λ e. omega arith), λ h. refl)
asked false true upper lower a b = ((λ e. omega arith), λ h. refl)
asked false false upper lower a b = ((λ e. absurd (true≢false (sym e))), λ h. absurd (omega arith))

pub pays-for-notes : PaysForNotes
unfolding sendable counts_fit
pays-for-notes code upper lower h =
    let x = asked (line code).upper (line code).lower upper lower h.1.0 h.1.1 in
    ((λ e. x.0 (sym (by-table code) ∙ e)), λ g. by-table code ∙ x.1 g)
