-- The constant list: each published code with its class. Assumes nothing.
use Prim.Native.Nat.{ℕ, zero, suc, ◌<◌}
use mathlib.Core.Path.{◌≡◌, refl}
use mathlib.Core.List.{List, [], ◌∷◌, map}
use native.Mathlib.Nat.{le_of_suc-le-suc, not-suc-le-zero}
use lib.ListN.{length, get_or}
use Rattle.error_codes.specs.Errors.{published, error_class}
use Rattle.error_codes.specs.declared.Entry.{Entry}

abbrev pub entry : ℕ → Entry
entry b = record { code = b; class = error_class b }

abbrev pub entries : List Entry
entries = map entry published

mapped_at : (xs : List ℕ) (i : ℕ) (d : Entry) → i < length xs → get_or (map entry xs) i d ≡ entry (get_or xs i 0)
mapped_at [] i d h = absurd (not-suc-le-zero h)
mapped_at (x ∷ xs) zero d h = refl
mapped_at (x ∷ xs) (suc i) d h = mapped_at xs i d (le_of_suc-le-suc h)

pub entry_at : (i : ℕ) (d : Entry) → i < 27 → get_or entries i d ≡ entry (get_or published i 0)
entry_at i d h = mapped_at published i d h
