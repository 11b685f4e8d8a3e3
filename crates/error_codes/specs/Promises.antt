-- What is promised of the error bytes: the statement, proved in proofs/Published.antt.
use Rattle.std.specs.Prelude.{ℕ, ◌<◌, ◌≡◌, ◌⊎◌, ◌↔◌, length}
use Rattle.refusals.specs.Rules.{within}
use Rattle.error_codes.specs.Errors.{published, listed, error_class}
use Rattle.error_codes.specs.declared.ErrorClass.TheVariants.{Unlisted}

-- the list of published codes: 27, and a byte is listed exactly where it is 30h to 38h, 3Ah to 3Dh, 3Fh to 4Ah, 4Ch or 4Eh; and exactly where its class is not
-- unlisted
pub record Published : Type 0 where
  pub many : length published ≡ 27
  pub exactly : (b : ℕ)
      → (listed b).holds
      ↔ ((within 0x30 0x38 b).holds ⊎ ((within 0x3A 0x3D b).holds ⊎ ((within 0x3F 0x4A b).holds ⊎ ((b ≡ 0x4C) ⊎ (b ≡ 0x4E)))))
  pub classed : (b : ℕ) → b < 256 → (listed b).holds ↔ (error_class b ≡ Unlisted → ⊥)
