-- How large a word's value and a total can be: `u64` holds every one. Assumes nothing.
use Prim.Native.Nat.{ℕ, ◌*◌, ◌^◌, ◌≤◌, ◌<◌}
use mathlib.Core.Logic.{⊎_elim}
use native.Mathlib.Nat.{mul-le-mul, pow-le-pow_right}
use native.Mathlib.Omega.{arith}
use Rattle.bill_table.specs.Worth.{is_scale}

-- at most nine zeros where the top bit is clear
pub zeros-few : (last : ℕ) → (is_scale last).holds → last < 0x80 → last ≤ 9
zeros-few last h low = ⊎_elim (λ (w : (0 ≤ last) × (last ≤ 9)). w.1) (λ (w : (0x80 ≤ last) × (last ≤ 0x89)). omega (arith, w.0)) h

pub places-few : (last : ℕ) → (is_scale last).holds → 0x80 ≤ last → last ≤ 0x89
places-few last h high = ⊎_elim (λ (w : (0 ≤ last) × (last ≤ 9)). omega (arith, w.1)) (λ (w : (0x80 ≤ last) × (last ≤ 0x89)). w.1) h

-- one bill: 255 with nine zeros at most
pub one-most : (first zeros : ℕ) → first < 256 → zeros ≤ 9 → first * 10 ^ zeros ≤ 255_000_000_000
one-most first zeros f z = mul-le-mul {n₁ = first} {m₁ = 10 ^ zeros} {n₂ = 255} {m₂ = 10 ^ 9} (omega arith) (pow-le-pow_right (omega arith) {i = zeros} {j = 9} z)

-- so many bills: 1,000,000 of them at most
pub all_most : (count one : ℕ) → count ≤ 1_000_000 → one ≤ 255_000_000_000 → count * one ≤ 255_000_000_000_000_000
all_most count one c o = mul-le-mul {n₁ = count} {m₁ = one} {n₂ = 1_000_000} {m₂ = 255_000_000_000} c o
