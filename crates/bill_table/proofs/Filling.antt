-- A body laid at the start of 120 zeros is the body filled up with zeros. Assumes nothing.
use Prim.Native.Nat.{ℕ, zero, suc, ◌-◌, ◌≤◌}
use mathlib.Core.Path.{◌≡◌, ap}
use mathlib.Core.List.{List, ◌++◌, append-nil}
use native.Mathlib.Numerals.{unary_clauses}
use native.Mathlib.Omega.{arith}
use lib.ListN.{length, drop, replicate, length-append, length-replicate}
use Rattle.refusals.specs.Put.{over}
use Rattle.bill_table.specs.Table.{table_size, filled}

-- what is left of so many zeros
pub drop-zeros : (k n : ℕ) → drop {A = ℕ} k (replicate n 0) ≡ replicate (n - k) 0
drop-zeros zero n = simp unary_clauses
drop-zeros (suc k) zero = let e : 0 - suc k ≡ 0 = omega arith in rw e
drop-zeros (suc k) (suc n) = simp unary_clauses (drop-zeros k n)

pub filled_over : (body : List ℕ) → over body (replicate table_size 0) ≡ filled body
unfolding over filled
filled_over body = ap (λ (z : List ℕ). body ++ z) (drop-zeros (length body) table_size)

-- a table that is filled up has 120 bytes, and one that has them already is as it was
pub filled-size : (body : List ℕ) → length body ≤ table_size → length (filled body) ≡ table_size
unfolding filled
filled-size body h = simp (length-append, length-replicate) (omega arith)

pub filled-whole : (body : List ℕ) → length body ≡ table_size → filled body ≡ body
unfolding filled
filled-whole body e =
    let z : table_size - length body ≡ 0 = omega arith in
    rw z (append-nil body)
