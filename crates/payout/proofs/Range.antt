-- The cassettes fit: one by one, as the code goes over them. Assumes nothing.
use Prim.Native.Nat.{ℕ, ◌+◌, ◌≤◌, ◌<◌}
use mathlib.Core.Path.{◌≡◌}
use mathlib.Core.Bool.{true, ◌&&◌}
use mathlib.Core.List.{List}
use native.Mathlib.Numerals.{add-one}
use native.Mathlib.Omega.{arith}
use lib.ListN.{length, get_or, drop, drop_of_length-le}
use lib.Seq.{drop-cons}
use Rattle.payout.specs.Plan.{fits, cassettes_fit}

module _ (vs ss : List ℕ) (same : length vs ≡ length ss) (i : ℕ) where
  pub fit-step : i < length vs
      → (cassettes_fit (drop i vs) (drop i ss)).test ≡ ((fits (get_or vs i 0) (get_or ss i 0)).test && (cassettes_fit (drop (i + 1) vs) (drop (i + 1) ss)).test)
  unfolding cassettes_fit
  fit-step h = rw (drop-cons vs i 0 h, drop-cons ss i 0 (omega (arith, same, h)), add-one i)

  pub fit-end : length vs ≤ i → (cassettes_fit (drop i vs) (drop i ss)).test ≡ true
  unfolding cassettes_fit
  fit-end h = let h' : length ss ≤ i = omega (arith, same, h) in rw (drop_of_length-le vs h, drop_of_length-le ss h')
