-- The check, one byte after another, and of bytes in two parts. Assumes nothing.
use Prim.Native.Nat.{ℕ}
use mathlib.Core.Path.{◌≡◌, refl}
use mathlib.Core.List.{List, [], ◌∷◌, ◌++◌}
use lib.Bits.{bit_xor}
use lib.ListN.{length, drop}
use lib.Seq.{drop-length}
use Rattle.ccnet_check.specs.Check.{turns, check_from}

pub check-next : (c b : ℕ) (s : List ℕ) → check_from c (b ∷ s) ≡ check_from (turns 8 (bit_xor c b)) s
unfolding check_from
check-next c b s = refl

-- with no byte left, the check is what was to be reckoned
pub check-end : (c i all : ℕ) (s : List ℕ) → i ≡ length s → check_from c (drop i s) ≡ all → c ≡ all
unfolding check_from
check-end c i all s e h = rw (e, drop-length s) at h

pub check-append : (c : ℕ) (s t : List ℕ) → check_from c (s ++ t) ≡ check_from (check_from c s) t
unfolding check_from
check-append c [] t = refl
check-append c (b ∷ s) t = check-append (turns 8 (bit_xor c b)) s t
