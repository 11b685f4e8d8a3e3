-- What a part of a lent slice is that is handed back: its bytes, and its place (01: "a part of the caller's own bytes, without a copy").
use Rattle.std.specs.Prelude.{ℕ, ◌+◌, ◌≡◌, List, take, drop}
use Rattle.std.specs.Borrow.{Bor}

-- r is the n bytes of s from its byte a on, and lies there: in the same block of memory, a bytes past where s begins
pub record Part (s : Bor (List ℕ)) (a n : ℕ) (r : Bor (List ℕ)) : Type 0 where
  pub bytes : r.now ≡ take n (drop a s.now)
  pub place : r.ref_ptr ≡ (s.ref_ptr.0, a + s.ref_ptr.1)
