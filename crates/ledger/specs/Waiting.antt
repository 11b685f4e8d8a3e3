-- What has come since something was last put, and how long has been waited, read off a history of any line.
use Rattle.std.specs.Prelude.{ℕ, ◌+◌, Bool, true, false, cond, ◌||◌, List, [], ◌∷◌, ◌++◌, eqb}
use Rattle.ledger.specs.Events.{Deed, asks, hears, waits, own, declined, done, History, taken}

-- there is at least one byte
abbrev pub some : List ℕ → Bool
some [] = false
some (b ∷ s) = true

-- "bytes before 01h are skipped": the bytes from the first that is a frame's opening byte on
unfoldable pub from : ℕ → List ℕ → List ℕ
from opening [] = []
from opening (b ∷ s) = cond (eqb b opening) (b ∷ s) (from opening s)

-- the milliseconds that passed with an accepted call
abbrev pub elapsed : {R O : Type 0} → Deed R O → ℕ
elapsed (asks r) = 0
elapsed (hears b) = 0
elapsed (waits ms) = ms
elapsed (own o) = 0

module _ {R O K : Type 0} where
  -- the bytes accepted since anything was put
  unfoldable pub heard : History R O K → List ℕ
  heard [] = []
  heard (declined ∷ h) = heard h
  heard (done d put left ∷ h) = cond (some put) [] (heard h ++ taken d)

  -- how long a wait has gone on: the milliseconds since the call that began it. A call begins a wait where it puts something, and where `turns` says so
  unfoldable pub waited : (History R O K → Deed R O → Bool) → History R O K → ℕ
  waited turns [] = 0
  waited turns (declined ∷ h) = waited turns h
  waited turns (done d put left ∷ h) = cond (some put || turns h d) 0 (waited turns h + elapsed d)
