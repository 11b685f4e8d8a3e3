-- The last 32 paying requests, as the account keeps them (02, Q-6): a ring of 32 slots.
use Rattle.std.specs.Prelude.{ℕ, ◌+◌, ◌-◌, cond, List, ◌++◌, ltb, leb, eqb, take, drop, set, get_or, replicate}
use Rattle.dispenser_rules.specs.Account.{fresh_cassettes}
use Rattle.dispenser_rules.specs.declared.account.Account.{Account}
use Rattle.dispenser_rules.specs.declared.requests.Standing.TheVariants.{Open}
use Rattle.dispenser_rules.specs.declared.requests.KeptRequest.{KeptRequest}
use Rattle.dispenser_rules.specs.declared.requests.Place.{Place}
use Rattle.dispenser_rules.specs.declared.requests.Requests.{Requests}
use Rattle.dispenser_rules.specs.declared.requests.Written.{Written}
use Rattle.dispenser_rules.specs.KeptAt.{KeptAt}
use Rattle.dispenser_rules.specs.KeptAt.{Nothing, Request}

-- "the last 32 paying requests"
abbrev pub most : ℕ
most = 32

abbrev pub place : ℕ → ℕ → Place
place next held = record { next = next; held = held }

-- what stands in a slot that no request was written into
abbrev pub no_request : KeptRequest
no_request = record { code = 0; upper = 0; lower = 0; handed = 0; standing = Open }

unfoldable pub fresh_requests : Requests
fresh_requests = record { place = place 0 0; slots = replicate most no_request }

abbrev pub fresh_account : Account
fresh_account = record { cassettes = fresh_cassettes; requests = fresh_requests }

-- the slot behind one; the first is behind the last
unfoldable pub slot_behind : ℕ → ℕ
slot_behind i = cond (ltb i 31) (i + 1) 0

-- one more is held, up to 32
unfoldable pub one_more : ℕ → ℕ
one_more n = cond (ltb n most) (n + 1) n

-- one request more
abbrev pub advanced : Place → Place
advanced p = place (slot_behind p.next) (one_more p.held)

-- the slot of the newest request: the one before the next
unfoldable pub newest_slot : Place → ℕ
newest_slot p = cond (eqb p.next 0) 31 (p.next - 1)

-- nothing is written
abbrev pub unwritten : Written
unwritten = record { slot = most; request = no_request }

-- the slots after a call
abbrev pub slots_after : List KeptRequest → Written → List KeptRequest
slots_after slots w = cond (ltb w.slot most) (set slots w.slot w.request) slots

-- ---- what is handed out

-- the slots from the next one on, which is the oldest where all are held, and then those before it
abbrev pub turned : Requests → List KeptRequest
turned r = drop r.place.next r.slots ++ take r.place.next r.slots

-- "oldest first": the last of them, as many as are held
unfoldable pub oldest_first : Requests → List KeptRequest
oldest_first r = drop (most - r.place.held) (turned r)

-- the slot so far behind the first, around the ring
unfoldable pub around : ℕ → ℕ
around i = cond (ltb i most) i (i - most)

-- the request at a place, the oldest at 0, or none
unfoldable pub kept_at : Requests → ℕ → KeptAt
kept_at r i =
    cond (ltb i r.place.held)
    (cond (leb r.place.held most)
    (cond (ltb r.place.next most)
    (Request (get_or r.slots (around (r.place.next + (most - r.place.held + i))) no_request))
    Nothing)
    Nothing)
    Nothing
