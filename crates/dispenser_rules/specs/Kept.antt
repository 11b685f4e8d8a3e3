-- The kept requests, told from a history (02, Q-6: "Show that each kept entry is what the history says, and that the sums still cover all requests, including those
-- pushed out"). The second half is demand 3, whose sums go over all commands of the history.
use Rattle.std.specs.Prelude.{ℕ, zero, suc, ◌≡◌, cond, List, [], ◌∷◌, reverse, take}
use Rattle.ledger.specs.Account.{Fate, waiting, answered_by, turned_down, in_doubt, Command, commands}
use Rattle.ledger.specs.Calls.{run}
use Rattle.exchange_rules.specs.Sums.{notes}
use Rattle.dispenser_frame_rules.specs.declared.answer.Cassette.TheVariants.{Upper, Lower}
use Rattle.dispenser_rules.specs.Requests.{most, oldest_first, kept_at}
use Rattle.dispenser_rules.specs.Session.{pays, fresh_session}
use Rattle.dispenser_rules.specs.Calls.{Call, Request, host, history}
use Rattle.dispenser_rules.specs.Unit.{exit_of, model2000_t}
use Rattle.dispenser_rules.specs.declared.requests.Standing.{Standing}
use Rattle.dispenser_rules.specs.declared.requests.Standing.TheVariants.{Open, Answered, Refused, Unknown}
use Rattle.dispenser_rules.specs.declared.requests.KeptRequest.{KeptRequest}
use Rattle.dispenser_rules.specs.KeptAt.{KeptAt}
use Rattle.dispenser_rules.specs.KeptAt.{Nothing, Request as Found}

-- how a command of the history stands; what was paid by an answer is read off its bytes
abbrev pub stands : Fate → ℕ → Standing
stands waiting code = Open
stands (answered_by f) code = Answered (notes (exit_of code f Upper)) (notes (exit_of code f Lower))
stands turned_down code = Refused
stands in_doubt code = Unknown

-- "with code, counts asked, hand-overs and how each closed"
abbrev pub entry_of : Command Request → KeptRequest
entry_of k =
    record {
      code = k.asks.code;
      upper = k.asks.upper;
      lower = k.asks.lower;
      handed = k.handed;
      standing = stands k.fate k.asks.code;
    }

-- the paying ones of some commands, the newest first
unfoldable pub entries : List (Command Request) → List KeptRequest
entries [] = []
entries (k ∷ ks) = cond (pays k.asks.code) (entry_of k ∷ entries ks) (entries ks)

-- "The account record shall keep the last 32 paying requests .., oldest first": after calls, by their history
abbrev pub last_paying : List Call → List KeptRequest
last_paying cs = reverse (take most (entries (commands model2000_t (history cs))))

-- what stands at a place of a list
abbrev pub at_place : List KeptRequest → ℕ → KeptAt
at_place [] i = Nothing
at_place (x ∷ xs) zero = Found x
at_place (x ∷ xs) (suc i) = at_place xs i

-- ---- the promise, after any calls at all from a fresh session. Proved in proofs/Kept.antt

pub record KeptByHistory : Type 0 where
  -- the kept list is the newest 32 of the history's paying commands, turned oldest first
  pub kept : (cs : List Call) → oldest_first (run host fresh_session cs).account.requests ≡ last_paying cs
  -- and what is handed out at a place is what stands there, or nothing
  pub handed_out : (cs : List Call) (i : ℕ) → kept_at (run host fresh_session cs).account.requests i ≡ at_place (last_paying cs) i
