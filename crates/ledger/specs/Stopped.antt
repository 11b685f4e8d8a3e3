-- What number 7 speaks of, read off a history (02, Q-9: "Two paying requests in succession which closed unknown mean a cable is out."). The only call of a line's own is
-- the operator's clear.
use Rattle.std.specs.Prelude.{ℕ, ◌+◌, Bool, cond, List, [], ◌∷◌, take}
use Rattle.ledger.specs.Events.{asks, hears, waits, own, declined, done, History}
use Rattle.ledger.specs.Account.{Ending, Dispenser, Fate, waiting, answered_by, turned_down, in_doubt, Command, commands}

-- how many commands were accepted since the last clear
unfoldable pub since_clear : {R O K : Type 0} → History R O K → ℕ
since_clear [] = 0
since_clear (declined ∷ h) = since_clear h
since_clear (done (asks r) put left ∷ h) = since_clear h + 1
since_clear (done (hears b) put left ∷ h) = since_clear h
since_clear (done (waits ms) put left ∷ h) = since_clear h
since_clear (done (own o) put left ∷ h) = 0

-- n paying commands in succession closed unknown before this paying one: "an answered or refused payout" breaks the succession. One that is open has not closed
abbrev pub onward : Fate → ℕ → ℕ
onward waiting n = n
onward (answered_by f) n = 0
onward turned_down n = 0
onward in_doubt n = n + 1

-- how many paying commands in succession closed unknown, of commands with the newest first: "Status, purge and test .. do not break the succession"
unfoldable pub unknowns : {R : Type 0} → (R → Bool) → List (Command R) → ℕ
unknowns pays [] = 0
unknowns pays (k ∷ ks) = cond (pays k.asks) (onward k.fate (unknowns pays ks)) (unknowns pays ks)

-- "until the operator's clear call is made": of the commands accepted since the last clear
abbrev pub succession : {R O C : Type 0} → Dispenser R C → (R → Bool) → History R O Ending → ℕ
succession D pays h = unknowns pays (take (since_clear h) (commands D h))
