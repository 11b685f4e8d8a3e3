-- Any calls on any session, as their caller sees them: the session after them, and their history. S is the session, T its calls, P what they answer; R what a
-- request asks for, O the line's own calls, Q how a call closed the open command, if it did, and K the ways in which a command can close.
use Rattle.std.specs.Prelude.{ℕ, ◌≡◌, List, [], ◌∷◌, take}
use Rattle.refusals.specs.Rules.{Rule}
use Rattle.ledger.specs.Events.{Deed, Left, Event, declined, done, History}
use Rattle.ledger.specs.Declining.{GivenExactlyWhen}
use Rattle.refusals.specs.declared.Declined.{Declined}

-- what a call leaves: the session, what it answers, and every byte of the room
pub record After (S P : Type 0) : Type 0 where
  pub session : S
  pub reply : P
  pub room : List ℕ

-- "A refused call returns only its number"; "An accepted session call returns how many bytes it put at the room's start and which closing it made, if any"
pub data Returned (Q : Type 0) : Type 0 where
  gave : Declined → Returned Q
  did : ℕ → Q → Returned Q

-- a session as its caller sees it: what a call leaves, what it was, and what it returned; the answer of a call that was declined; and how a command closed
pub record Host (S T P R O Q K : Type 0) : Type 0 where
  pub called : S → T → After S P
  pub deed : S → T → Deed R O
  pub returned : P → Returned Q
  pub refused : Declined → P
  pub ending : Q → Left K

-- what the caller knows of a call: what it returned, and the bytes that it put at the room's start
abbrev pub told : {R O Q K : Type 0} → (Q → Left K) → Deed R O → Returned Q → List ℕ → Event R O K
told ending d (gave why) room = declined
told ending d (did n c) room = done d (take n room) (ending c)

-- the call did its step
abbrev pub IsDone : {Q : Type 0} → Returned Q → Type 0
IsDone {Q} p = (n : ℕ) × ((c : Q) × (p ≡ did n c))

module _ {S T P R O Q K : Type 0} (H : Host S T P R O Q K) where
  abbrev pub seen : S → T → Event R O K
  seen s t = told H.ending (H.deed s t) (H.returned (H.called s t).reply) (H.called s t).room

  -- the session after calls
  unfoldable pub run : S → List T → S
  run s [] = s
  run s (t ∷ ts) = run (H.called s t).session ts

  -- the history after more calls
  unfoldable pub history_from : S → History R O K → List T → History R O K
  history_from s h [] = h
  history_from s h (t ∷ ts) = history_from (H.called s t).session (seen s t ∷ h) ts

  -- the call was declined: "session, account and all lent bytes keep their entry values"
  abbrev pub declined_after : S → List ℕ → Declined → After S P
  declined_after s r why = record { session = s; reply = H.refused why; room = r }

  -- a call on the session s, lent the room r, answers each number exactly when the rules say, and else does its step
  abbrev pub Declines : List (Rule Declined) → S → List ℕ → After S P → Type 0
  Declines rules s r w = GivenExactlyWhen (λ (v : After S P). H.returned v.reply) gave IsDone (declined_after s r) rules w
