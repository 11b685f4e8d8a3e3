-- What is promised of the session that a program in C holds.
use Rattle.std.specs.Prelude.{◌≡◌, List, [], ◌∷◌}
use Rattle.ledger.specs.Calls.{run}
use Rattle.dispenser_rules.specs.Session.{fresh_session}
use Rattle.dispenser_rules.specs.Calls.{Call, called, host}
use Rattle.dispenser_rules.specs.declared.session.Session.{Session}
use Rattle.dispenser_link.specs.Held.{held, session_of, HeldAfter, leaves_after}
use Rattle.dispenser_link.specs.declared.held.Held.{Held}

-- what a call leaves, by the session that is held
abbrev pub held_called : Held → Call → HeldAfter
held_called h c = leaves_after (called (session_of h) c)

-- what is held after calls
unfoldable pub held_run : Held → List Call → Held
held_run h [] = h
held_run h (c ∷ cs) = held_run (held_called h c).session cs

-- nothing that a call needs is lost at the border: each call leaves what the call by value leaves, whatever requests that session keeps; and after any calls from a fresh
-- session what is held is the session after those calls, of which demand 3 speaks
pub record Carried : Type 0 where
  pub each : (s : Session) (c : Call) → held_called (held s) c ≡ leaves_after (called s c)
  pub all : (cs : List Call) → held_run (held fresh_session) cs ≡ held (run host fresh_session cs)
