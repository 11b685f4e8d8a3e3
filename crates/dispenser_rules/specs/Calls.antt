-- Any calls at all on a session of the Model 2000T (01, "What the proofs must leave no choice about"), as their caller sees them. The session after calls, and their
-- history, are those of every line (`ledger`).
use Rattle.std.specs.Prelude.{ℕ, List, [], Ok}
use Rattle.ledger.specs.Events.{Deed, asks, hears, waits, own, Left, goes_on, closes, History}
use Rattle.ledger.specs.Account.{Ending, answered, refused, unknown}
use Rattle.ledger.specs.Calls.{Returned, gave, did, Host, history_from}
use Rattle.dispenser_rules.specs.Session.{After, fresh_session, session_request, session_byte, session_tick, session_clear}
use Rattle.dispenser_rules.specs.declared.session.Closing.{Closing}
use Rattle.dispenser_rules.specs.declared.session.Closing.TheVariants.{Nothing, Answered, Refused, Unknown}
use Rattle.dispenser_rules.specs.Reply.{Reply}
use Rattle.dispenser_rules.specs.Reply.{NotDone}
use Rattle.dispenser_rules.specs.declared.session.Session.{Session}

-- a call, with any arguments and any room
pub data Call : Type 0 where
  request : ℕ → ℕ → ℕ → List ℕ → Call
  byte : ℕ → List ℕ → Call
  tick : ℕ → List ℕ → Call
  clear : Call

abbrev pub called : Session → Call → After
called s (request code upper lower r) = session_request s code upper lower r
called s (byte b r) = session_byte s b r
called s (tick ms r) = session_tick s ms r
called s clear = session_clear s

-- what a request asks
pub record Request : Type 0 where
  pub code : ℕ
  pub upper : ℕ
  pub lower : ℕ

-- the calls that this line has of its own: the operator clears it (02, Q-9)
pub data Own : Type 0 where
  clears : Own

abbrev pub deed : Call → Deed Request Own
deed (request code upper lower r) = asks (record { code = code; upper = upper; lower = lower })
deed (byte b r) = hears b
deed (tick ms r) = waits ms
deed clear = own clears

-- what a call returned
abbrev pub returned : Reply → Returned Closing
returned (NotDone why) = gave why
returned (Ok effect) = did effect.put effect.closing

-- of an answer the history has no more than that it came
abbrev pub ending : Closing → Left Ending
ending Nothing = goes_on
ending (Answered answer class) = closes answered
ending Refused = closes refused
ending Unknown = closes unknown

-- the session, as its caller sees it
abbrev pub host : Host Session Call Reply Request Own Closing Ending
host = record { called = called; deed = λ s c. deed c; returned = returned; refused = NotDone; ending = ending }

-- the history of calls on a fresh session
abbrev pub history : List Call → History Request Own Ending
history cs = history_from host fresh_session [] cs
