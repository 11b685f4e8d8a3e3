-- Any calls at all on the validator session (01, "What the proofs must leave no choice about"), as their caller sees them. The session after calls, and their
-- history, are those of every line (`ledger`).
use Rattle.std.specs.Prelude.{ℕ, ◌<◌, List, [], Ok}
use Rattle.ccnet_class.specs.declared.Class.{Class}
use Rattle.ledger.specs.Events.{Deed, asks, hears, waits, Left, goes_on, closes, Event, History}
use Rattle.ledger.specs.Calls.{Returned, gave, did, Host, history_from}
use Rattle.validator_rules.specs.Session.{After, fresh_session, session_request, session_byte, session_tick}
use Rattle.validator_rules.specs.declared.session.Closing.{Closing}
use Rattle.validator_rules.specs.declared.session.Closing.TheVariants.{Nothing, Acknowledged, NotAcknowledged, IllegalCommand, Answered, Damaged, Silent}
use Rattle.validator_rules.specs.Reply.{Reply}
use Rattle.validator_rules.specs.Reply.{NotDone}
use Rattle.validator_rules.specs.declared.session.Session.{Session}

-- a call, with any arguments and any room: a code and its data; a byte; milliseconds
pub data Call : Type 0 where
  request : ℕ → List ℕ → List ℕ → Call
  byte : (b : ℕ) → b < 256 → List ℕ → Call
  tick : ℕ → List ℕ → Call

abbrev pub called : Session → Call → After
called s (request code given r) = session_request s code given r
called s (byte b small r) = session_byte s b r
called s (tick ms r) = session_tick s ms r

-- what a request asks for
pub record Request : Type 0 where
  pub code : ℕ
  pub given : List ℕ

-- this line has no calls of its own
abbrev pub Own : Type 0
Own = ⊥

-- the ways in which a command can close
pub data Ending : Type 0 where
  acknowledged : Ending
  not_acknowledged : Ending
  illegal_command : Ending
  answered : Class → Ending
  damaged : Ending
  silent : Ending

-- a call on this line as its caller knows it, and a history of them
abbrev pub Known : Type 0
Known = Event Request Own Ending

abbrev pub Past : Type 0
Past = History Request Own Ending

abbrev pub deed : Call → Deed Request Own
deed (request code given r) = asks (record { code = code; given = given })
deed (byte b small r) = hears b
deed (tick ms r) = waits ms

-- what a call returned
abbrev pub returned : Reply → Returned Closing
returned (NotDone why) = gave why
returned (Ok effect) = did effect.put effect.closing

-- the closing that was returned; of an answer with the class that it carries
abbrev pub ending : Closing → Left Ending
ending Nothing = goes_on
ending Acknowledged = closes acknowledged
ending NotAcknowledged = closes not_acknowledged
ending IllegalCommand = closes illegal_command
ending (Answered c) = closes (answered c)
ending Damaged = closes damaged
ending Silent = closes silent

-- the session, as its caller sees it
abbrev pub host : Host Session Call Reply Request Own Closing Ending
host = record { called = called; deed = λ s c. deed c; returned = returned; refused = NotDone; ending = ending }

-- the history of calls on a fresh session
abbrev pub history : List Call → Past
history cs = history_from host fresh_session [] cs
