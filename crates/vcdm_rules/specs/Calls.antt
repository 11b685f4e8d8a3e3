-- Any calls at all on a session of the four-cassette unit, as their caller sees them. The caller gives no serial, and need not: beside the session it counts which one the
-- next dispense takes, from what the calls returned alone. So no history reads the serial that the session stores.
use Rattle.std.specs.Prelude.{ℕ, cond, List, [], ◌∷◌, Ok}
use Rattle.ledger.specs.Events.{Deed, asks, hears, waits, own, Left, goes_on, closes, declined, done, History}
use Rattle.ledger.specs.Account.{Ending, answered, refused, unknown}
use Rattle.ledger.specs.Calls.{After as AfterCall, Returned, gave, did, Host, history_from}
use Rattle.vcdm_frame_rules.specs.declared.command.Counts.{Counts}
use Rattle.vcdm_rules.specs.Session.{After, following, pays, serial_for, serial_after, fresh_session, session_request, session_byte, session_tick}
use Rattle.vcdm_rules.specs.declared.session.Closing.{Closing}
use Rattle.vcdm_rules.specs.declared.session.Closing.TheVariants.{Nothing, Answered, Refused, Unknown}
use Rattle.vcdm_rules.specs.Reply.{Reply}
use Rattle.vcdm_rules.specs.Reply.{NotDone}
use Rattle.vcdm_rules.specs.declared.session.Session.{Session}

-- a call, with any arguments and any room
pub data Call : Type 0 where
  request : ℕ → Counts → List ℕ → Call
  byte : ℕ → List ℕ → Call
  tick : ℕ → List ℕ → Call

abbrev pub called : Session → Call → After
called s (request code n r) = session_request s code n r
called s (byte b r) = session_byte s b r
called s (tick ms r) = session_tick s ms r

-- what a request asks, with its serial
pub record Request : Type 0 where
  pub code : ℕ
  pub counts : Counts
  pub serial : ℕ

-- this line has no calls of its own
pub data Own : Type 0 where

-- a session, and the serial that its caller counts
pub record Counted : Type 0 where
  pub session : Session
  pub serial : ℕ

-- "the first 21h"
abbrev pub fresh_counted : Counted
fresh_counted = record { session = fresh_session; serial = 0x21 }

-- "a newly accepted dispense takes the next"
abbrev pub counted_by : Call → Reply → ℕ → ℕ
counted_by (request code n r) (NotDone why) s = s
counted_by (request code n r) (Ok effect) s = serial_after code s
counted_by (byte b r) p s = s
counted_by (tick ms r) p s = s

abbrev pub called_counted : Counted → Call → AfterCall Counted Reply
called_counted x c =
    record {
      session = record { session = (called x.session c).session; serial = counted_by c (called x.session c).reply x.serial };
      reply = (called x.session c).reply;
      room = (called x.session c).room;
    }

abbrev pub deed : ℕ → Call → Deed Request Own
deed s (request code n r) = asks (record { code = code; counts = n; serial = serial_for code s })
deed s (byte b r) = hears b
deed s (tick ms r) = waits ms

-- what a call returned
abbrev pub returned : Reply → Returned Closing
returned (NotDone why) = gave why
returned (Ok effect) = did effect.put effect.closing

-- of an answer the history has no more than that it came
abbrev pub ending : Closing → Left Ending
ending Nothing = goes_on
ending (Answered answer) = closes answered
ending Refused = closes refused
ending Unknown = closes unknown

-- the session, as its caller sees it
abbrev pub host : Host Counted Call Reply Request Own Closing Ending
host = record { called = called_counted; deed = λ x c. deed x.serial c; returned = returned; refused = NotDone; ending = ending }

-- the history of calls on a fresh session
abbrev pub history : List Call → History Request Own Ending
history cs = history_from host fresh_counted [] cs

-- the serial that the next dispense takes, read off a history: 21h, and the following one as often as dispenses were accepted
unfoldable pub next_serial : History Request Own Ending → ℕ
next_serial [] = 0x21
next_serial (declined ∷ h) = next_serial h
next_serial (done (asks q) put left ∷ h) = cond (pays q.code) (following (next_serial h)) (next_serial h)
next_serial (done (hears b) put left ∷ h) = next_serial h
next_serial (done (waits ms) put left ∷ h) = next_serial h
next_serial (done (own o) put left ∷ h) = next_serial h
