-- The line's discipline, bullet by bullet (01, "The dispenser session"). It says what is to be done, and knows nothing of notes.
use Rattle.std.specs.Prelude.{ℕ, ◌+◌, ◌-◌, Bool, true, false, cond, ltb, eqb}
use Rattle.ledger.specs.Account.{Ending, answered, refused, unknown}
use Rattle.exchange_rules.specs.Limits.{quiet, long_quiet, first_wait, answer_wait, nak_wait, frame_wait, hand_overs, nak_limit, doubt_limit}
use Rattle.exchange_rules.specs.declared.line.Phase.{Phase}
use Rattle.exchange_rules.specs.declared.line.Phase.TheVariants.{Idle, First, Start, Inside}
use Rattle.exchange_rules.specs.declared.line.Line.{Line}
use Rattle.exchange_rules.specs.declared.line.Todo.{Todo}
use Rattle.exchange_rules.specs.declared.line.Todo.TheVariants.{Nothing, HandOver, Nak, LastNak, CloseRefused, CloseUnknown}
use Rattle.exchange_rules.specs.declared.line.Turn.{Turn}
use Rattle.exchange_rules.specs.declared.line.Heard.{Heard}
use Rattle.exchange_rules.specs.declared.line.Heard.TheVariants.{Keep, Judge, Do}
use Rattle.exchange_rules.specs.declared.line.Hearing.{Hearing}

-- the line, and what is to be done
abbrev pub turn : Line → Todo → Turn
turn l t = record { line = l; todo = t }

-- the line, and what a byte is
abbrev pub hearing : Line → Heard → Hearing
hearing l h = record { line = l; heard = h }

-- "A fresh session has .. no open command and zero quiet time"
abbrev pub fresh_line : Line
fresh_line = record { left = quiet; quiet = quiet; accepted = 0; handed = 0; naks = 0; gathered = 0; doubts = 0; phase = Idle }

-- a command is open
abbrev pub is_open : Phase → Bool
is_open Idle = false
is_open First = true
is_open Start = true
is_open Inside = true

-- "Request accepted: the frame is handed over": the first hand-over of one command more
abbrev pub opened : Line → ℕ → Line
opened l accepted = record { left = first_wait; quiet = quiet; accepted = accepted; handed = 1; naks = 0; gathered = 0; doubts = l.doubts; phase = First }

-- handed over again, the so many-th time
abbrev pub handed_again : Line → ℕ → Line
handed_again l n = record { left = first_wait; quiet = l.quiet; accepted = l.accepted; handed = n; naks = l.naks; gathered = 0; doubts = l.doubts; phase = First }

-- closed: quiet time is 0, and the next command needs so much. How often the command was handed over is still known
abbrev pub closed : Line → ℕ → Line
closed l need = record { left = need; quiet = need; accepted = l.accepted; handed = l.handed; naks = 0; gathered = 0; doubts = l.doubts; phase = Idle }

-- waiting for an answer to start
abbrev pub starting : Line → ℕ → ℕ → Line
starting l left naks = record { left = left; quiet = l.quiet; accepted = l.accepted; handed = l.handed; naks = naks; gathered = 0; doubts = l.doubts; phase = Start }

-- inside an answer
abbrev pub inside : Line → ℕ → ℕ → Line
inside l left gathered = record { left = left; quiet = l.quiet; accepted = l.accepted; handed = l.handed; naks = l.naks; gathered = gathered; doubts = l.doubts; phase = Inside }

-- the same, with so much left of its wait
abbrev pub waits : Line → ℕ → Line
waits l left = record { left = left; quiet = l.quiet; accepted = l.accepted; handed = l.handed; naks = l.naks; gathered = l.gathered; doubts = l.doubts; phase = l.phase }

-- the same, with so many paying commands closed unknown in succession
abbrev pub doubted : Line → ℕ → Line
doubted l n =
    record {
      left = l.left;
      quiet = l.quiet;
      accepted = l.accepted;
      handed = l.handed;
      naks = l.naks;
      gathered = l.gathered;
      doubts = n;
      phase = l.phase;
    }

-- "Two paying requests in succession which closed unknown": one more; more than two are not counted
unfoldable pub one_more : ℕ → ℕ
one_more n = cond (ltb n doubt_limit) (n + 1) n

-- how many paying commands in succession closed unknown, after the closing of one: "an answered or refused payout" breaks the succession
abbrev pub doubts_by : Ending → ℕ → ℕ
doubts_by answered n = 0
doubts_by refused n = 0
doubts_by unknown n = one_more n

-- and after the closing of any command: "Status, purge and test .. do not break the succession"
abbrev pub doubts_after : Bool → Ending → ℕ → ℕ
doubts_after pays end n = cond pays (doubts_by end n) n

-- the line, at the closing of a command that pays or does not
abbrev pub ends : Line → Bool → Ending → Line
ends l pays end = doubted l (doubts_after pays end l.doubts)

-- closed as unknown
abbrev pub closed_unknown : Line → Turn
closed_unknown l = turn (closed l long_quiet) CloseUnknown

-- "First byte since a hand-over: 06h, wait for the answer; 15h, hand over the same frame again at once, or after the [fourth] hand-over
-- close as refused; any other byte, close as unknown at once." (as 02, Q-2, amends it)
unfoldable pub first_byte : Line → ℕ → Hearing
first_byte l b =
    cond (eqb b 0x06) (hearing (starting l answer_wait l.naks) (Do Nothing))
    (cond (eqb b 0x15)
    (cond (ltb l.handed hand_overs) (hearing (handed_again l (l.handed + 1)) (Do HandOver)) (hearing (closed l quiet) (Do CloseRefused)))
    (hearing (closed l long_quiet) (Do CloseUnknown)))

-- "Any other full frame (bad), or lateness inside one: send 15h; the third 15h of a command is sent and closes it as unknown."
unfoldable pub bad_frame : Line → Turn
bad_frame l =
    cond (ltb l.naks (nak_limit - 1)) (turn (starting l nak_wait (l.naks + 1)) Nak) (turn (closed l long_quiet) LastNak)

-- "bytes before 01h are skipped and do not restart the wait"
unfoldable pub start_byte : Line → ℕ → Hearing
start_byte l b = cond (eqb b 0x01) (hearing (inside l frame_wait 1) Keep) (hearing (waits l l.left) (Do Nothing))

-- "From 01h the answer's length follows from the command that was sent, and the frame is judged when it is full."
unfoldable pub inside_byte : Line → ℕ → Hearing
inside_byte l span = cond (ltb (l.gathered + 1) span) (hearing (inside l l.left (l.gathered + 1)) Keep) (hearing (waits l l.left) Judge)

-- a byte; "With nothing open, each byte is ignored and sets quiet time to 0"
abbrev pub heard_in : Phase → Line → ℕ → ℕ → Hearing
heard_in Idle l span b = hearing (waits l l.quiet) (Do Nothing)
heard_in First l span b = first_byte l b
heard_in Start l span b = start_byte l b
heard_in Inside l span b = inside_byte l span

unfoldable pub heard : Line → ℕ → ℕ → Hearing
heard l span b = heard_in l.phase l span b

-- a wait has ended: "No byte within the wait: unknown"; "No start within the wait: unknown"; "lateness inside one: send 15h"
abbrev pub expired_in : Phase → Line → Turn
expired_in Idle l = turn (waits l 0) Nothing
expired_in First l = closed_unknown l
expired_in Start l = closed_unknown l
expired_in Inside l = bad_frame l

unfoldable pub expired : Line → Turn
expired l = expired_in l.phase l

-- "A wait ends by the tick that brings its sum to the limit or past it; the excess is dropped."
unfoldable pub passed : Line → ℕ → Turn
passed l ms = cond (ltb ms l.left) (turn (waits l (l.left - ms)) Nothing) (expired l)
