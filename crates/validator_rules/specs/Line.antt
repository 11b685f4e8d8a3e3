-- The line's discipline, sentence by sentence (01, "The validator session"). It says what is to be done, and counts no bills.
use Rattle.std.specs.Prelude.{ℕ, Option, ◌+◌, ◌-◌, Bool, true, false, cond, ltb, eqb}
use Rattle.validator_rules.specs.Limits.{quiet, start_wait, frame_wait, store_size}
use Rattle.validator_rules.specs.Bills.{no_bill}
use Rattle.validator_rules.specs.declared.line.Phase.{Phase}
use Rattle.validator_rules.specs.declared.line.Phase.TheVariants.{Idle, Start, Inside}
use Rattle.validator_rules.specs.declared.line.Line.{Line}
use Rattle.validator_rules.specs.declared.line.Todo.{Todo}
use Rattle.validator_rules.specs.declared.line.Todo.TheVariants.{Nothing, CloseDamaged, CloseSilent}
use Rattle.validator_rules.specs.declared.line.Turn.{Turn}
use Rattle.validator_rules.specs.declared.line.Heard.{Heard}
use Rattle.validator_rules.specs.declared.line.Heard.TheVariants.{Skip, Keep, Judge, Wrong}
use Rattle.validator_rules.specs.declared.line.Hearing.{Hearing}

-- the line after time has passed, and what is to be done
abbrev pub turn : Line → Todo → Turn
turn l t = record { line = l; todo = t }

-- the line after a byte, and what the byte is
abbrev pub hearing : Line → Heard → Hearing
hearing l h = record { line = l; heard = h }

-- "counted from the fresh state": no quiet yet, nothing open, nothing remembered
abbrev pub fresh_line : Line
fresh_line = record { left = quiet; accepted = 0; code = 0; last = no_bill; gathered = 0; length = 0; phase = Idle }

-- a command is open
abbrev pub is_open : Phase → Bool
is_open Idle = false
is_open Start = true
is_open Inside = true

-- a command with that code is accepted, the so many-th: "The answer's 02h must come within 10 ms"
abbrev pub opened : Line → ℕ → ℕ → Line
opened l code accepted =
    record { left = start_wait; accepted = accepted; code = code; last = l.last; gathered = 0; length = 0; phase = Start }

-- closed: quiet is counted from "the closing"
abbrev pub closed : Line → Line
closed l = record { left = quiet; accepted = l.accepted; code = l.code; last = l.last; gathered = 0; length = 0; phase = Idle }

-- the same, with what the last listed answer to a POLL said was stacked
abbrev pub remembers : Line → Option ℕ → Line
remembers l last =
    record { left = l.left; accepted = l.accepted; code = l.code; last = last; gathered = l.gathered; length = l.length; phase = l.phase }

-- inside an answer
abbrev pub inside : Line → ℕ → ℕ → ℕ → Line
inside l left gathered length =
    record { left = left; accepted = l.accepted; code = l.code; last = l.last; gathered = gathered; length = length; phase = Inside }

-- the same, with so much left of its wait
abbrev pub waits : Line → ℕ → Line
waits l left =
    record { left = left; accepted = l.accepted; code = l.code; last = l.last; gathered = l.gathered; length = l.length; phase = l.phase }

-- "The answer's 02h .., the whole within 400 ms of it ..; other bytes before 02h are skipped and do not restart the wait."
unfoldable pub start_byte : Line → ℕ → Hearing
start_byte l b = cond (eqb b 0x02) (hearing (inside l frame_wait 1 store_size) Keep) (hearing (waits l l.left) Skip)

-- "A wrong address (not 03h) .., at that byte, .. closes as damaged"
unfoldable pub address_byte : Line → ℕ → Hearing
address_byte l b = cond (eqb b 0x03) (hearing (inside l l.left 2 l.length) Keep) (hearing (closed l) Wrong)

-- "A wrong .. length byte, at that byte, .. closes as damaged": "Length counts the whole frame, 6 to 255"
unfoldable pub length_byte : Line → ℕ → Hearing
length_byte l b = cond (ltb b 6) (hearing (closed l) Wrong) (hearing (inside l l.left 3 b) Keep)

-- a byte past the length byte: the frame is judged when it is full
unfoldable pub further_byte : Line → Hearing
further_byte l = cond (ltb (l.gathered + 1) l.length) (hearing (inside l l.left (l.gathered + 1) l.length) Keep) (hearing (closed l) Judge)

-- a byte of an answer, by its place
unfoldable pub answer_byte : Line → ℕ → Hearing
answer_byte l b = cond (eqb l.gathered 1) (address_byte l b) (cond (eqb l.gathered 2) (length_byte l b) (further_byte l))

-- a byte; with nothing open, quiet is counted from "the last byte"
abbrev pub heard_in : Phase → Line → ℕ → Hearing
heard_in Idle l b = hearing (waits l quiet) Skip
heard_in Start l b = start_byte l b
heard_in Inside l b = answer_byte l b

unfoldable pub heard : Line → ℕ → Hearing
heard l b = heard_in l.phase l b

-- a wait has ended: "nothing started, closes as silent"; "a late frame sends a NAK frame and closes as damaged"
abbrev pub expired_in : Phase → Line → Turn
expired_in Idle l = turn (waits l 0) Nothing
expired_in Start l = turn (closed l) CloseSilent
expired_in Inside l = turn (closed l) CloseDamaged

unfoldable pub expired : Line → Turn
expired l = expired_in l.phase l

-- "ticks counted as above": "A wait ends by the tick that brings its sum to the limit or past it; the excess is dropped."
unfoldable pub passed : Line → ℕ → Turn
passed l ms = cond (ltb ms l.left) (turn (waits l (l.left - ms)) Nothing) (expired l)
