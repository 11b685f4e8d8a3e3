-- The device's discipline, sentence by sentence (02, Q-14). It says what is to be done, and knows nothing of notes.
use Rattle.std.specs.Prelude.{ℕ, ◌+◌, ◌-◌, Bool, true, false, cond, ltb, eqb}
use Rattle.dispenser_frame_rules.specs.Table.{known, command_length}
use Rattle.pretend_rules.specs.Limits.{command_wait, silence, sending_limit, code_place}
use Rattle.pretend_rules.specs.declared.wire.Stand.{Stand}
use Rattle.pretend_rules.specs.declared.wire.Stand.TheVariants.{Idle, Reading, Awaiting, Sent}
use Rattle.pretend_rules.specs.declared.wire.Wire.{Wire}
use Rattle.pretend_rules.specs.declared.wire.Act.{Act}
use Rattle.pretend_rules.specs.declared.wire.Act.TheVariants.{Nothing, Nak, Again, Finish}
use Rattle.pretend_rules.specs.declared.wire.Turn.{Turn}
use Rattle.pretend_rules.specs.declared.wire.Heard.{Heard}
use Rattle.pretend_rules.specs.declared.wire.Heard.TheVariants.{Keep, Judge, Do}
use Rattle.pretend_rules.specs.declared.wire.Hearing.{Hearing}

-- the wire, and what is to be done
abbrev pub turn : Wire → Act → Turn
turn w a = record { wire = w; act = a }

-- the wire, and what a byte is
abbrev pub hearing : Wire → Heard → Hearing
hearing w h = record { wire = w; heard = h }

-- a byte that is no byte of a command
abbrev pub does : Turn → Hearing
does t = hearing t.wire (Do t.act)

-- nothing begun, nothing answered
abbrev pub fresh_wire : Wire
fresh_wire = record { left = 0; answered = 0; sendings = 0; gathered = 0; span = 0; stand = Idle }

-- a command is being read, or its answer is not yet at its end
abbrev pub is_busy : Stand → Bool
is_busy Idle = false
is_busy Reading = true
is_busy Awaiting = true
is_busy Sent = true

abbrev pub is_awaiting : Stand → Bool
is_awaiting Idle = false
is_awaiting Reading = false
is_awaiting Awaiting = true
is_awaiting Sent = false

-- nothing begun
abbrev pub idle : Wire → Wire
idle w = record { left = 0; answered = w.answered; sendings = 0; gathered = 0; span = 0; stand = Idle }

-- inside a command: so much left of its wait, so many bytes gathered, of so many
abbrev pub reading : Wire → ℕ → ℕ → ℕ → Wire
reading w left gathered span = record { left = left; answered = w.answered; sendings = 0; gathered = gathered; span = span; stand = Reading }

-- 06h sent, to the so many-th command; its caller is to tell the answer's fields, and may take its time
abbrev pub awaiting : ℕ → Wire
awaiting answered = record { left = 0; answered = answered; sendings = 0; gathered = 0; span = 0; stand = Awaiting }

-- the answer sent, the so many-th time
abbrev pub sent : Wire → ℕ → Wire
sent w n = record { left = silence; answered = w.answered; sendings = n; gathered = 0; span = 0; stand = Sent }

-- the same, with so much left of its wait
abbrev pub waits : Wire → ℕ → Wire
waits w left =
    record { left = left; answered = w.answered; sendings = w.sendings; gathered = w.gathered; span = w.span; stand = w.stand }

-- "Bytes before 04h are skipped"
unfoldable pub idle_byte : Wire → ℕ → Hearing
idle_byte w b = cond (eqb b 0x04) (hearing (reading w command_wait 1 (code_place + 1)) Keep) (hearing (waits w w.left) (Do Nothing))

-- "bad (an unknown code at once) gets 15h"; from the code, the so many-th byte, the command's length is known
unfoldable pub code_byte : Wire → ℕ → ℕ → Hearing
code_byte w gathered b =
    cond (known b).test (hearing (reading w w.left gathered (command_length b)) Keep) (hearing (idle w) (Do Nak))

-- the last byte before the command is looked at: its code, or its check
unfoldable pub last_byte : Wire → ℕ → Hearing
last_byte w b = cond (eqb w.gathered code_place) (code_byte w (code_place + 1) b) (hearing (waits w w.left) Judge)

-- a byte of a command
unfoldable pub command_byte : Wire → ℕ → Hearing
command_byte w b =
    cond (ltb (w.gathered + 1) w.span) (hearing (reading w w.left (w.gathered + 1) w.span) Keep) (last_byte w b)

-- "on 15h or 5,050 ms of silence sends it again; .. either of those after the third sending, ends it"
unfoldable pub again : Wire → Turn
again w = cond (ltb w.sendings sending_limit) (turn (sent w (w.sendings + 1)) Again) (turn (idle w) Finish)

-- "06h .. ends it. All other bytes from its 06h to that end are ignored."
unfoldable pub answer_byte : Wire → ℕ → Hearing
answer_byte w b =
    cond (eqb b 0x06) (hearing (idle w) (Do Finish)) (cond (eqb b 0x15) (does (again w)) (hearing (waits w w.left) (Do Nothing)))

-- a byte; while the fields are awaited each is ignored, 06h and 15h too
abbrev pub heard_in : Stand → Wire → ℕ → Hearing
heard_in Idle w b = idle_byte w b
heard_in Reading w b = command_byte w b
heard_in Awaiting w b = hearing (waits w w.left) (Do Nothing)
heard_in Sent w b = answer_byte w b

unfoldable pub heard : Wire → ℕ → Hearing
heard w b = heard_in w.stand w b

-- a wait has ended: "a command late by 200 ms .. gets 15h"; "5,050 ms of silence"
abbrev pub expired_in : Stand → Wire → Turn
expired_in Idle w = turn (waits w 0) Nothing
expired_in Reading w = turn (idle w) Nak
expired_in Awaiting w = turn (waits w 0) Nothing
expired_in Sent w = again w

unfoldable pub expired : Wire → Turn
expired w = expired_in w.stand w

-- "A wait ends by the tick that brings its sum to the limit or past it; the excess is dropped." (01)
unfoldable pub passed : Wire → ℕ → Turn
passed w ms = cond (ltb ms w.left) (turn (waits w (w.left - ms)) Nothing) (expired w)
