-- What a line waits for, read off the session (01, "The dispenser session" and "The validator session"): its waits are counted down, so what is not left was waited.
use Rattle.std.specs.Prelude.{ℕ, ◌-◌, cond, ltb, eqb}
use Rattle.exchange_rules.specs.Limits.{first_wait, answer_wait, nak_wait, frame_wait}
use Rattle.exchange_rules.specs.declared.line.Phase.{Phase}
use Rattle.exchange_rules.specs.declared.line.Phase.TheVariants.{Idle, First, Start, Inside}
use Rattle.exchange_rules.specs.declared.line.Line.{Line}
use Rattle.dispenser_rules.specs.declared.session.Session.{Session}
use Rattle.validator_rules.specs.Limits.{quiet as taker_quiet, start_wait, frame_wait as taker_frame}
use Rattle.validator_rules.specs.declared.line.Phase.{Phase as TakerPhase}
use Rattle.validator_rules.specs.declared.line.Phase.TheVariants.{Idle as TakerIdle, Start as TakerStart, Inside as TakerInside}
use Rattle.validator_rules.specs.declared.line.Line.{Line as TakerLine}
use Rattle.validator_rules.specs.declared.session.Session.{Session as TakerSession}
use Rattle.views.specs.declared.View.{View}

abbrev pub view : Phase → ℕ → ℕ → ℕ → ℕ → ℕ → ℕ → View
view phase waited limit handed naks gathered span =
    record { phase = phase; waited = waited; limit = limit; handed = handed; naks = naks; gathered = gathered; span = span }

-- nothing is open: "quiet before a command"
abbrev pub idle : ℕ → ℕ → View
idle limit left = view Idle (limit - left) limit 0 0 0 0

-- a command to the dispenser is open
abbrev pub busy : Line → Phase → ℕ → ℕ → ℕ → View
busy l phase limit gathered span = view phase (limit - l.left) limit l.handed l.naks gathered span

-- "90,000 for an answer to start after 06h; 5,050 after a NAK of ours"
unfoldable pub start_limit : ℕ → ℕ
start_limit naks = cond (eqb naks 0) answer_wait nak_wait

abbrev pub dispenser_in : Phase → Session → View
dispenser_in Idle s = idle s.line.quiet s.line.left
dispenser_in First s = busy s.line First first_wait 0 s.asked.span
dispenser_in Start s = busy s.line Start (start_limit s.line.naks) 0 s.asked.span
dispenser_in Inside s = busy s.line Inside frame_wait s.line.gathered s.asked.span

unfoldable pub dispenser_view : Session → View
dispenser_view s = dispenser_in s.line.phase s

-- a command to the validator is open, which is sent once; its third byte tells how many an answer has
abbrev pub answering : Phase → ℕ → ℕ → ℕ → ℕ → View
answering phase limit left gathered length = view phase (limit - left) limit 1 0 gathered (cond (ltb gathered 3) 0 length)

abbrev pub validator_in : TakerPhase → TakerLine → View
validator_in TakerIdle l = idle taker_quiet l.left
validator_in TakerStart l = answering Start start_wait l.left 0 0
validator_in TakerInside l = answering Inside taker_frame l.left l.gathered l.length

unfoldable pub validator_view : TakerSession → View
validator_view s = validator_in s.line.phase s.line
