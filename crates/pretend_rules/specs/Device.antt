-- The device, call by call (02, Q-14).
use Rattle.std.specs.Prelude.{ℕ, ◌+◌, cond, List, [], ◌∷◌, ltb, length, take, set, replicate, Ok}
use Rattle.refusals.specs.Rules.{Condition, Rule, says, under, within, same, both, isnt, judged, ◌gives◌}
use Rattle.refusals.specs.Put.{Put}
use Rattle.refusals.specs.Put.{Bytes, Refused as NotPut}
use Rattle.refusals.specs.declared.Declined.{Declined}
use Rattle.refusals.specs.declared.Declined.TheVariants.{Room, Range, Tick, Unawaited}
use Rattle.dispenser_frame_rules.specs.Command.{read_command}
use Rattle.dispenser_frame_rules.specs.Answer.{answer_code, answer_fits, write_answer}
use Rattle.dispenser_frame_rules.specs.declared.answer.Answer.{Answer}
use Rattle.dispenser_frame_rules.specs.declared.answer.Answer.TheVariants.{Purged}
use Rattle.dispenser_frame_rules.specs.CommandRead.{CommandRead}
use Rattle.dispenser_frame_rules.specs.CommandRead.{Read, Refused as NotRead}
use Rattle.ledger.specs.Calls.{After as AfterCall}
use Rattle.pretend_rules.specs.Limits.{least_room, longest_tick, answer_limit}
use Rattle.pretend_rules.specs.Wire.{fresh_wire, is_awaiting, idle, awaiting, sent, heard, passed}
use Rattle.pretend_rules.specs.Tally.{fresh_tallies, told}
use Rattle.pretend_rules.specs.declared.wire.Wire.{Wire}
use Rattle.pretend_rules.specs.declared.wire.Act.{Act}
use Rattle.pretend_rules.specs.declared.wire.Act.TheVariants.{Nothing as Rest, Nak, Again, Finish}
use Rattle.pretend_rules.specs.declared.wire.Heard.{Heard}
use Rattle.pretend_rules.specs.declared.wire.Heard.TheVariants.{Keep, Judge, Do}
use Rattle.pretend_rules.specs.declared.tally.Tallies.{Tallies}
use Rattle.pretend_rules.specs.declared.device.Happening.{Happening}
use Rattle.pretend_rules.specs.declared.device.Happening.TheVariants.{Nothing, Taken, Ended}
use Rattle.pretend_rules.specs.Reply.{Reply}
use Rattle.pretend_rules.specs.Reply.{NotDone, Done}
use Rattle.pretend_rules.specs.declared.device.Step.{Step}
use Rattle.pretend_rules.specs.declared.device.Device.{Device}
use Rattle.pretend_rules.specs.declared.device.Outcome.{Outcome}

-- ---- what a call leaves

abbrev pub stepped : Wire → ℕ → Happening → Step
stepped w n what = record { wire = w; reply = Done n what }

abbrev pub refused_step : Wire → Declined → Step
refused_step w why = record { wire = w; reply = NotDone why }

-- a step, with every byte of the room afterwards
pub record StepAfter : Type 0 where
  pub wire : Wire
  pub reply : Reply
  pub room : List ℕ

abbrev pub step_after : Step → List ℕ → StepAfter
step_after s r = record { wire = s.wire; reply = s.reply; room = r }

abbrev pub done_after : Wire → ℕ → Happening → List ℕ → StepAfter
done_after w n what r = record { wire = w; reply = Done n what; room = r }

-- and every byte of the gathering store
pub record ByteAfter : Type 0 where
  pub step : StepAfter
  pub store : List ℕ

abbrev pub byte_after : Step → List ℕ → List ℕ → ByteAfter
byte_after s store r = record { step = step_after s r; store = store }

-- the device, what the call answers, and every byte of the room
abbrev pub After : Type 0
After = AfterCall Device Reply

abbrev pub after : Outcome → List ℕ → After
after o r = record { session = o.device; reply = o.reply; room = r }

-- ---- what is sent

abbrev pub bytes_put : Put → ℕ
bytes_put (Bytes n) = n
bytes_put (NotPut why) = 0

-- bytes put, with the room as it is left
pub record Handed : Type 0 where
  pub put : ℕ
  pub room : List ℕ

abbrev pub handed : ℕ → List ℕ → Handed
handed n r = record { put = n; room = r }

-- the answer's frame at the room's start
unfoldable pub send : Answer → List ℕ → Handed
send a r = handed (bytes_put (write_answer a r).answer) (write_answer a r).room

-- what the wire says is to be done
abbrev pub acted : Act → Wire → Answer → List ℕ → StepAfter
acted Rest w a r = done_after w 0 Nothing r
acted Nak w a r = done_after w 1 Nothing (set r 0 0x15)
acted Again w a r = done_after w (send a r).put Nothing (send a r).room
acted Finish w a r = done_after w 0 Ended r

-- ---- bytes

-- a full command: "answers 06h or 15h"; "After 1,000,000 commands answered 06h, each further one gets 15h"
abbrev pub judged_step : CommandRead → Wire → List ℕ → StepAfter
judged_step (Ok command) w r =
    cond (ltb w.answered answer_limit) (done_after (awaiting (w.answered + 1)) 1 (Taken command.code command.upper command.lower) (set r 0 0x06))
    (done_after (idle w) 1 Nothing (set r 0 0x15))
judged_step (NotRead fault) w r = done_after (idle w) 1 Nothing (set r 0 0x15)

unfoldable pub judge_step : Wire → List ℕ → List ℕ → StepAfter
judge_step w store r = judged_step (read_command (take w.span store)) w r

-- what the wire says of a byte b whose place in the store is at
abbrev pub byte_acted : Heard → Wire → Answer → List ℕ → ℕ → ℕ → List ℕ → ByteAfter
byte_acted Keep w a store at b r = record { step = done_after w 0 Nothing r; store = set store at b }
byte_acted Judge w a store at b r = record { step = judge_step w (set store at b) r; store = set store at b }
byte_acted (Do t) w a store at b r = record { step = acted t w a r; store = store }

-- "Its room is 21 bytes (number 1)"
unfoldable pub byte_refusals : List ℕ → List (Rule Declined)
byte_refusals r = under (length r) least_room gives Room ∷ []

unfoldable pub byte_step : Wire → Answer → List ℕ → ℕ → List ℕ → ByteAfter
byte_step w a store b r =
    judged (byte_refusals r) (λ why. byte_after (refused_step w why) store r)
    (byte_acted (heard w b).heard (heard w b).wire a store w.gathered b r)

-- ---- ticks

-- "its ticks meet 6"
unfoldable pub tick_refusals : ℕ → List ℕ → List (Rule Declined)
tick_refusals ms r = under (length r) least_room gives Room ∷ isnt (within 1 longest_tick ms) gives Tick ∷ []

unfoldable pub tick_step : Wire → Answer → ℕ → List ℕ → StepAfter
tick_step w a ms r =
    judged (tick_refusals ms r) (λ why. step_after (refused_step w why) r) (acted (passed w ms).act (passed w ms).wire a r)

-- ---- the answer's fields

-- the fields are those of an answer to a command with that code, each in its range
abbrev pub suits : Answer → ℕ → Condition
suits a code = both (same (answer_code a) code) (answer_fits a)

-- "fields outside 01's for the code awaited are refused with 2, fields when none are awaited with the new number 9"
unfoldable pub tell_refusals : Wire → ℕ → Answer → List ℕ → List (Rule Declined)
tell_refusals w code a r =
    under (length r) least_room gives Room
    ∷ both (says (is_awaiting w.stand)) (isnt (suits a code)) gives Range
    ∷ isnt (says (is_awaiting w.stand)) gives Unawaited
    ∷ []

-- "is told by its caller the answer's fields .., sends the answer"
unfoldable pub tell_step : Wire → ℕ → Answer → List ℕ → StepAfter
tell_step w code a r =
    judged (tell_refusals w code a r) (λ why. step_after (refused_step w why) r)
    (done_after (sent w 1) (send a r).put Nothing (send a r).room)

-- ---- the device by value

-- the code of the command in hand, after what came of a byte
abbrev pub code_after : ℕ → Happening → ℕ
code_after code Nothing = code
code_after code (Taken new upper lower) = new
code_after code Ended = code

abbrev pub code_by : ℕ → Reply → ℕ
code_by code (NotDone why) = code
code_by code (Ok effect) = code_after code effect.closing

-- the answer in hand, and the account, after what a telling answered: it is booked once, when it is accepted
abbrev pub answer_by : Answer → Answer → Reply → Answer
answer_by old new (NotDone why) = old
answer_by old new (Ok effect) = new

abbrev pub tallied_by : Tallies → Answer → Reply → Tallies
tallied_by t a (NotDone why) = t
tallied_by t a (Ok effect) = told t a

unfoldable pub fresh_device : Device
fresh_device = record { wire = fresh_wire; code = 0; answer = Purged 0; tallies = fresh_tallies; store = replicate 10 0 }

-- the device after a byte, after a tick and after a telling
abbrev pub by_byte : Device → ByteAfter → After
by_byte d w =
    record {
      session = record { wire = w.step.wire; code = code_by d.code w.step.reply; answer = d.answer; tallies = d.tallies; store = w.store };
      reply = w.step.reply;
      room = w.step.room;
    }

abbrev pub by_tick : Device → StepAfter → After
by_tick d w =
    record {
      session = record { wire = w.wire; code = d.code; answer = d.answer; tallies = d.tallies; store = d.store };
      reply = w.reply;
      room = w.room;
    }

abbrev pub by_telling : Device → Answer → StepAfter → After
by_telling d a w =
    record {
      session = record { wire = w.wire; code = d.code; answer = answer_by d.answer a w.reply; tallies = tallied_by d.tallies a w.reply; store = d.store };
      reply = w.reply;
      room = w.room;
    }

unfoldable pub device_byte : Device → ℕ → List ℕ → After
device_byte d b r = by_byte d (byte_step d.wire d.answer d.store b r)

unfoldable pub device_tick : Device → ℕ → List ℕ → After
device_tick d ms r = by_tick d (tick_step d.wire d.answer ms r)

unfoldable pub device_tell : Device → Answer → List ℕ → After
device_tell d a r = by_telling d a (tell_step d.wire d.code a r)
