-- Any calls at all on the device, as its caller sees them. The device after calls, and their history, are those of every line (`ledger`): the device is asked for nothing
-- by a request, and the call of its own is the telling.
use Rattle.std.specs.Prelude.{ℕ, List, [], Ok}
use Rattle.ledger.specs.Events.{Deed, hears, waits, own, Left, goes_on, closes, History as HistoryOf}
use Rattle.ledger.specs.Calls.{Returned, gave, did, Host, history_from}
use Rattle.dispenser_frame_rules.specs.declared.answer.Answer.{Answer}
use Rattle.pretend_rules.specs.Device.{After, fresh_device, device_byte, device_tick, device_tell}
use Rattle.pretend_rules.specs.declared.device.Happening.{Happening}
use Rattle.pretend_rules.specs.declared.device.Happening.TheVariants.{Nothing, Taken, Ended}
use Rattle.pretend_rules.specs.Reply.{Reply}
use Rattle.pretend_rules.specs.Reply.{NotDone, Done}
use Rattle.pretend_rules.specs.declared.device.Device.{Device}

-- a call, with any arguments and any room
pub data Call : Type 0 where
  byte : ℕ → List ℕ → Call
  tick : ℕ → List ℕ → Call
  tell : Answer → List ℕ → Call

abbrev pub called : Device → Call → After
called d (byte b r) = device_byte d b r
called d (tick ms r) = device_tick d ms r
called d (tell a r) = device_tell d a r

-- the room that is lent to it
abbrev pub lent : Call → List ℕ
lent (byte b r) = r
lent (tick ms r) = r
lent (tell a r) = r

abbrev pub deed : Call → Deed ⊥ Answer
deed (byte b r) = hears b
deed (tick ms r) = waits ms
deed (tell a r) = own a

-- what a call returned
abbrev pub returned : Reply → Returned Happening
returned (NotDone why) = gave why
returned (Ok effect) = did effect.put effect.closing

-- what a call closed: the reading of a command, which was taken; or the exchange
pub data Close : Type 0 where
  took : ℕ → Close
  ended : Close

abbrev pub ending : Happening → Left Close
ending Nothing = goes_on
ending (Taken code upper lower) = closes (took code)
ending Ended = closes ended

-- the device, as its caller sees it
abbrev pub host : Host Device Call Reply ⊥ Answer Happening Close
host = record { called = called; deed = λ d c. deed c; returned = returned; refused = NotDone; ending = ending }

abbrev pub History : Type 0
History = HistoryOf ⊥ Answer Close

-- the history of calls on a fresh device
abbrev pub history : List Call → History
history cs = history_from host fresh_device [] cs
