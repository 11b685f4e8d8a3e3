-- Replay (01, "Recording and report"): the sessions' own steps, folded over the records of a recording.
-- The desk pays out by the dispenser session, the payer, and takes in by the validator session, the taker.
use Rattle.std.specs.Prelude.{ℕ, ◌+◌, Bool, true, false, cond, ◌||◌, List, [], ◌∷◌, replicate, Ok}
use Rattle.dispenser_rules.specs.Requests.{fresh_account}
use Rattle.dispenser_rules.specs.Errors.{no_errors, erred_by}
use Rattle.dispenser_rules.specs.declared.errors.LastErrors.{LastErrors}
use Rattle.dispenser_rules.specs.Session.{After, fresh_session, session_request, session_byte, session_tick, session_clear}
use Rattle.dispenser_rules.specs.Reply.{Reply}
use Rattle.dispenser_rules.specs.Reply.{NotDone, Done}
use Rattle.dispenser_rules.specs.declared.session.Session.{Session}
use Rattle.exchange_rules.specs.Limits.{least_room}
use Rattle.validator_rules.specs.Limits.{least_room as taker_room}
use Rattle.validator_rules.specs.Bills.{no_bills}
use Rattle.validator_rules.specs.Session.{no_table, After as TakerAfter, fresh_session as fresh_taker, session_request as taker_request, session_byte as taker_byte, session_tick as taker_tick}
use Rattle.validator_rules.specs.Reply.{Reply as TakerReply}
use Rattle.validator_rules.specs.Reply.{NotDone as TakerNotDone, Done as TakerDone}
use Rattle.validator_rules.specs.declared.session.Session.{Session as Taker}
use Rattle.recording.specs.Reading.{Reading, records, bad}
use Rattle.recording.specs.declared.Fault.{Fault}
use Rattle.recording.specs.declared.Record.{Record}
use Rattle.recording.specs.declared.Record.TheVariants.{Request, DispenserByte, Tick, ValidatorByte, Command, Clear}
use Rattle.grading_rules.specs.declared.desk.Desk.{Desk}
use Rattle.recording.specs.Verdict.{Good, Bad}
use Rattle.grading_rules.specs.declared.findings.Findings.{Findings}

-- both fresh
unfoldable pub fresh_desk : Desk
fresh_desk = record { dispenser = fresh_session; validator = fresh_taker; errors = no_errors; declined = 0; records = 0 }

-- each call is lent the least room that its session can send into, all zero
abbrev pub lent_room : List ℕ
lent_room = replicate least_room 0

abbrev pub lent_room255 : List ℕ
lent_room255 = replicate taker_room 0

-- a session refused
abbrev pub payer_declines : Reply → Bool
payer_declines (NotDone why) = true
payer_declines (Ok effect) = false

abbrev pub taker_declines : TakerReply → Bool
taker_declines (TakerNotDone why) = true
taker_declines (Ok effect) = false

-- one record more: "Each record refused by a session counts once as declined."
abbrev pub counting : Bool → Desk → Session → Taker → LastErrors → Desk
counting refused d s v e =
    record { dispenser = s; validator = v; errors = e; declined = cond refused (d.declined + 1) d.declined; records = d.records + 1 }

-- what the dispenser session made of it, or the validator session, or both
abbrev pub by_dispenser : Desk → After → Desk
by_dispenser d w = counting (payer_declines w.reply) d w.session d.validator (erred_by d.errors w.reply)

-- the operator's clear is lent no room, and closes nothing
abbrev pub by_operator : Desk → After → Desk
by_operator d w = counting (payer_declines w.reply) d w.session d.validator d.errors

abbrev pub by_validator : Desk → TakerAfter → Desk
by_validator d v = counting (taker_declines v.reply) d d.dispenser v.session d.errors

abbrev pub by_both : Desk → After → TakerAfter → Desk
by_both d w v =
    counting (payer_declines w.reply || taker_declines v.reply) d w.session v.session (erred_by d.errors w.reply)

-- a record, given to the session that it is for: "2 milliseconds (given to both sessions)"; a request to the validator has no data; the dispenser's line alone is cleared
abbrev pub given : Desk → Record → Desk
given d (Request code upper lower) = by_dispenser d (session_request d.dispenser code upper lower lent_room)
given d (DispenserByte b) = by_dispenser d (session_byte d.dispenser b lent_room)
given d (Tick ms) = by_both d (session_tick d.dispenser ms lent_room) (taker_tick d.validator ms lent_room255)
given d (ValidatorByte b) = by_validator d (taker_byte d.validator b lent_room255)
given d (Command code) = by_validator d (taker_request d.validator code [] lent_room255)
given d Clear = by_operator d (session_clear d.dispenser)

-- records, one after the other
unfoldable pub run : Desk → List Record → Desk
run d [] = d
run d (x ∷ xs) = run (given d x) xs

-- what is left for the report
abbrev pub told : Desk → Findings
told d = record { account = d.dispenser.account; errors = d.errors; bills = d.validator.bills; table = d.validator.table; declined = d.declined; records = d.records; ending = Good }

-- a bad recording leaves its fault, and nothing else
abbrev pub bad_findings : Fault → ℕ → Findings
bad_findings why at = record { account = fresh_account; errors = no_errors; bills = no_bills; table = no_table; declined = 0; records = 0; ending = Bad why at }

-- what a recording says, replayed from a desk on
abbrev pub replayed : Desk → Reading → Findings
replayed d (records xs) = told (run d xs)
replayed d (bad why at) = bad_findings why at
