-- A record entered in the recording: its bytes are put into a lent room, and it is given to the session that it is for.
use Rattle.std.specs.Prelude.{ℕ, ◌+◌, cond, List, length}
use Rattle.refusals.specs.Numbers.{refusal_number, too_long}
use Rattle.refusals.specs.Rules.{Condition, under, at_most, either}
use Rattle.refusals.specs.Put.{Put}
use Rattle.refusals.specs.Put.{Bytes as Laid, Refused as NotLaid}
use Rattle.dispenser_rules.specs.declared.session.Closing.TheVariants.{Nothing}
use Rattle.dispenser_rules.specs.Reply.{Done}
use Rattle.validator_rules.specs.declared.session.Closing.TheVariants.{Nothing as TakerNothing}
use Rattle.validator_rules.specs.Reply.{Done as TakerDone}
use Rattle.recording.specs.Record.{most_bytes, record_bytes}
use Rattle.recording.specs.declared.Place.{Place}
use Rattle.recording.specs.declared.Place.TheVariants.{Kind, Code, Upper, Lower, FromDispenser, Milliseconds, FromValidator, ToValidator, Broken}
use Rattle.recording.specs.declared.Reader.{Reader}
use Rattle.recording.specs.declared.Record.{Record}
use Rattle.record_writer.specs.Writing.{write_record}
use Rattle.grading_rules.specs.declared.desk.Desk.{Desk}
use Rattle.live_rules.specs.Live.{Living, lived, lived_by}
use Rattle.live_rules.specs.declared.entry.Entered.{Entered}
use Rattle.live_rules.specs.Entry.{Entry}
use Rattle.live_rules.specs.Entry.{Bytes, Refused, Full}

-- 01's number for each: the writer's, and 24, "over 4,294,967,295 bytes"; 0 where the record is entered
abbrev pub entry_number : Entry → ℕ
entry_number (Bytes n) = 0
entry_number (Refused why) = refusal_number why
entry_number Full = too_long

-- ---- the bytes

-- a recording of so many bytes would be over the limit with n more, or a count of the desk, of records or of those declined, cannot grow
unfoldable pub is_full : ℕ → ℕ → ℕ → ℕ → Condition
is_full written all declined n = either (under most_bytes (written + n)) (either (at_most most_bytes all) (at_most most_bytes declined))

-- what became of the record, with every byte of the room for it
pub record Noted : Type 0 where
  pub entry : Entry
  pub out : List ℕ

abbrev pub noted : Entry → List ℕ → Noted
noted e o = record { entry = e; out = o }

abbrev pub as_entry : Put → Entry
as_entry (Laid n) = Bytes n
as_entry (NotLaid why) = Refused why

unfoldable pub noted_by : ℕ → ℕ → ℕ → Record → List ℕ → Noted
noted_by written all declined x o =
    cond (is_full written all declined (length (record_bytes x))).test (noted Full o) (noted (as_entry (write_record x o).answer) (write_record x o).room)

-- ---- the record that is written is the one that is given to its session

-- nothing was entered
abbrev pub idle : Desk → List ℕ → List ℕ → Living
idle d r q = record { desk = d; dispenser = Done 0 Nothing; validator = TakerDone 0 TakerNothing; room = r; room255 = q }

abbrev pub lived_as : Entry → Desk → Record → List ℕ → List ℕ → Living
lived_as (Bytes n) d x r q = lived_by d x r q
lived_as (Refused why) d x r q = idle d r q
lived_as Full d x r q = idle d r q

-- what a call leaves, and every byte of the three rooms: for the record, for the dispenser's line, for the validator's
pub record Entering : Type 0 where
  pub note : Noted
  pub living : Living

abbrev pub entered : Entered → List ℕ → List ℕ → List ℕ → Entering
entered e o r q = record { note = noted e.entry o; living = lived e.lived r q }

abbrev pub entered_as : Noted → Desk → Record → List ℕ → List ℕ → Entering
entered_as n d x r q = record { note = n; living = lived_as n.entry d x r q }

-- d is the desk, whose recording has so many bytes
unfoldable pub entered_by : Desk → ℕ → Record → List ℕ → List ℕ → List ℕ → Entering
entered_by d written x o r q = entered_as (noted_by written d.records d.declined x o) d x r q

-- ---- a recording that is taken up again

-- how many bytes of one that was replayed are whole records: all, or those before the record that is begun
abbrev pub whole_in : Place → ℕ → ℕ → ℕ
whole_in Kind start fed = fed
whole_in Code start fed = start
whole_in Upper start fed = start
whole_in Lower start fed = start
whole_in FromDispenser start fed = start
whole_in Milliseconds start fed = start
whole_in FromValidator start fed = start
whole_in ToValidator start fed = start
whole_in (Broken why) start fed = start

unfoldable pub whole_bytes : Reader → ℕ → ℕ
whole_bytes r fed = whole_in r.place r.start fed
