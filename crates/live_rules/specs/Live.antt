-- A record, given to the session that it is for as the desk works: the desk is the one of replay (`given`), and the rooms hold what goes to each line.
-- The desk pays out by the dispenser session, the payer, and takes in by the validator session, the taker.
use Rattle.std.specs.Prelude.{ℕ, List, []}
use Rattle.dispenser_rules.specs.Session.{After, session_request, session_byte, session_tick, session_clear}
use Rattle.dispenser_rules.specs.declared.session.Closing.TheVariants.{Nothing}
use Rattle.dispenser_rules.specs.Reply.{Reply}
use Rattle.dispenser_rules.specs.Reply.{Done}
use Rattle.dispenser_rules.specs.declared.session.Session.{Session}
use Rattle.validator_rules.specs.Session.{After as TakerAfter, session_request as taker_request, session_byte as taker_byte, session_tick as taker_tick}
use Rattle.validator_rules.specs.declared.session.Closing.TheVariants.{Nothing as TakerNothing}
use Rattle.validator_rules.specs.Reply.{Reply as TakerReply}
use Rattle.validator_rules.specs.Reply.{Done as TakerDone}
use Rattle.validator_rules.specs.declared.session.Session.{Session as Taker}
use Rattle.recording.specs.declared.Record.{Record}
use Rattle.recording.specs.declared.Record.TheVariants.{Request, DispenserByte, Tick, ValidatorByte, Command, Clear}
use Rattle.grading_rules.specs.Replay.{given}
use Rattle.grading_rules.specs.declared.desk.Desk.{Desk}
use Rattle.live_rules.specs.declared.desk.Lived.{Lived}

-- a session that the record is not for: nothing is put, and nothing closes
abbrev pub untouched : Session → List ℕ → After
untouched s r = record { session = s; reply = Done 0 Nothing; room = r }

abbrev pub taker_untouched : Taker → List ℕ → TakerAfter
taker_untouched s r = record { session = s; reply = TakerDone 0 TakerNothing; room = r }

-- clear is lent no room
abbrev pub with_room : After → List ℕ → After
with_room w r = record { session = w.session; reply = w.reply; room = r }

-- the sessions' own steps, in the room that is lent: "2 milliseconds (given to both sessions)"; a request to the validator has no data
abbrev pub to_payer : Session → Record → List ℕ → After
to_payer s (Request code upper lower) r = session_request s code upper lower r
to_payer s (DispenserByte b) r = session_byte s b r
to_payer s (Tick ms) r = session_tick s ms r
to_payer s (ValidatorByte b) r = untouched s r
to_payer s (Command code) r = untouched s r
to_payer s Clear r = with_room (session_clear s) r

abbrev pub to_taker : Taker → Record → List ℕ → TakerAfter
to_taker s (Request code upper lower) r = taker_untouched s r
to_taker s (DispenserByte b) r = taker_untouched s r
to_taker s (Tick ms) r = taker_tick s ms r
to_taker s (ValidatorByte b) r = taker_byte s b r
to_taker s (Command code) r = taker_request s code [] r
to_taker s Clear r = taker_untouched s r

-- what a step leaves: the desk, what each session answered, and every byte of both rooms
pub record Living : Type 0 where
  pub desk : Desk
  pub dispenser : Reply
  pub validator : TakerReply
  pub room : List ℕ
  pub room255 : List ℕ

abbrev pub lived : Lived → List ℕ → List ℕ → Living
lived l r q = record { desk = l.desk; dispenser = l.dispenser; validator = l.validator; room = r; room255 = q }

-- the desk of replay; the answers and the rooms of the sessions' own steps
unfoldable pub lived_by : Desk → Record → List ℕ → List ℕ → Living
lived_by d x r q =
    record {
      desk = given d x;
      dispenser = (to_payer d.dispenser x r).reply;
      validator = (to_taker d.validator x q).reply;
      room = (to_payer d.dispenser x r).room;
      room255 = (to_taker d.validator x q).room;
    }
