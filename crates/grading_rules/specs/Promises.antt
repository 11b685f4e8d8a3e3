-- What is promised of a replay: the calls that a recording makes on each session, and what their history gives, proved in proofs/Recorded.antt; and that it does not matter
-- how a recording is cut, proved in proofs/Cuts.antt.
-- The desk pays out by the dispenser session, the payer, and takes in by the validator session, the taker.
use Rattle.std.specs.Prelude.{ℕ, ◌+◌, ◌≤◌, ◌<◌, ◌≡◌, Bool, cond, ◌||◌, length, get_or}
use mathlib.Core.List.{List, [], ◌∷◌, ◌++◌, flatten}
use Rattle.std.proofs.Common.{arith}
use Rattle.numbers.specs.Promises.{AllBytes}
use Rattle.ledger.specs.Account.{Balanced, commands, sums}
use Rattle.dispenser_frame_rules.specs.declared.answer.Cassette.{Cassette}
use Rattle.dispenser_rules.specs.Session.{session_request, session_byte, session_tick, session_clear}
use Rattle.dispenser_rules.specs.Calls.{Call, request, byte, tick, clear, history}
use Rattle.dispenser_rules.specs.Errors.{last_of, last_error_in}
use Rattle.dispenser_rules.specs.Requests.{oldest_first}
use Rattle.dispenser_rules.specs.Kept.{last_paying}
use Rattle.exchange_rules.specs.Machine.{plain}
use Rattle.dispenser_rules.specs.Unit.{model2000_t, cassette}
use Rattle.validator_rules.specs.Limits.{types}
use Rattle.validator_rules.specs.Bills.{bills}
use Rattle.validator_rules.specs.Session.{session_request as taker_request, session_byte as taker_byte, session_tick as taker_tick}
use Rattle.validator_rules.specs.Calls.{Call as TakerCall, request as taker_asks, byte as taker_hears, tick as taker_waits, history as taker_history}
use Rattle.validator_rules.specs.History.{counted, table_by}
use Rattle.recording.specs.Record.{most_bytes, InRange, AllInRange}
use Rattle.recording.specs.Reading.{records, bad, read_recording}
use Rattle.recording.specs.declared.Fault.{Fault}
use Rattle.recording.specs.declared.Fault.TheVariants.{Cut}
use Rattle.recording.specs.declared.Record.{Record}
use Rattle.recording.specs.declared.Record.TheVariants.{Request, DispenserByte, Tick, ValidatorByte, Command, Clear}
use Rattle.grading_rules.specs.Replay.{fresh_desk, lent_room, lent_room255, payer_declines, taker_declines, given, bad_findings, replayed}
use Rattle.grading_rules.specs.Feeding.{fresh_replay, broken_at, fed_piece, fed_pieces, ended_replay, replay_of}
use Rattle.grading_rules.specs.declared.desk.Desk.{Desk}
use Rattle.grading_rules.specs.declared.desk.Replaying.{Replaying}
use Rattle.grading_rules.specs.declared.findings.Findings.{Findings}

-- ---- the calls that records make

-- on the dispenser session, the oldest first
abbrev pub call_of : Record → List Call
call_of (Request code upper lower) = request code upper lower lent_room ∷ []
call_of (DispenserByte b) = byte b lent_room ∷ []
call_of (Tick ms) = tick ms lent_room ∷ []
call_of (ValidatorByte b) = []
call_of (Command code) = []
call_of Clear = clear ∷ []

unfoldable pub calls : List Record → List Call
calls [] = []
calls (x ∷ xs) = call_of x ++ calls xs

-- on the validator session
pub small : (b : ℕ) → b ≤ 255 → b < 256
small b h = omega arith

abbrev pub taker_call : (x : Record) → InRange x → List TakerCall
taker_call (Request code upper lower) i = []
taker_call (DispenserByte b) i = []
taker_call (Tick ms) i = taker_waits ms lent_room255 ∷ []
taker_call (ValidatorByte b) i = taker_hears b (small b i.1) lent_room255 ∷ []
taker_call (Command code) i = taker_asks code [] lent_room255 ∷ []
taker_call Clear i = []

unfoldable pub taker_calls : (xs : List Record) → AllInRange xs → List TakerCall
taker_calls [] i = []
taker_calls (x ∷ xs) i = taker_call x i.0 ++ taker_calls xs i.1

-- ---- the records that a session refused

abbrev pub refuses : Desk → Record → Bool
refuses d (Request code upper lower) = payer_declines (session_request d.dispenser code upper lower lent_room).reply
refuses d (DispenserByte b) = payer_declines (session_byte d.dispenser b lent_room).reply
refuses d (Tick ms) = payer_declines (session_tick d.dispenser ms lent_room).reply || taker_declines (taker_tick d.validator ms lent_room255).reply
refuses d (ValidatorByte b) = taker_declines (taker_byte d.validator b lent_room255).reply
refuses d (Command code) = taker_declines (taker_request d.validator code [] lent_room255).reply
refuses d Clear = payer_declines (session_clear d.dispenser).reply

unfoldable pub refusals : Desk → List Record → ℕ
refusals d [] = 0
refusals d (x ∷ xs) = cond (refuses d x) 1 0 + refusals (given d x) xs

-- ---- what a good recording with the records xs leaves for its report: f is what its replay finds

pub record Recorded (f : Findings) (xs : List Record) (i : AllInRange xs) : Type 0 where
  -- the sums are those of demand 3, for the calls that the recording makes, and they balance
  pub account : (c : Cassette) → plain (cassette f.account c) ≡ sums model2000_t (history (calls xs)) c
  pub balance : (c : Cassette) → Balanced (sums model2000_t (history (calls xs)) c)
  -- the kept requests are the last 32 paying ones of that history, oldest first
  pub kept : oldest_first f.account.requests ≡ last_paying (calls xs)
  -- the last error of each cassette is the class of the error byte of its last good paying or test answer, by the bytes of the history
  pub errors_told : (c : Cassette) → last_of f.errors c ≡ last_error_in (commands model2000_t (history (calls xs))) c
  -- the bills are those of the validator's history
  pub bills_told : (y : ℕ) → y < types → (get_or f.bills y (bills 0)).0 ≡ counted y (taker_history (taker_calls xs i))
  -- the bill table is the one that the same history gives (02, Q-1)
  pub table_told : f.table ≡ table_by (taker_history (taker_calls xs i))
  -- declined is the number of records that a session refused, and records counts them all
  pub declined : f.declined ≡ refusals fresh_desk xs
  pub all : f.records ≡ length xs

-- of every good recording, fed in any pieces; its records are in range, so that what they make are calls
abbrev pub AsRecorded : Type 0
AsRecorded = (ps : List (List ℕ)) (xs : List Record) → AllBytes (flatten ps) → read_recording (flatten ps) ≡ records xs
    → (i : AllInRange xs) × Recorded (ended_replay (fed_pieces fresh_replay ps)) xs i

-- ---- pieces

-- "However the recording is cut, the report is the same as for one piece." For every list of pieces, empty ones too, feeding them one by one and ending leaves what
-- the recording in one piece leaves; and a recording leaves what is read in it
pub record HoweverCut : Type 0 where
  pub same : (ps : List (List ℕ)) → ended_replay (fed_pieces fresh_replay ps) ≡ replay_of (flatten ps)
  pub as_read : (s : List ℕ) → replay_of s ≡ replayed fresh_desk (read_recording s)

-- "After a fault further pieces change nothing." Pieces that show a fault leave its number and its offset and nothing else; every piece leaves that unchanged, and the
-- end says it. "Number 22 is given only when the caller says that the recording has ended": no pieces leave that fault
pub record AfterFault : Type 0 where
  pub shows : (ps : List (List ℕ)) (why : Fault) (at : ℕ) → (why ≡ Cut → ⊥) → read_recording (flatten ps) ≡ bad why at
      → fed_pieces fresh_replay ps ≡ broken_at why at
  pub stays : (why : Fault) (at : ℕ) (s : List ℕ) → fed_piece (broken_at why at) s ≡ broken_at why at
  pub end : (why : Fault) (at : ℕ) → ended_replay (broken_at why at) ≡ bad_findings why at
  pub never_cut : (ps : List (List ℕ)) (at : ℕ) → fed_pieces fresh_replay ps ≡ broken_at Cut at → ⊥

-- no count wraps, and no offset: there are no more records declined than records, no more records than bytes fed, since a record has at least one, and of those no more than a
-- recording may have, 4,294,967,295; nor is the record begun, or a fault, further on. So each fits 32 bits
pub record Counted (w : Replaying) : Type 0 where
  pub start_most : w.reader.start ≤ most_bytes
  pub declined_most : w.desk.declined ≤ w.desk.records
  pub records_most : w.desk.records ≤ w.fed
  pub fed_most : w.fed ≤ most_bytes

-- a replay that is fresh is counted, and stays so whatever is fed
pub record StaysCounted : Type 0 where
  pub at_first : Counted fresh_replay
  pub after : (w : Replaying) (s : List ℕ) → Counted w → Counted (fed_piece w s)
