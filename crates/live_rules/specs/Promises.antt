-- The live account is the replay of what was written down. Proved in proofs/Replaying.antt.
use Rattle.std.specs.Prelude.{ℕ, ◌+◌, ◌<◌, ◌≡◌, List, [], ◌∷◌, ◌++◌, ◌↔◌, length, take}
use Rattle.refusals.specs.Numbers.{too_long}
use Rattle.recording.specs.Record.{most_bytes, numbers_of, AllBelow, record_bytes}
use Rattle.recording.specs.Reading.{fresh_reader}
use Rattle.recording.specs.declared.Fault.{Fault}
use Rattle.recording.specs.declared.Record.{Record}
use Rattle.grading_rules.specs.Replay.{fresh_desk, told}
use Rattle.grading_rules.specs.Feeding.{fresh_replay, broken_at, fed_piece, replay_of}
use Rattle.grading_rules.specs.declared.desk.Desk.{Desk}
use Rattle.live_rules.specs.Entering.{entry_number, noted_by, entered_by, whole_bytes}
use Rattle.live_rules.specs.Entry.{Entry}
use Rattle.live_rules.specs.Entry.{Bytes, Refused, Full}

-- a record, and the rooms that are lent. Every number of a record that code can give is below 4,294,967,296
pub record Call : Type 0 where
  pub given : Record
  pub below : AllBelow (numbers_of given)
  pub out : List ℕ
  pub room : List ℕ
  pub room255 : List ℕ

-- a desk at work, its recording, and how many bytes that has
pub record Work : Type 0 where
  pub desk : Desk
  pub written : ℕ
  pub recording : List ℕ

-- the bytes that were put go behind the recording; where none were, it stays
abbrev pub grown : Entry → List ℕ → List ℕ → List ℕ
grown (Bytes n) out s = s ++ take n out
grown (Refused why) out s = s
grown Full out s = s

abbrev pub longer : Entry → ℕ → ℕ
longer (Bytes n) m = m + n
longer (Refused why) m = m
longer Full m = m

-- a call, and calls one after the other
unfoldable pub worked : Work → Call → Work
worked k c =
    let w = entered_by k.desk k.written c.given c.out c.room c.room255 in
    record {
      desk = w.living.desk;
      written = longer w.note.entry k.written;
      recording = grown w.note.entry w.note.out k.recording;
    }

unfoldable pub works : Work → List Call → Work
works k [] = k
works k (c ∷ cs) = works (worked k c) cs

abbrev pub fresh_work : Work
fresh_work = record { desk = fresh_desk; written = 0; recording = [] }

-- replaying the recording gives this very desk, with its reader at the start of a record
abbrev pub Replays : Work → Type 0
Replays k = fed_piece fresh_replay k.recording ≡ record { desk = k.desk; reader = fresh_reader; fed = k.written }

-- what is left to go on with, of a recording in which no fault shows: its whole records
abbrev pub resumed : List ℕ → Work
resumed s =
    let w = fed_piece fresh_replay s in
    let n = whole_bytes w.reader w.fed in
    record { desk = w.desk; written = n; recording = take n s }

-- "replaying the recording so far gives this very desk": at first, where a recording is taken up again, and after any calls at all. So the report of the recording is told by
-- the desk; and a record is refused for length, with 24, exactly where the recording would be over the limit
pub record LiveIsReplay : Type 0 where
  pub at_first : Replays fresh_work
  pub taken_up : (s : List ℕ) → ((why : Fault) (at : ℕ) → fed_piece fresh_replay s ≡ broken_at why at → ⊥) → Replays (resumed s)
  pub after : (k : Work) (cs : List Call) → Replays k → Replays (works k cs)
  pub reported : (k : Work) → Replays k → replay_of k.recording ≡ told k.desk
  pub size : (k : Work) → Replays k → k.written ≡ length k.recording
  pub full : (k : Work) (c : Call) → Replays k
      → ((noted_by k.written k.desk.records k.desk.declined c.given c.out).entry ≡ Full)
      ↔ (most_bytes < k.written + length (record_bytes c.given))
  pub numbered : (k : Work) (c : Call) → Replays k
      → (entry_number (noted_by k.written k.desk.records k.desk.declined c.given c.out).entry ≡ too_long)
      ↔ (most_bytes < k.written + length (record_bytes c.given))
