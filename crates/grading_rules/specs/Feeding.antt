-- A replay that goes on (02, Q-7): a recording "fed in pieces of any size including empty ones", until the caller says that it has ended.
use Rattle.std.specs.Prelude.{ℕ, ◌+◌, List, [], ◌∷◌, Err}
use Rattle.recording.specs.Reading.{awaiting, fresh_reader, taken_byte, ended}
use Rattle.recording.specs.declared.Fault.{Fault}
use Rattle.recording.specs.Outcome.{Outcome}
use Rattle.recording.specs.Outcome.{More, Whole, Bad}
use Rattle.recording.specs.declared.Place.TheVariants.{Broken}
use Rattle.recording.specs.declared.Reader.{Reader}
use Rattle.recording.specs.Verdict.{Verdict}
use Rattle.recording.specs.Verdict.{Good, Bad as NotGood}
use Rattle.grading_rules.specs.Replay.{fresh_desk, given, told, bad_findings}
use Rattle.grading_rules.specs.declared.desk.Desk.{Desk}
use Rattle.grading_rules.specs.declared.desk.Replaying.{Replaying}
use Rattle.grading_rules.specs.declared.findings.Findings.{Findings}

-- nothing was fed
unfoldable pub fresh_replay : Replaying
fresh_replay = record { desk = fresh_desk; reader = fresh_reader; fed = 0 }

-- after a fault: its number and the offset, and nothing else
unfoldable pub broken_at : Fault → ℕ → Replaying
broken_at why at = record { desk = fresh_desk; reader = awaiting at (Broken why); fed = 0 }

-- what a byte brought: more of its record; the record, which is given to the session that it is for; or a fault
abbrev pub after_byte : Outcome → Reader → Replaying → Replaying
after_byte More r w = record { desk = w.desk; reader = r; fed = w.fed + 1 }
after_byte (Whole x) r w = record { desk = given w.desk x; reader = r; fed = w.fed + 1 }
after_byte (Err x) r w = broken_at x.fault x.at

-- a byte: its offset is the number of bytes fed before it
unfoldable pub fed_byte : Replaying → ℕ → Replaying
fed_byte w b = after_byte (taken_byte w.reader w.fed b).outcome (taken_byte w.reader w.fed b).reader w

-- a piece, byte by byte
unfoldable pub fed_piece : Replaying → List ℕ → Replaying
fed_piece w [] = w
fed_piece w (b ∷ s) = fed_piece (fed_byte w b) s

-- pieces, one after the other
unfoldable pub fed_pieces : Replaying → List (List ℕ) → Replaying
fed_pieces w [] = w
fed_pieces w (s ∷ ps) = fed_pieces (fed_piece w s) ps

-- "Number 22 is given only when the caller says that the recording has ended."
abbrev pub ended_as : Verdict → Desk → Findings
ended_as Good d = told d
ended_as (Err x) d = bad_findings x.fault x.at

unfoldable pub ended_replay : Replaying → Findings
ended_replay w = ended_as (ended w.reader) w.desk

-- a recording in one piece
unfoldable pub replay_of : List ℕ → Findings
replay_of s = ended_replay (fed_piece fresh_replay s)
