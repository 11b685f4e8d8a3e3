-- What is promised of a report beside its text. Proved in proofs/Enough.antt.
use Rattle.std.specs.Prelude.{ℕ, ◌≤◌, List, length}
use Rattle.numbers.specs.Promises.{AllBytes}
use Rattle.report.specs.Text.{longest}
use Rattle.report.specs.Report.{report_of}

-- a room of so many bytes is enough for the report of any recording
abbrev pub Enough : Type 0
Enough = (s : List ℕ) → AllBytes s → length (report_of s) ≤ longest
