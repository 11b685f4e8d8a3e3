-- Lines of the report (01, "Recording and report"): how a line is laid, and the two of a cassette.
use Rattle.std.specs.Prelude.{ℕ, List, [], ◌∷◌, ◌++◌}
use Prim.Native.String.{String}
use Rattle.numbers.specs.Decimal.{decimal}
use Rattle.exchange_rules.specs.declared.notes.Sums.{Sums}
use Rattle.dispenser_rules.specs.LastError.{LastError}
use Rattle.dispenser_rules.specs.LastError.{NoneYet, Of}
use Rattle.error_codes.specs.Errors.{class_name}
use Rattle.report_lines.specs.Text.{bytes_of}

-- a word, and then a number
abbrev pub field : String → ℕ → List ℕ
field w n = bytes_of w ++ decimal n

-- "Every line ends with 0Ah."
abbrev pub line : List ℕ → List ℕ
line l = l ++ (0x0A ∷ [])

unfoldable pub lines : List (List ℕ) → List ℕ
lines [] = []
lines (l ∷ ls) = line l ++ lines ls

-- "upper asked 10 paid 10 short 0 over 0 ..
unfoldable pub paid_part : List ℕ → Sums → List ℕ
paid_part name s =
    name ++ (field " asked " s.asked.0 ++ (field " paid " s.paid.0 ++ (field " short " s.short.0 ++ field " over " s.over.0)))

-- .. refused 0 unknown 0 open 0 rejected 0"
unfoldable pub unpaid_part : Sums → List ℕ
unpaid_part s =
    field " refused " s.refused.0 ++ (field " unknown " s.unknown.0 ++ (field " open " s.pending.0 ++ field " rejected " s.rejected.0))

abbrev pub sums_line : List ℕ → Sums → List ℕ
sums_line name s = paid_part name s ++ unpaid_part s

-- "upper last error NAME"; "none" before any (02, Q-5)
abbrev pub last_name : LastError → String
last_name NoneYet = "none"
last_name (Of class) = class_name class

abbrev pub error_line : List ℕ → LastError → List ℕ
error_line name last = name ++ bytes_of (last_name last)
