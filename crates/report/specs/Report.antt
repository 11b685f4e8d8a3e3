-- The report (01, "Recording and report"): its lines, in order, and their text.
use Rattle.std.specs.Prelude.{ℕ, suc, cond, List, [], ◌∷◌, ◌++◌, eqb, Err}
use Rattle.numbers.specs.Decimal.{decimal}
use Rattle.dispenser_rules.specs.declared.account.Cassettes.{Cassettes}
use Rattle.dispenser_rules.specs.declared.errors.LastErrors.{LastErrors}
use Rattle.bill_table.specs.Table.{word_at}
use Rattle.bill_table.specs.Worth.{total_of}
use Rattle.bill_table.specs.declared.Letters.{Letters}
use Rattle.bill_table.specs.declared.Word.{Word}
use Rattle.bill_table.specs.declared.Value.{Value}
use Rattle.bill_table.specs.Total.{Total}
use Rattle.bill_table.specs.Total.{NoValue, Sum, Refused}
use Rattle.recording.specs.Record.{fault_number}
use Rattle.recording.specs.declared.Fault.{Fault}
use Rattle.report_lines.specs.Text.{bytes_of}
use Rattle.report_lines.specs.Lines.{field, lines, sums_line, error_line}
use Rattle.validator_rules.specs.declared.bills.Bills.{Bills}
use Rattle.grading_rules.specs.Feeding.{replay_of}
use Rattle.recording.specs.Verdict.{Verdict}
use Rattle.recording.specs.Verdict.{Good}
use Rattle.grading_rules.specs.declared.findings.Findings.{Findings}

-- letters between two spaces
abbrev pub spaced : Letters → List ℕ
spaced l = 0x20 ∷ l.0 ∷ l.1 ∷ l.2 ∷ 0x20 ∷ []

-- "value 2500 NLC 2": the total as a whole number, letters, decimals (02, Q-1)
abbrev pub value_text : Value → List ℕ
value_text v = bytes_of "value " ++ (decimal v.whole ++ (spaced v.letters ++ decimal v.decimals))

-- a line where there is a total, and else none
abbrev pub value_line : Total → List (List ℕ)
value_line NoValue = []
value_line (Sum v) = value_text v ∷ []
value_line (Refused why) = []

-- "A line "type 3 bills 2" per type seen": a type of which there is a bill; and what its bills are worth by its word of the bill table: "After a valued type's "type"
-- line the report gains "value .."" (02, Q-1)
unfoldable pub type_line : Word → ℕ → Bills → List (List ℕ)
type_line w y n = cond (eqb n.0 0) [] ((field "type " y ++ field " bills " n.0) ∷ value_line (total_of w n.0))

-- "rising", from a type on
unfoldable pub type_lines : List ℕ → ℕ → List Bills → List (List ℕ)
type_lines t y [] = []
type_lines t y (n ∷ ns) = type_line (word_at t y) y n ++ type_lines t (suc y) ns

-- "after the two cassette lines the report adds "upper last error NAME" and "lower last error NAME"" (02, Q-5)
abbrev pub cassette_lines : Cassettes → LastErrors → List (List ℕ)
cassette_lines a es =
    sums_line (bytes_of "upper") a.upper ∷ sums_line (bytes_of "lower") a.lower
    ∷ error_line (bytes_of "upper last error ") es.upper ∷ error_line (bytes_of "lower last error ") es.lower ∷ []

-- the lines of a good recording's report: those of the types stand between "declined" and "records"
abbrev pub good_lines : Cassettes → LastErrors → List Bills → List ℕ → ℕ → ℕ → List (List ℕ)
good_lines a es bs t declined records = cassette_lines a es ++ (field "declined " declined ∷ (type_lines t 0 bs ++ (field "records " records ∷ [])))

-- "A bad recording writes only "bad 22 at 7", with its number and the record's offset."
abbrev pub bad_line : Fault → ℕ → List ℕ
bad_line why at = field "bad " (fault_number why) ++ field " at " at

abbrev pub lines_in : Verdict → Findings → List (List ℕ)
lines_in Good f = good_lines f.account.cassettes f.errors f.bills f.table f.declined f.records
lines_in (Err x) f = bad_line x.fault x.at ∷ []

-- the report of what a replay left
unfoldable pub report_text : Findings → List ℕ
report_text f = lines (lines_in f.ending f)

-- the report of a recording, by its bytes alone
unfoldable pub report_of : List ℕ → List ℕ
report_of s = report_text (replay_of s)
