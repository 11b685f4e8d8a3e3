-- The table of codes (01, "Dispenser frames"): what each command asks, and the fields of its answer.
use Rattle.std.specs.Prelude.{ℕ, Bool, true, false, cond, List, [], ◌∷◌, ◌++◌, eqb, get_or}
use Rattle.refusals.specs.Rules.{Condition, never, either, same}
use Rattle.xor_frame.specs.Layout.{Field, count, byte, in_range}
use Rattle.xor_frame.specs.Frame.{length_with}
use Rattle.dispenser_frame_rules.specs.declared.answer.Cassette.{Cassette}
use Rattle.dispenser_frame_rules.specs.declared.answer.Cassette.TheVariants.{Upper, Lower}
use Rattle.dispenser_frame_rules.specs.declared.answer.Answer.{Answer}
use Rattle.dispenser_frame_rules.specs.declared.answer.Answer.TheVariants.{Purged, PaidOne, PaidBoth, Tested, Status}

-- the ID of the Model 2000T, and its codes by their meaning in the table
abbrev pub model_id : ℕ
model_id = 0x50

abbrev pub purge_code : ℕ
purge_code = 0x44

abbrev pub pay_upper_code : ℕ
pay_upper_code = 0x45

abbrev pub status_code : ℕ
status_code = 0x46

abbrev pub pay_lower_code : ℕ
pay_lower_code = 0x55

abbrev pub pay_both_code : ℕ
pay_both_code = 0x56

abbrev pub test_upper_code : ℕ
test_upper_code = 0x76

abbrev pub test_lower_code : ℕ
test_lower_code = 0x77

-- what a command asks of a cassette: notes, or none
abbrev pub notes : Bool
notes = true

abbrev pub none : Bool
none = false

-- a line of the table: what is asked of the upper cassette and of the lower, the fields of the answer, and the answer that their
-- values make
pub record Row : Type 0 where
  pub code : ℕ
  pub upper : Bool
  pub lower : Bool
  pub answer : List Field
  pub makes : List ℕ → Answer

abbrev pub row : ℕ → Bool → Bool → List Field → (List ℕ → Answer) → Row
row c u l fs m = record { code = c; upper = u; lower = l; answer = fs; makes = m }

-- "The error byte may be 30h to 7Fh"
abbrev pub error : Field
error = byte 0x30 0x7F

-- "cassette state (30h or 31h)"
abbrev pub state : Field
state = byte 0x30 0x31

-- "rejects (0 to 99)"
abbrev pub rejects : Field
rejects = count 0 99

-- "CHK count, EXIT count (each 0 to 69)"
abbrev pub passed : Field
passed = count 0 69

-- a fixed 30h
abbrev pub thirty : Field
thirty = byte 0x30 0x30

-- "44h: error"
abbrev pub purged_fields : List Field
purged_fields = error ∷ []

abbrev pub purged : List ℕ → Answer
purged v = Purged (get_or v 0 0)

-- "45h, 55h: CHK count, EXIT count, error, cassette state, rejects"
abbrev pub paid_one_fields : List Field
paid_one_fields = passed ∷ passed ∷ error ∷ state ∷ rejects ∷ []

abbrev pub paid_one : Cassette → List ℕ → Answer
paid_one c v = PaidOne c (get_or v 0 0) (get_or v 1 0) (get_or v 2 0) (get_or v 3 0) (get_or v 4 0)

-- "56h: upper CHK and EXIT, lower CHK and EXIT, error, upper state, lower state, upper rejects, lower rejects"
abbrev pub paid_both_fields : List Field
paid_both_fields = passed ∷ passed ∷ passed ∷ passed ∷ error ∷ state ∷ state ∷ rejects ∷ rejects ∷ []

abbrev pub paid_both : List ℕ → Answer
paid_both v =
    PaidBoth (get_or v 0 0) (get_or v 1 0) (get_or v 2 0) (get_or v 3 0) (get_or v 4 0) (get_or v 5 0) (get_or v 6 0) (get_or v 7 0) (get_or v 8 0)

-- "76h, 77h: CHK count 0 to 29, two bytes 30h, error, state, rejects"
abbrev pub tested_fields : List Field
tested_fields = count 0 29 ∷ thirty ∷ thirty ∷ error ∷ state ∷ rejects ∷ []

abbrev pub tested : Cassette → List ℕ → Answer
tested c v = Tested c (get_or v 0 0) (get_or v 3 0) (get_or v 4 0) (get_or v 5 0)

-- "46h: 30h, error, sensor 0 (its top bit is 1), sensor 1 (any)"
abbrev pub status_fields : List Field
status_fields = thirty ∷ error ∷ byte 0x80 0xFF ∷ byte 0x00 0xFF ∷ []

abbrev pub status : List ℕ → Answer
status v = Status (get_or v 1 0) (get_or v 2 0) (get_or v 3 0)

unfoldable pub table : List Row
table =
    row purge_code none none purged_fields purged
    ∷ row pay_upper_code notes none paid_one_fields (paid_one Upper)
    ∷ row status_code none none status_fields status
    ∷ row pay_lower_code none notes paid_one_fields (paid_one Lower)
    ∷ row pay_both_code notes notes paid_both_fields paid_both
    ∷ row test_upper_code none none tested_fields (tested Upper)
    ∷ row test_lower_code none none tested_fields (tested Lower)
    ∷ []

-- the code stands in the table
unfoldable pub code_in : ℕ → List Row → Condition
code_in code [] = never
code_in code (r ∷ rs) = either (same code r.code) (code_in code rs)

abbrev pub known : ℕ → Condition
known code = code_in code table

-- its line; an empty one where the code is not in the table
unfoldable pub line_in : ℕ → List Row → Row
line_in code [] = row 0 none none [] purged
line_in code (r ∷ rs) = cond (eqb code r.code) r (line_in code rs)

abbrev pub line : ℕ → Row
line code = line_in code table

-- "1 to 60"
abbrev pub wanted : Field
wanted = count 1 60

-- where notes are asked, so many; where none are, none is given
abbrev pub asked_fields : Bool → List Field
asked_fields true = wanted ∷ []
asked_fields false = []

abbrev pub asked_values : Bool → ℕ → List ℕ
asked_values true n = n ∷ []
asked_values false n = []

abbrev pub asks : Bool → ℕ → Condition
asks true n = in_range wanted n
asks false n = same n 0

-- the fields of a command and of its answer
abbrev pub command_fields : ℕ → List Field
command_fields code = asked_fields (line code).upper ++ asked_fields (line code).lower

abbrev pub answer_fields : ℕ → List Field
answer_fields code = (line code).answer

-- the length of a command and of its answer; 0 where the code is not in the table
abbrev pub command_length : ℕ → ℕ
command_length = length_with known command_fields

abbrev pub answer_length : ℕ → ℕ
answer_length = length_with known answer_fields
