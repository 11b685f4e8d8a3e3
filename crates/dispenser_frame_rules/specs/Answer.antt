-- Answers, written and read (01, "Dispenser frames" and "Numbers a call can answer").
use Rattle.std.specs.Prelude.{ℕ, List, [], ◌∷◌, length}
use Rattle.refusals.specs.Rules.{Condition, Rule, isnt, under, judged, ◌gives◌}
use Rattle.refusals.specs.Put.{Written, refused, laid}
use Rattle.refusals.specs.declared.Refusal.{Refusal}
use Rattle.refusals.specs.declared.Refusal.TheVariants.{Room, Range}
use Rattle.xor_frame.specs.Layout.{all_in_range, all_bytes, all_values}
use Rattle.dispenser_frame_rules.specs.Table.{model_id, purge_code, pay_upper_code, status_code, pay_lower_code, pay_both_code, test_upper_code, test_lower_code, known, line, answer_fields, answer_length}
use Rattle.xor_frame.specs.Frame.{soh, frame, code_of, faults}
use Rattle.xor_frame.specs.declared.frame.Fault.{Fault}
use Rattle.error_codes.specs.Errors.{error_class}
use Rattle.dispenser_frame_rules.specs.declared.answer.Cassette.{Cassette}
use Rattle.dispenser_frame_rules.specs.declared.answer.Cassette.TheVariants.{Upper, Lower}
use Rattle.dispenser_frame_rules.specs.declared.answer.Answer.{Answer}
use Rattle.dispenser_frame_rules.specs.declared.answer.Answer.TheVariants.{Purged, PaidOne, PaidBoth, Tested, Status}
use Rattle.dispenser_frame_rules.specs.AnswerRead.{AnswerRead}
use Rattle.dispenser_frame_rules.specs.AnswerRead.{Read, Refused}

-- the codes of an answer that speaks of one cassette
abbrev pub pay_code : Cassette → ℕ
pay_code Upper = pay_upper_code
pay_code Lower = pay_lower_code

abbrev pub test_code : Cassette → ℕ
test_code Upper = test_upper_code
test_code Lower = test_lower_code

-- the code of each answer
abbrev pub answer_code : Answer → ℕ
answer_code (Purged e) = purge_code
answer_code (PaidOne k c x e s r) = pay_code k
answer_code (PaidBoth uc ux lc lx e us ls ur lr) = pay_both_code
answer_code (Tested k c e s r) = test_code k
answer_code (Status e s0 s1) = status_code

-- the values of its fields, in 01's order
abbrev pub answer_values : Answer → List ℕ
answer_values (Purged e) = e ∷ []
answer_values (PaidOne k c x e s r) = c ∷ x ∷ e ∷ s ∷ r ∷ []
answer_values (PaidBoth uc ux lc lx e us ls ur lr) = uc ∷ ux ∷ lc ∷ lx ∷ e ∷ us ∷ ls ∷ ur ∷ lr ∷ []
answer_values (Tested k c e s r) = c ∷ 0x30 ∷ 0x30 ∷ e ∷ s ∷ r ∷ []
answer_values (Status e s0 s1) = 0x30 ∷ e ∷ s0 ∷ s1 ∷ []

-- its error byte
abbrev pub answer_error : Answer → ℕ
answer_error (Purged e) = e
answer_error (PaidOne k c x e s r) = e
answer_error (PaidBoth uc ux lc lx e us ls ur lr) = e
answer_error (Tested k c e s r) = e
answer_error (Status e s0 s1) = e

-- each field is in its range
unfoldable pub answer_fits : Answer → Condition
answer_fits a = all_in_range (answer_fields (answer_code a)) (answer_values a)

-- the answer's frame: "01h, 50h, 02h, code, fields, 03h, check"
unfoldable pub answer_frame : Answer → List ℕ
answer_frame a = frame soh model_id (answer_code a) (all_bytes (answer_fields (answer_code a)) (answer_values a))

-- the room, 1; then the fields, 2
unfoldable pub answer_refusals : Answer → List ℕ → List (Rule Refusal)
answer_refusals a room =
    under (length room) (answer_length (answer_code a)) gives Room
    ∷ isnt (answer_fits a) gives Range
    ∷ []

unfoldable pub write_answer : Answer → List ℕ → Written
write_answer a room = judged (answer_refusals a room) (λ why. refused why room) (laid (answer_frame a) room)

-- an answer, with the class of its error byte
abbrev pub read_as : Answer → AnswerRead
read_as a = Read a (error_class (answer_error a))

-- the answer that a frame holds
abbrev pub answer_in : List ℕ → Answer
answer_in s = (line (code_of s)).makes (all_values (answer_fields (code_of s)) 4 s)

-- the tests of an answer frame
abbrev pub answer_faults : List ℕ → List (Rule Fault)
answer_faults = faults soh model_id known answer_fields

unfoldable pub read_answer : List ℕ → AnswerRead
read_answer s = judged (answer_faults s) Refused (read_as (answer_in s))
