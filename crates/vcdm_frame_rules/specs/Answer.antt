-- Answers of the four-cassette unit, written and read (02, Q-3; 01, "Numbers a call can answer").
use Rattle.std.specs.Prelude.{ℕ, List, [], ◌∷◌, length}
use Rattle.refusals.specs.Rules.{Condition, Rule, isnt, under, judged, ◌gives◌}
use Rattle.refusals.specs.Put.{Written, refused, laid}
use Rattle.refusals.specs.declared.Refusal.{Refusal}
use Rattle.refusals.specs.declared.Refusal.TheVariants.{Room, Range}
use Rattle.xor_frame.specs.Layout.{all_in_range, all_bytes, all_values}
use Rattle.xor_frame.specs.Frame.{soh, frame, code_of, faults}
use Rattle.xor_frame.specs.declared.frame.Fault.{Fault}
use Rattle.vcdm_frame_rules.specs.Table.{unit_id, reset_code, status_code, purge_code, dispense_code, last_code, known, line, answer_fields, answer_length}
use Rattle.vcdm_frame_rules.specs.declared.answer.Paid.{Paid}
use Rattle.vcdm_frame_rules.specs.declared.answer.Cassettes.{Cassettes}
use Rattle.vcdm_frame_rules.specs.declared.answer.Spare.{Spare}
use Rattle.vcdm_frame_rules.specs.declared.answer.Place.{Place}
use Rattle.vcdm_frame_rules.specs.declared.answer.Places.{Places}
use Rattle.vcdm_frame_rules.specs.declared.answer.Answer.{Answer}
use Rattle.vcdm_frame_rules.specs.declared.answer.Answer.TheVariants.{Reset, Status, Purged, Dispensed, Last}
use Rattle.vcdm_frame_rules.specs.AnswerRead.{AnswerRead}
use Rattle.vcdm_frame_rules.specs.AnswerRead.{Read, Refused}

-- the code of each answer
abbrev pub answer_code : Answer → ℕ
answer_code (Reset e) = reset_code
answer_code (Status e d0 d1 p) = status_code
answer_code (Purged e m c r) = purge_code
answer_code (Dispensed e s c r) = dispense_code
answer_code (Last l e s c r) = last_code

-- the values of its fields, in the frame's order
abbrev pub paid_values : Paid → List ℕ → List ℕ
paid_values p more = p.exit ∷ p.rejects ∷ p.kind ∷ more

abbrev pub cassette_values : Cassettes → List ℕ → List ℕ
cassette_values c more = paid_values c.top (paid_values c.second (paid_values c.third (paid_values c.bottom more)))

abbrev pub spare_values : Spare → List ℕ
spare_values r = r.a ∷ r.b ∷ r.c ∷ r.d ∷ r.e ∷ r.f ∷ r.g ∷ r.h ∷ r.i ∷ []

abbrev pub place_values : Place → List ℕ → List ℕ
place_values p more = p.stat ∷ p.kind ∷ p.opacity ∷ p.length ∷ more

abbrev pub places_values : Places → List ℕ
places_values p = place_values p.top (place_values p.second (place_values p.third (place_values p.bottom [])))

abbrev pub answer_values : Answer → List ℕ
answer_values (Reset e) = e ∷ []
answer_values (Status e d0 d1 p) = e ∷ d0 ∷ d1 ∷ places_values p
answer_values (Purged e m c r) = e ∷ m ∷ cassette_values c (spare_values r)
answer_values (Dispensed e s c r) = e ∷ s ∷ cassette_values c (spare_values r)
answer_values (Last l e s c r) = l ∷ e ∷ s ∷ cassette_values c (spare_values r)

-- each field is in its range
unfoldable pub answer_fits : Answer → Condition
answer_fits a = all_in_range (answer_fields (answer_code a)) (answer_values a)

-- the answer's frame: "01h, 30h, 02h, code, fields, 03h, check"
unfoldable pub answer_frame : Answer → List ℕ
answer_frame a = frame soh unit_id (answer_code a) (all_bytes (answer_fields (answer_code a)) (answer_values a))

-- the room, 1; then the fields, 2
unfoldable pub answer_refusals : Answer → List ℕ → List (Rule Refusal)
answer_refusals a room =
    under (length room) (answer_length (answer_code a)) gives Room
    ∷ isnt (answer_fits a) gives Range
    ∷ []

unfoldable pub write_answer : Answer → List ℕ → Written
write_answer a room = judged (answer_refusals a room) (λ why. refused why room) (laid (answer_frame a) room)

-- the answer that a frame holds
abbrev pub answer_in : List ℕ → Answer
answer_in s = (line (code_of s)).makes (all_values (answer_fields (code_of s)) 4 s)

-- the tests of an answer frame
abbrev pub answer_faults : List ℕ → List (Rule Fault)
answer_faults = faults soh unit_id known answer_fields

unfoldable pub read_answer : List ℕ → AnswerRead
read_answer s = judged (answer_faults s) Refused (Read (answer_in s))
