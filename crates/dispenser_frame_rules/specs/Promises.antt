-- What is promised of dispenser frames: the statements, proved in proofs/Trips.antt, proofs/Exact.antt and proofs/Told.antt.
use Rattle.std.specs.Prelude.{ℕ, ◌≤◌, ◌≡◌, List, [], ◌∷◌, map, ◌↔◌, length, take, get_or}
use Rattle.refusals.specs.Rules.{Exactly, same, first_of, numbered, ◌gives◌}
use Rattle.refusals.specs.Numbers.{refusal_number}
use Rattle.refusals.specs.Put.{written, refused, laid}
use Rattle.refusals.specs.Put.{Bytes}
use Rattle.dispenser_frame_rules.specs.Table.{table, command_length, answer_length}
use Rattle.xor_frame.specs.Frame.{fault_number, code_of}
use Rattle.error_codes.specs.Errors.{error_class}
use Rattle.error_codes.specs.declared.ErrorClass.{ErrorClass}
use Rattle.dispenser_frame_rules.specs.Command.{sendable, command_frame, command_refusals, write_command, command_in, command_faults, read_command}
use Rattle.dispenser_frame_rules.specs.Answer.{answer_error, answer_frame, answer_refusals, write_answer, read_as, answer_in, answer_faults, read_answer}
use Rattle.dispenser_frame_rules.specs.CommandRead.{Read, Refused}
use Rattle.dispenser_frame_rules.specs.declared.answer.Answer.{Answer}
use Rattle.dispenser_frame_rules.specs.AnswerRead.{Read as Found, Refused as NotRead}

-- "each reading undoing the writing and the reverse" (the customer's second demand), for commands. Whatever the writer put reads as what
-- it was given; whatever reads well is written again as the same bytes, in any room that holds them
pub record CommandTrips : Type 0 where
  pub back : (code upper lower n : ℕ) (room after : List ℕ) → write_command code upper lower room ≡ written (Bytes n) after
      → read_command (take n after) ≡ Read code upper lower
  pub again : (s room : List ℕ) (code upper lower : ℕ) → read_command s ≡ Read code upper lower → length s ≤ length room
      → write_command code upper lower room ≡ laid s room

-- the same for answers
pub record AnswerTrips : Type 0 where
  pub back : (a : Answer) (n : ℕ) (room after : List ℕ) → write_answer a room ≡ written (Bytes n) after → read_answer (take n after) ≡ read_as a
  pub again : (s room : List ℕ) (a : Answer) (class : ErrorClass) → read_answer s ≡ Found a class → length s ≤ length room
      → write_answer a room ≡ laid s room

-- "Given exactly when": each number exactly when its condition is the first that holds, in 01's order, and done exactly when none does
pub record ExactlyWhen : Type 0 where
  pub write-command : (code upper lower : ℕ) (room : List ℕ)
      → Exactly (command_refusals code upper lower room) (λ why. refused why room) (laid (command_frame code upper lower) room)
      (write_command code upper lower room)
  pub read-command : (s : List ℕ) → Exactly (command_faults s) Refused (command_in (code_of s) s) (read_command s)
  pub write-answer : (a : Answer) (room : List ℕ)
      → Exactly (answer_refusals a room) (λ why. refused why room) (laid (answer_frame a) room) (write_answer a room)
  pub read_answer : (s : List ℕ) → Exactly (answer_faults s) NotRead (read_as (answer_in s)) (read_answer s)

-- 01's numbers in its order: of a reader "under 6 bytes, 11; opening, 12; code, 13; length for that code, 11; 14; 15; 16"; of a command's
-- writer 2, 1, 2 and of an answer's 1, 2
pub record InOrder : Type 0 where
  pub read-command : (s : List ℕ) → numbered fault_number (command_faults s) ≡ 11 ∷ 12 ∷ 13 ∷ 11 ∷ 14 ∷ 15 ∷ 16 ∷ []
  pub read_answer : (s : List ℕ) → numbered fault_number (answer_faults s) ≡ 11 ∷ 12 ∷ 13 ∷ 11 ∷ 14 ∷ 15 ∷ 16 ∷ []
  pub write-command : (code upper lower : ℕ) (room : List ℕ) → numbered refusal_number (command_refusals code upper lower room) ≡ 2 ∷ 1 ∷ 2 ∷ []
  pub write-answer : (a : Answer) (room : List ℕ) → numbered refusal_number (answer_refusals a room) ≡ 1 ∷ 2 ∷ []

-- a command can be sent exactly where the writer, lent a room that holds it, writes its frame
abbrev pub SentAsWritten : Type 0
SentAsWritten = (code upper lower : ℕ) (room : List ℕ) → command_length code ≤ length room
    → (sendable code upper lower).holds ↔ (write_command code upper lower room ≡ laid (command_frame code upper lower) room)

-- where the error byte stands in an answer frame: behind the code of 44h, behind a 30h of 46h, behind four counts of 56h; of the other four behind two
-- counts, or a count and two bytes 30h
abbrev pub error_place : ℕ → ℕ
error_place code = first_of (same code 0x44 gives 4 ∷ same code 0x46 gives 5 ∷ same code 0x56 gives 12 ∷ []) 8

abbrev pub error_in : List ℕ → ℕ
error_in s = get_or s (error_place (code_of s)) 0

-- an answer that is read has the frame's error byte, and the class told beside it is that byte's
pub record ErrorTold : Type 0 where
  pub error : (s : List ℕ) (a : Answer) (class : ErrorClass) → read_answer s ≡ Found a class → answer_error a ≡ error_in s
  pub told : (s : List ℕ) (a : Answer) (class : ErrorClass) → read_answer s ≡ Found a class → class ≡ error_class (error_in s)

-- the table's columns "Command bytes" and "Answer bytes"
pub record Lengths : Type 0 where
  pub code : ℕ
  pub command : ℕ
  pub answer : ℕ

abbrev pub bytes : ℕ → ℕ → ℕ → Lengths
bytes code command answer = record { code = code; command = command; answer = answer }

abbrev pub Columns : Type 0
Columns =
    map (λ r. bytes r.code (command_length r.code) (answer_length r.code)) table
    ≡ bytes 0x44 6 7 ∷ bytes 0x45 8 14 ∷ bytes 0x46 6 10 ∷ bytes 0x55 8 14 ∷ bytes 0x56 10 21 ∷ bytes 0x76 6 14 ∷ bytes 0x77 6 14 ∷ []
