-- Each number is given exactly when 01 says and in its order, by the one law for every list of rules; what can be sent; and the table's
-- columns. Assumes nothing.
use Prim.Native.Nat.{ℕ}
use mathlib.Core.List.{List, [], ◌∷◌}
use mathlib.Core.Path.{◌≡◌, refl}
use native.Mathlib.Omega.{arith}
use Rattle.refusals.proofs.Rules.{exactly, certain}
use Rattle.refusals.proofs.Writing.{writes}
use Rattle.xor_frame.specs.Layout.{sizes}
use Rattle.dispenser_frame_rules.specs.Table.{known, table, code_in, line_in}
use Rattle.xor_frame.specs.Frame.{length_with, code_of, faults}
use Rattle.dispenser_frame_rules.specs.Command.{counts_fit, sendable, command_frame, command_refusals, write_command, command_in, command_faults, read_command}
use Rattle.dispenser_frame_rules.specs.Answer.{answer_frame, answer_refusals, write_answer, read_as, answer_in, answer_faults, read_answer}
use Rattle.dispenser_frame_rules.specs.Promises.{ExactlyWhen, InOrder, SentAsWritten, Columns}
use Rattle.dispenser_frame_rules.specs.CommandRead.{Refused}
use Rattle.dispenser_frame_rules.specs.AnswerRead.{Refused as NotRead}
use Rattle.dispenser_frame_rules.proofs.Codes.{command-longest}

pub exactly-when : ExactlyWhen
unfolding write_command read_command command_in write_answer read_answer
exactly-when =
    record {
      write-command = λ code upper lower room. writes (command_refusals code upper lower room) (command_frame code upper lower) room;
      read-command = λ s. exactly (command_faults s) Refused (command_in (code_of s) s) (λ x y e. cc) (λ x e. let z : ◌≡◌ {A = ℕ} 0 1 = cc in omega arith);
      write-answer = λ a room. writes (answer_refusals a room) (answer_frame a) room;
      read_answer = λ s. exactly (answer_faults s) NotRead (read_as (answer_in s)) (λ x y e. cc) (λ x e. let z : ◌≡◌ {A = ℕ} 0 1 = cc in omega arith);
    }

pub in_order : InOrder
unfolding faults command_refusals answer_refusals
in_order =
    record {
      read-command = λ s. refl;
      read_answer = λ s. refl;
      write-command = λ code upper lower room. refl;
      write-answer = λ a room. refl;
    }

-- what can be sent meets no refusal, and what meets none can be sent
pub sent-as-written : SentAsWritten
unfolding sendable command_refusals
sent-as-written code u l room h =
    let w = (exactly-when.write-command code u l room).accepted in (
      λ s. w.1 ((λ k. k (search s)), ((λ k. omega (arith, h, k)), ((λ k. k (search s)), tt))),
      λ e. let none = w.0 e in (certain (known code) none.0, certain (counts_fit code u l) none.1.1.0),
    )

-- room for any command
abbrev ten : List ℕ
ten = 0 ∷ 0 ∷ 0 ∷ 0 ∷ 0 ∷ 0 ∷ 0 ∷ 0 ∷ 0 ∷ 0 ∷ []

-- so what can be sent has a code of the table, and counts that fit
pub sent-fits : (code u l : ℕ) → (sendable code u l).holds → (known code).holds × (counts_fit code u l).holds
unfolding command_refusals
sent-fits code u l h =
    let w = (sent-as-written code u l ten (command-longest code)).0 h in
    let none = (exactly-when.write-command code u l ten).accepted.0 w in
    (certain (known code) none.0, certain (counts_fit code u l) none.1.1.0)

pub columns : Columns
unfolding table code_in line_in length_with sizes
columns = refl
