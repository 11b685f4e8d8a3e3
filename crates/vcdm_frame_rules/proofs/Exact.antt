-- Each number is given exactly when 01 says and in its order, by the one law for every list of rules; what can be sent and asked; and the table's
-- columns. Assumes nothing.
use Prim.Native.Nat.{ℕ, ◌+◌, ◌≤◌}
use mathlib.Core.Path.{◌≡◌, refl, ◌∙◌, subst}
use mathlib.Core.Bool.{Bool, true, false}
use native.Mathlib.Omega.{arith}
use borrow.Author.Tests.{ne_eqb}
use Rattle.refusals.proofs.Rules.{exactly, certain}
use Rattle.refusals.proofs.Writing.{writes}
use Rattle.xor_frame.specs.Layout.{sizes}
use Rattle.xor_frame.specs.Frame.{length_with, code_of, faults}
use Rattle.vcdm_frame_rules.specs.Table.{known, table, code_in, line_in}
use Rattle.vcdm_frame_rules.specs.Command.{counts, counts_fit, command_fits, askable, sendable, command_frame, command_refusals, write_command, command_in, command_faults, read_command}
use Rattle.vcdm_frame_rules.specs.Answer.{answer_frame, answer_refusals, write_answer, answer_in, answer_faults, read_answer}
use Rattle.vcdm_frame_rules.specs.Promises.{ExactlyWhen, InOrder, SentAsWritten, Columns, Taken}
use Rattle.vcdm_frame_rules.specs.declared.command.Counts.{Counts}
use Rattle.vcdm_frame_rules.specs.CommandRead.{Refused}
use Rattle.vcdm_frame_rules.specs.AnswerRead.{Read as Found, Refused as NotRead}
use Rattle.vcdm_frame_rules.proofs.Codes.{asks-notes, dispense-known}

pub exactly-when : ExactlyWhen
unfolding write_command read_command command_in write_answer read_answer
exactly-when =
    record {
      write-command = λ code c serial room. writes (command_refusals code c serial room) (command_frame code c serial) room;
      read-command = λ s. exactly (command_faults s) Refused (command_in (code_of s) s) (λ x y e. cc) (λ x e. let z : ◌≡◌ {A = ℕ} 0 1 = cc in omega arith);
      write-answer = λ a room. writes (answer_refusals a room) (answer_frame a) room;
      read_answer = λ s. exactly (answer_faults s) NotRead (Found (answer_in s)) (λ x y e. cc) (λ x e. let z : ◌≡◌ {A = ℕ} 0 1 = cc in omega arith);
    }

pub in_order : InOrder
unfolding faults command_faults command_refusals answer_refusals
in_order =
    record {
      read-command = λ s. refl;
      read_answer = λ s. refl;
      write-command = λ code c serial room. refl;
      write-answer = λ a room. refl;
    }

-- what can be sent meets no refusal, and what meets none can be sent
pub sent-as-written : SentAsWritten
unfolding sendable command_refusals
sent-as-written code c serial room h =
    let w = (exactly-when.write-command code c serial room).accepted in (
      λ s. w.1 ((λ k. k s.0), ((λ k. omega (arith, h, k)), ((λ k. k s.1), tt))),
      λ e. let none = w.0 e in (certain (known code) none.0, certain (command_fits code c serial) none.1.1.0),
    )

pub columns : Columns
unfolding table code_in line_in length_with sizes
columns = refl

-- ---- what can be asked

by-sum : (c : Counts) → (counts_fit true c).holds → (c.top + c.second + c.third + c.bottom ≤ 20) × (1 ≤ c.top + c.second + c.third + c.bottom)
by-sum c h = (h.1.1.1.1.1, h.1.1.1.1.0)

by_parts : (c : Counts) → (c.top + c.second + c.third + c.bottom ≤ 20) × (1 ≤ c.top + c.second + c.third + c.bottom) → (counts_fit true c).holds
by_parts c h =
    let m = h.0 in
    (omega arith, (omega arith, (omega arith, (omega arith, (h.1, h.0)))))

none-asked : (c : Counts) → (counts_fit false c).holds → c ≡ counts 0 0 0 0
none-asked c h = λ i. record { top = h.0 i; second = h.1.0 i; third = h.1.1.0 i; bottom = h.1.1.1 i }

pub taken : Taken
unfolding askable table code_in line_in
taken =
    record {
      dispense = λ c. ((λ h. by-sum c h.1), λ h. ((known 0x52).tells.shown dispense-known, by_parts c h));
      others = λ code c n h.
          none-asked c (subst (λ (t : Bool). (counts_fit t c).holds) (asks-notes code ∙ ne_eqb code 0x52 n) h.1);
      sheet = (refl, (refl, (refl, (refl, refl))));
    }
