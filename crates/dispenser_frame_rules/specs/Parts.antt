-- What the functions between the public ones do, in the terms of the definitions that the public ones meet.
use Rattle.std.specs.Prelude.{ℕ, List}
use Rattle.refusals.specs.Rules.{judged}
use Rattle.xor_frame.specs.Layout.{Field, all_values}
use Rattle.xor_frame.specs.Parts.{field_faults}
use Rattle.dispenser_frame_rules.specs.Table.{command_fields}
use Rattle.dispenser_frame_rules.specs.Command.{command_in}
use Rattle.dispenser_frame_rules.specs.Answer.{read_as}
use Rattle.dispenser_frame_rules.specs.CommandRead.{CommandRead}
use Rattle.dispenser_frame_rules.specs.CommandRead.{Refused}
use Rattle.dispenser_frame_rules.specs.declared.answer.Answer.{Answer}
use Rattle.dispenser_frame_rules.specs.AnswerRead.{AnswerRead}
use Rattle.dispenser_frame_rules.specs.AnswerRead.{Refused as NotRead}

-- what is read of a frame in which the fields alone are left to test
unfoldable pub counts_read : ℕ → List ℕ → CommandRead
counts_read code s = judged (field_faults (command_fields code) s) Refused (command_in code s)

unfoldable pub fields_read : List Field → (List ℕ → Answer) → List ℕ → AnswerRead
fields_read fields make s = judged (field_faults fields s) NotRead (read_as (make (all_values fields 4 s)))
