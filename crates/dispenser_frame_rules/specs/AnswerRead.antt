-- What is found, as the library's type, with the words of the rules for its cases.
use Rattle.std.specs.Prelude.{Result, Ok, Err}
use Rattle.xor_frame.specs.declared.frame.Fault.{Fault}
use Rattle.error_codes.specs.declared.ErrorClass.{ErrorClass}
use Rattle.dispenser_frame_rules.specs.declared.answer.Answer.{Answer}
use Rattle.dispenser_frame_rules.specs.declared.answer.Classed.{Classed}

abbrev pub AnswerRead : Type 0
AnswerRead = Result Classed Fault

abbrev pub Read : Answer → ErrorClass → AnswerRead
Read answer class = Ok (record { answer = answer; class = class })

pattern abbrev pub Refused : Fault → AnswerRead
Refused why = Err why
