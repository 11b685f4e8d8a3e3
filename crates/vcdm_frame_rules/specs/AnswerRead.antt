-- What is found, as the library's type, with the words of the rules for its cases.
use Rattle.std.specs.Prelude.{Result, Ok, Err}
use Rattle.xor_frame.specs.declared.frame.Fault.{Fault}
use Rattle.vcdm_frame_rules.specs.declared.answer.Answer.{Answer}

abbrev pub AnswerRead : Type 0
AnswerRead = Result Answer Fault

pattern abbrev pub Read : Answer → AnswerRead
Read answer = Ok answer

pattern abbrev pub Refused : Fault → AnswerRead
Refused why = Err why
