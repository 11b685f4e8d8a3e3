-- What is found, as the library's type, with the words of the rules for its cases.
use Rattle.std.specs.Prelude.{ℕ, Result, Ok, Err}
use Rattle.payout.specs.declared.NoPlan.{NoPlan}
use Rattle.payout.specs.declared.Plan.{Plan as Made}
use Rattle.payout.specs.declared.Plan.TheVariants.{Two as MadeOfTwo, Four as MadeOfFour}

abbrev pub Plan : Type 0
Plan = Result Made NoPlan

pattern abbrev pub Two : ℕ → ℕ → Plan
Two first second = Ok (MadeOfTwo first second)

pattern abbrev pub Four : ℕ → ℕ → ℕ → ℕ → Plan
Four first second third fourth = Ok (MadeOfFour first second third fourth)

pattern abbrev pub Refused : NoPlan → Plan
Refused why = Err why
