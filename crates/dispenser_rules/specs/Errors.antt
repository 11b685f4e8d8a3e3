-- The last error of each cassette (02, Q-5: "from paying and test answers, \"none\" before any. For a pay-both answer the same name stands on both"): after what each
-- call answered, and told from a history.
use Rattle.std.specs.Prelude.{ℕ, ◌≡◌, Bool, cond, ◌||◌, List, [], ◌∷◌, eqb, Ok}
use Rattle.ledger.specs.Account.{Fate, waiting, answered_by, turned_down, in_doubt, Command, commands}
use Rattle.error_codes.specs.Errors.{error_class}
use Rattle.error_codes.specs.declared.ErrorClass.{ErrorClass}
use Rattle.dispenser_frame_rules.specs.Table.{pay_upper_code, pay_lower_code, pay_both_code, test_upper_code, test_lower_code}
use Rattle.dispenser_frame_rules.specs.Promises.{error_in}
use Rattle.dispenser_frame_rules.specs.declared.answer.Cassette.{Cassette}
use Rattle.dispenser_frame_rules.specs.declared.answer.Cassette.TheVariants.{Upper, Lower}
use Rattle.dispenser_frame_rules.specs.declared.answer.Answer.{Answer}
use Rattle.dispenser_frame_rules.specs.declared.answer.Answer.TheVariants.{Purged, PaidOne, PaidBoth, Tested, Status}
use Rattle.dispenser_rules.specs.Session.{fresh_session}
use Rattle.dispenser_rules.specs.Calls.{Call, called, Request, history}
use Rattle.dispenser_rules.specs.Unit.{model2000_t}
use Rattle.dispenser_rules.specs.LastError.{LastError}
use Rattle.dispenser_rules.specs.LastError.{NoneYet, Of}
use Rattle.dispenser_rules.specs.declared.errors.LastErrors.{LastErrors}
use Rattle.dispenser_rules.specs.declared.session.Closing.{Closing}
use Rattle.dispenser_rules.specs.declared.session.Closing.TheVariants.{Nothing, Answered, Refused, Unknown}
use Rattle.dispenser_rules.specs.Reply.{Reply}
use Rattle.dispenser_rules.specs.Reply.{NotDone}
use Rattle.dispenser_rules.specs.declared.session.Session.{Session}

-- ---- after what a call answered

unfoldable pub no_errors : LastErrors
no_errors = record { upper = NoneYet; lower = NoneYet }

abbrev pub last_of : LastErrors → Cassette → LastError
last_of e Upper = e.upper
last_of e Lower = e.lower

-- an answer that speaks of one cassette
abbrev pub erred_one : LastErrors → Cassette → ErrorClass → LastErrors
erred_one e Upper class = record { upper = Of class; lower = e.lower }
erred_one e Lower class = record { upper = e.upper; lower = Of class }

-- paying and test answers; purge and status leave it
abbrev pub erred_by_answer : LastErrors → Answer → ErrorClass → LastErrors
erred_by_answer e (Purged b) class = e
erred_by_answer e (PaidOne k c x b s r) class = erred_one e k class
erred_by_answer e (PaidBoth uc ux lc lx b us ls ur lr) class = record { upper = Of class; lower = Of class }
erred_by_answer e (Tested k c b s r) class = erred_one e k class
erred_by_answer e (Status b s0 s1) class = e

abbrev pub erred_by_closing : LastErrors → Closing → LastErrors
erred_by_closing e Nothing = e
erred_by_closing e (Answered answer class) = erred_by_answer e answer class
erred_by_closing e Refused = e
erred_by_closing e Unknown = e

abbrev pub erred_by : LastErrors → Reply → LastErrors
erred_by e (NotDone why) = e
erred_by e (Ok effect) = erred_by_closing e effect.closing

-- after calls
unfoldable pub errors_from : Session → LastErrors → List Call → LastErrors
errors_from s e [] = e
errors_from s e (c ∷ cs) = errors_from (called s c).session (erred_by e (called s c).reply) cs

-- ---- told from a history

-- the cassettes that a paying or test answer with that code speaks of
abbrev pub tells : ℕ → Cassette → Bool
tells code Upper = eqb code pay_upper_code || (eqb code pay_both_code || eqb code test_upper_code)
tells code Lower = eqb code pay_lower_code || (eqb code pay_both_code || eqb code test_lower_code)

-- a command answered by the bytes f tells the class of their error byte, by its place
abbrev pub told_by : Fate → ℕ → Cassette → LastError → LastError
told_by waiting code c older = older
told_by (answered_by f) code c older = cond (tells code c) (Of (error_class (error_in f))) older
told_by turned_down code c older = older
told_by in_doubt code c older = older

-- of commands, the newest first
unfoldable pub last_error_in : List (Command Request) → Cassette → LastError
last_error_in [] c = NoneYet
last_error_in (k ∷ ks) c = told_by k.fate k.asks.code c (last_error_in ks c)

-- ---- the promise, proved in proofs/LastErrors.antt: what each call answered tells what the bytes of the history say

abbrev pub ErrorsByHistory : Type 0
ErrorsByHistory = (cs : List Call) (c : Cassette) → last_of (errors_from fresh_session no_errors cs) c ≡ last_error_in (commands model2000_t (history cs)) c
