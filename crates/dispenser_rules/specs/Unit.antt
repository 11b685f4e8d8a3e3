-- The Model 2000T, as a unit of the shared session (`exchange_rules`): what is asked of its two cassettes, in which bytes, and what an answer's bytes say of them.
use Rattle.std.specs.Prelude.{ℕ, cond, List, [], eqb, take, drop, Ok}
use Rattle.error_codes.specs.declared.ErrorClass.{ErrorClass}
use Rattle.numbers.specs.Decimal.{number}
use Rattle.ledger.specs.Account.{Dispenser}
use Rattle.ledger.specs.Told.{Verdict, bad, good, Closing as PlainClosing, none, by_answer, by_refusal, by_doubt}
use Rattle.exchange_rules.specs.Machine.{Model, Box, Call as PlainCall, request as asks, byte as hears, tick as waits, clear as clears-line}
use Rattle.exchange_rules.specs.declared.notes.Sums.{Sums}
use Rattle.dispenser_frame_rules.specs.Table.{answer_length}
use Rattle.dispenser_frame_rules.specs.Command.{sendable, command_frame}
use Rattle.dispenser_frame_rules.specs.Answer.{answer_code, read_answer}
use Rattle.dispenser_frame_rules.specs.declared.answer.Cassette.{Cassette}
use Rattle.dispenser_frame_rules.specs.declared.answer.Cassette.TheVariants.{Upper, Lower}
use Rattle.dispenser_frame_rules.specs.declared.answer.Answer.{Answer}
use Rattle.dispenser_frame_rules.specs.AnswerRead.{AnswerRead}
use Rattle.dispenser_frame_rules.specs.AnswerRead.{Refused as NotRead}
use Rattle.dispenser_rules.specs.Account.{account_opened, account_answered, account_refused, account_unknown}
use Rattle.dispenser_rules.specs.Session.{hand_over, pays, command}
use Rattle.dispenser_rules.specs.Calls.{Call, request, byte, tick, clear, Request, Own, clears}
use Rattle.dispenser_rules.specs.declared.account.Account.{Account}
use Rattle.dispenser_rules.specs.declared.account.Cassettes.{Cassettes}
use Rattle.dispenser_rules.specs.declared.session.Asked.{Asked}
use Rattle.dispenser_rules.specs.declared.session.Closing.{Closing}
use Rattle.dispenser_rules.specs.declared.session.Closing.TheVariants.{Nothing, Answered, Refused, Unknown}
use Rattle.dispenser_rules.specs.declared.session.Session.{Session}

-- ---- what its bytes say

abbrev pub wanted : Request → Cassette → ℕ
wanted q Upper = q.upper
wanted q Lower = q.lower

-- the count whose two digits stand from a place of an answer on
abbrev pub two : ℕ → List ℕ → ℕ
two at f = number (take 2 (drop at f))

-- the EXIT count of a cassette, by its place: behind four bytes and two digits of CHK; for the lower one of both, four digits more
abbrev pub exit_of : ℕ → List ℕ → Cassette → ℕ
exit_of code f Upper = cond (eqb code 0x45) (two 6 f) (cond (eqb code 0x56) (two 6 f) 0)
exit_of code f Lower = cond (eqb code 0x55) (two 6 f) (cond (eqb code 0x56) (two 10 f) 0)

-- its rejects, the last two digits before 03h; from both cassettes the upper's stand before the lower's
abbrev pub rejects_of : ℕ → List ℕ → Cassette → ℕ
rejects_of code f Upper = cond (eqb code 0x45) (two 10 f) (cond (eqb code 0x56) (two 15 f) (cond (eqb code 0x76) (two 10 f) 0))
rejects_of code f Lower = cond (eqb code 0x55) (two 10 f) (cond (eqb code 0x56) (two 17 f) (cond (eqb code 0x77) (two 10 f) 0))

abbrev pub model2000_t : Dispenser Request Cassette
model2000_t =
    record {
      wants = wanted;
      span = λ q. answer_length q.code;
      exit = λ q. exit_of q.code;
      rejects = λ q. rejects_of q.code;
    }

-- the frame which the command layout gives
abbrev pub layout : Request → List ℕ
layout q = command_frame q.code q.upper q.lower

-- ---- the unit

abbrev pub sums_of : Cassettes → Cassette → Sums
sums_of a Upper = a.upper
sums_of a Lower = a.lower

-- the sums of a cassette in the account
abbrev pub cassette : Account → Cassette → Sums
cassette a c = sums_of a.cassettes c

-- a good answer, and the class of its error byte
pub record Good : Type 0 where
  pub answer : Answer
  pub class : ErrorClass

abbrev pub asked_of : Request → Asked
asked_of q = command q.code q.upper q.lower

-- "Good answer with the code asked"; any other full frame is bad
abbrev pub verdict : ℕ → AnswerRead → Verdict Good
verdict code (Ok read) = cond (eqb (answer_code read.answer) code) (good (record { answer = read.answer; class = read.class })) bad
verdict code (NotRead fault) = bad

abbrev pub unit : Model Request Good Cassettes Cassette
unit =
    record {
      sendable = λ q. sendable q.code q.upper q.lower;
      layout = layout;
      hands = λ q r. record { put = (hand_over (asked_of q) r).put; room = (hand_over (asked_of q) r).room };
      judges = λ q f. verdict q.code (read_answer f);
      more = λ q. 0;
      pays = λ q. pays q.code;
      cassette = sums_of;
      opens = λ a q. account_opened a (asked_of q);
      closes_refused = λ a q. account_refused a (asked_of q);
      closes_unknown = λ a q. account_unknown a (asked_of q);
      answers = λ a q x. account_answered a (asked_of q) x.answer;
      bytes = model2000_t;
      longest = 21;
      greatest = 99;
    }

-- ---- a session of it

abbrev pub request_of : Asked → Request
request_of a = record { code = a.code; upper = a.upper; lower = a.lower }

-- which session over the unit a session is: the kept requests are its own memory, apart
abbrev pub box : Session → Box Request Cassettes
box s = record { line = s.line; asks = request_of s.asked; account = s.account.cassettes; store = s.store }

-- which call each is, and the room that it is lent
abbrev pub means : Call → PlainCall Request Own
means (request code upper lower r) = asks (record { code = code; upper = upper; lower = lower }) r
means (byte b r) = hears b r
means (tick ms r) = waits ms r
means clear = clears-line clears

abbrev pub lent : Call → List ℕ
lent (request code upper lower r) = r
lent (byte b r) = r
lent (tick ms r) = r
lent clear = []

-- which closing each is: one by an answer carries the answer, and the class of its error byte
abbrev pub plain_closing : Closing → PlainClosing Good
plain_closing Nothing = none
plain_closing (Answered answer class) = by_answer (record { answer = answer; class = class })
plain_closing Refused = by_refusal
plain_closing Unknown = by_doubt
