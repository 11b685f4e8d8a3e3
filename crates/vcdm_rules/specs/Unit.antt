-- The four-cassette unit, as a unit of the shared session (`exchange_rules`): what is asked of its cassettes, in which bytes, what an answer is to a command, and what its
-- bytes say of each cassette (02, Q-3).
use Rattle.std.specs.Prelude.{ℕ, ◌-◌, Bool, true, false, List, get_or}
use Rattle.ledger.specs.Account.{Dispenser}
use Rattle.ledger.specs.Told.{Verdict, bad, good, void, Closing as PlainClosing, none, by_answer, by_refusal, by_doubt}
use Rattle.exchange_rules.specs.Machine.{Model, Box, Call as PlainCall, request as asks, byte as hears, tick as waits}
use Rattle.exchange_rules.specs.declared.notes.Sums.{Sums}
use Rattle.vcdm_frame_rules.specs.Table.{answer_length}
use Rattle.vcdm_frame_rules.specs.Command.{sendable, command_frame}
use Rattle.vcdm_frame_rules.specs.Answer.{read_answer}
use Rattle.vcdm_frame_rules.specs.declared.command.Counts.{Counts}
use Rattle.vcdm_frame_rules.specs.declared.answer.Answer.{Answer}
use Rattle.vcdm_frame_rules.specs.AnswerRead.{AnswerRead}
use Rattle.vcdm_frame_rules.specs.AnswerRead.{Read, Refused as NotRead}
use Rattle.vcdm_rules.specs.Account.{account_opened, account_answered, account_refused, account_unknown}
use Rattle.vcdm_rules.specs.Session.{hand_over, pays, serial_for, more_quiet, finding, command}
use Rattle.vcdm_rules.specs.Calls.{Call, request, byte, tick, Request, Own, Counted}
use Rattle.vcdm_rules.specs.declared.account.Account.{Account}
use Rattle.vcdm_rules.specs.declared.session.Asked.{Asked}
use Rattle.vcdm_rules.specs.declared.session.Finding.{Finding}
use Rattle.vcdm_rules.specs.declared.session.Finding.TheVariants.{Bad, Good, Void}
use Rattle.vcdm_rules.specs.declared.session.Closing.{Closing}
use Rattle.vcdm_rules.specs.declared.session.Closing.TheVariants.{Nothing, Answered, Refused, Unknown}

-- the cassettes, in 000's words
pub data Cassette : Type 0 where
  top : Cassette
  second : Cassette
  third : Cassette
  bottom : Cassette

abbrev pub count_of : Counts → Cassette → ℕ
count_of n top = n.top
count_of n second = n.second
count_of n third = n.third
count_of n bottom = n.bottom

abbrev pub cassette : Account → Cassette → Sums
cassette a top = a.top
cassette a second = a.second
cassette a third = a.third
cassette a bottom = a.bottom

-- ---- what its bytes say

-- the EXIT count of a cassette in an answer to a dispense, by its place: the value of its byte less 20h
abbrev pub exit_of : Bool → List ℕ → Cassette → ℕ
exit_of false f c = 0
exit_of true f top = get_or f 6 0 - 0x20
exit_of true f second = get_or f 9 0 - 0x20
exit_of true f third = get_or f 12 0 - 0x20
exit_of true f bottom = get_or f 15 0 - 0x20

-- and its rejects
abbrev pub rejects_of : Bool → List ℕ → Cassette → ℕ
rejects_of false f c = 0
rejects_of true f top = get_or f 7 0 - 0x20
rejects_of true f second = get_or f 10 0 - 0x20
rejects_of true f third = get_or f 13 0 - 0x20
rejects_of true f bottom = get_or f 16 0 - 0x20

-- only a dispense's answer says anything of a cassette's sums
abbrev pub vcdm : Dispenser Request Cassette
vcdm =
    record {
      wants = λ q. count_of q.counts;
      span = λ q. answer_length q.code;
      exit = λ q. exit_of (pays q.code);
      rejects = λ q. rejects_of (pays q.code);
    }

-- the frame which the command layout gives
abbrev pub layout : Request → List ℕ
layout q = command_frame q.code q.counts q.serial

-- ---- the unit

abbrev pub asked_of : Request → Asked
asked_of q = command q.code q.counts q.serial

-- what an answer is found to be, as every unit has it
abbrev pub plain_finding : Finding → Answer → Verdict Answer
plain_finding Bad answer = bad
plain_finding Good answer = good answer
plain_finding Void answer = void

abbrev pub verdict : Request → AnswerRead → Verdict Answer
verdict q (Read answer) = plain_finding (finding q.code q.serial answer) answer
verdict q (NotRead fault) = bad

-- no command of it counts towards a stop: number 7 is of the bench's recordings, and this unit has no clear
abbrev pub unit : Model Request Answer Account Cassette
unit =
    record {
      sendable = λ q. sendable q.code q.counts q.serial;
      layout = layout;
      hands = λ q r. record { put = (hand_over (asked_of q) r).put; room = (hand_over (asked_of q) r).room };
      judges = λ q f. verdict q (read_answer f);
      more = λ q. more_quiet q.code;
      pays = λ q. false;
      cassette = cassette;
      opens = λ a q. account_opened a q.counts;
      closes_refused = λ a q. account_refused a q.counts;
      closes_unknown = λ a q. account_unknown a q.counts;
      answers = λ a q x. account_answered a q.counts x;
      bytes = vcdm;
      longest = 30;
      greatest = 223;
    }

-- ---- a session of it

abbrev pub request_of : Asked → Request
request_of a = record { code = a.code; counts = a.counts; serial = a.serial }

-- which session over the unit a session is, its own serial apart
abbrev pub box : Counted → Box Request Account
box x = record { line = x.session.line; asks = request_of x.session.asked; account = x.session.account; store = x.session.store }

-- which call each is, s being the serial that the next dispense takes, and the room that it is lent
abbrev pub means : ℕ → Call → PlainCall Request Own
means s (request code n r) = asks (record { code = code; counts = n; serial = serial_for code s }) r
means s (byte b r) = hears b r
means s (tick ms r) = waits ms r

abbrev pub lent : Call → List ℕ
lent (request code n r) = r
lent (byte b r) = r
lent (tick ms r) = r

-- which closing each is
abbrev pub plain_closing : Closing → PlainClosing Answer
plain_closing Nothing = none
plain_closing (Answered answer) = by_answer answer
plain_closing Refused = by_refusal
plain_closing Unknown = by_doubt
