-- A session and a reply as a program in C holds them, in numbers alone; and what a call leaves there.
use Rattle.std.specs.Prelude.{ℕ, ◌≡◌, cond, List, eqb, Ok}
use Rattle.refusals.specs.Numbers.{declined_number}
use Rattle.exchange_rules.specs.declared.line.Phase.{Phase}
use Rattle.exchange_rules.specs.declared.line.Phase.TheVariants.{Idle, First, Start, Inside}
use Rattle.exchange_rules.specs.declared.notes.Sums.{Sums}
use Rattle.exchange_rules.specs.Sums.{notes}
use Rattle.dispenser_frame_rules.specs.declared.answer.Answer.{Answer}
use Rattle.dispenser_frame_rules.specs.declared.answer.Answer.TheVariants.{Purged, PaidOne, PaidBoth, Tested, Status}
use Rattle.dispenser_rules.specs.Session.{After}
use Rattle.dispenser_rules.specs.declared.session.Closing.{Closing}
use Rattle.dispenser_rules.specs.declared.session.Closing.TheVariants.{Nothing, Answered, Refused, Unknown}
use Rattle.dispenser_rules.specs.Reply.{Reply}
use Rattle.dispenser_rules.specs.Reply.{NotDone, Done}
use Rattle.dispenser_rules.specs.Requests.{fresh_requests}
use Rattle.dispenser_rules.specs.declared.session.Session.{Session}
use Rattle.dispenser_rules.specs.Outcome.{Outcome}
use Rattle.dispenser_link.specs.declared.held.Held.{Held}
use Rattle.dispenser_link.specs.declared.held.HeldSums.{HeldSums}
use Rattle.dispenser_link.specs.declared.held.HeldReply.{HeldReply}
use Rattle.dispenser_link.specs.declared.held.HeldOutcome.{HeldOutcome}

-- ---- the session

abbrev pub phase_number : Phase → ℕ
phase_number Idle = 0
phase_number First = 1
phase_number Start = 2
phase_number Inside = 3

-- any other number, which no call leaves, is taken for an idle line
unfoldable pub phase_of : ℕ → Phase
phase_of n = cond (eqb n 1) First (cond (eqb n 2) Start (cond (eqb n 3) Inside Idle))

abbrev pub held_sums : Sums → HeldSums
held_sums s =
    record {
      asked = s.asked.0;
      paid = s.paid.0;
      short = s.short.0;
      over = s.over.0;
      refused = s.refused.0;
      unknown = s.unknown.0;
      pending = s.pending.0;
      rejected = s.rejected.0;
    }

abbrev pub sums_of : HeldSums → Sums
sums_of h =
    record {
      asked = notes h.asked;
      paid = notes h.paid;
      short = notes h.short;
      over = notes h.over;
      refused = notes h.refused;
      unknown = notes h.unknown;
      pending = notes h.pending;
      rejected = notes h.rejected;
    }

-- a session as it is held; the kept requests are left out, since no call needs them
unfoldable pub held : Session → Held
held s =
    record {
      left = s.line.left;
      quiet = s.line.quiet;
      accepted = s.line.accepted;
      handed = s.line.handed;
      naks = s.line.naks;
      gathered = s.line.gathered;
      doubts = s.line.doubts;
      phase = phase_number s.line.phase;
      asked = record { code = s.asked.code; upper = s.asked.upper; lower = s.asked.lower; span = s.asked.span };
      upper = held_sums s.account.cassettes.upper;
      lower = held_sums s.account.cassettes.lower;
      store = s.store;
    }

-- the session that is held, with no request kept
unfoldable pub session_of : Held → Session
session_of h =
    record {
      line =
          record {
            left = h.left;
            quiet = h.quiet;
            accepted = h.accepted;
            handed = h.handed;
            naks = h.naks;
            gathered = h.gathered;
            doubts = h.doubts;
            phase = phase_of h.phase;
          };
      asked = record { code = h.asked.code; upper = h.asked.upper; lower = h.asked.lower; span = h.asked.span };
      account = record { cassettes = record { upper = sums_of h.upper; lower = sums_of h.lower }; requests = fresh_requests };
      store = h.store;
    }

-- ---- the reply

-- the error byte of an answer
abbrev pub error_of : Answer → ℕ
error_of (Purged error) = error
error_of (PaidOne cassette chk exit error state rejects) = error
error_of (PaidBoth chk exit lower_chk lower_exit error state lower_state rejects lower_rejects) = error
error_of (Tested cassette chk error state rejects) = error
error_of (Status error sensor0 sensor1) = error

abbrev pub reply : ℕ → ℕ → ℕ → ℕ → HeldReply
reply put declined closing error = record { put = put; declined = declined; closing = closing; error = error }

-- 1 for answered, 2 for refused, 3 for unknown
abbrev pub closed : ℕ → Closing → HeldReply
closed n Nothing = reply n 0 0 0
closed n (Answered answer class) = reply n 0 1 (error_of answer)
closed n Refused = reply n 0 2 0
closed n Unknown = reply n 0 3 0

abbrev pub told : Reply → HeldReply
told (NotDone why) = reply 0 (declined_number why) 0 0
told (Ok effect) = closed effect.put effect.closing

-- ---- what a call leaves

abbrev pub leaves : Outcome → HeldOutcome
leaves o = record { session = held o.session; reply = told o.reply }

pub record HeldAfter : Type 0 where
  pub session : Held
  pub reply : HeldReply
  pub room : List ℕ

-- what the call by value leaves, held
abbrev pub leaves_after : After → HeldAfter
leaves_after w = record { session = held w.session; reply = told w.reply; room = w.room }

-- the session that is held, the reply and every byte of the room are those of w
abbrev pub IsHeldAfter : HeldOutcome → List ℕ → After → Type 0
IsHeldAfter o r w = ◌≡◌ {A = HeldAfter} (record { session = o.session; reply = o.reply; room = r }) (leaves_after w)
