-- What a call does where all goes well, one law for each phase and call: for whoever reasons about the other end of the line. Assumes nothing.
use Prim.Native.Nat.{ℕ, ◌+◌, ◌-◌, ◌≤◌, ◌<◌}
use mathlib.Core.Path.{◌≡◌, refl, sym, ap, ◌∙◌, subst}
use mathlib.Core.Bool.{true}
use mathlib.Core.List.{List, []}
use mathlib.Core.Logic.{⊎_elim}
use native.Mathlib.Omega.{arith}
use lib.ListN.{length, take, set}
use Rattle.error_codes.specs.declared.ErrorClass.{ErrorClass}
use Rattle.refusals.specs.Rules.{Rule, under, same, NoneOf}
use Rattle.refusals.proofs.Rules.{by_cases, cond-true, cond-false, holds-true, fails-false, none-judged, first_or_none}
use Rattle.dispenser_frame_rules.specs.Answer.{answer_code, read_answer}
use Rattle.dispenser_frame_rules.specs.declared.answer.Answer.{Answer}
use Rattle.dispenser_frame_rules.specs.AnswerRead.{AnswerRead}
use Rattle.dispenser_frame_rules.specs.AnswerRead.{Read}
use Rattle.exchange_rules.specs.Limits.{quiet, answer_wait, frame_wait}
use Rattle.exchange_rules.specs.Exchange.{is_open, turn, opened, closed, doubted, ends, starting, inside, waits, first_byte, start_byte, inside_byte, heard_in, heard, expired_in, expired, passed}
use Rattle.dispenser_rules.specs.Session.{pays, StepAfter, ByteAfter, OpeningAfter, After, opening_after, refused_opening, hand_over, command, request_refusals, request_step, account_asked, session_request, step_after, byte_after, refused_step, acted, judged_step, judge_step, byte_acted, byte_refusals, tick_refusals, byte_step, tick_step, account_heard, session_byte, session_tick, clear_refusals, clear_step, session_clear}
use Rattle.dispenser_rules.specs.Calls.{host}
use Rattle.ledger.specs.Account.{answered}
use Rattle.ledger.specs.Calls.{declined_after, Declines}
use Rattle.refusals.specs.declared.Declined.{Declined}
use Rattle.exchange_rules.specs.declared.line.Phase.{Phase}
use Rattle.exchange_rules.specs.declared.line.Phase.TheVariants.{Idle, First, Start, Inside}
use Rattle.exchange_rules.specs.declared.line.Line.{Line}
use Rattle.exchange_rules.specs.declared.line.Todo.TheVariants.{Nothing}
use Rattle.exchange_rules.specs.declared.line.Turn.{Turn}
use Rattle.exchange_rules.specs.declared.line.Hearing.{Hearing}
use Rattle.dispenser_rules.specs.declared.session.Closing.TheVariants.{Nothing as NoClosing, Answered}
use Rattle.dispenser_rules.specs.Reply.{Done}
use Rattle.dispenser_rules.specs.Step.{Step}
use Rattle.dispenser_rules.specs.declared.session.Session.{Session}

-- the session goes on with this line and store: nothing is put, nothing closes
abbrev pub goes : Session → Line → List ℕ → List ℕ → After
goes s l store r =
    record { session = record { line = l; asked = s.asked; account = s.account; store = store }; reply = Done 0 NoClosing; room = r }

-- the command is answered: 06h is put
abbrev pub closes : Session → Answer → ErrorClass → List ℕ → List ℕ → After
closes s answer class store r =
    record {
      session = record { line = ends (closed s.line quiet) (pays s.asked.code) answered; asked = s.asked; account = account_heard s.account s.asked s.line.handed (Done 1 (Answered answer class)); store = store };
      reply = Done 1 (Answered answer class);
      room = set r 0 0x06;
    }

-- a step of the session, with its store
abbrev left_by : Session → StepAfter → List ℕ → After
left_by s w store =
    record {
      session = record { line = w.line; asked = s.asked; account = account_heard s.account s.asked w.line.handed w.reply; store = store };
      reply = w.reply;
      room = w.room;
    }

abbrev heard-by : Session → ByteAfter → After
heard-by s w = left_by s w.step w.store

-- a command is opened, and its frame handed over
abbrev pub opens : Session → ℕ → ℕ → ℕ → List ℕ → After
opens s code upper lower r =
    record {
      session = record { line = opened s.line (s.line.accepted + 1); asked = command code upper lower; account = account_asked s.account (command code upper lower) 1 (Done (hand_over (command code upper lower) r).put NoClosing); store = s.store };
      reply = Done (hand_over (command code upper lower) r).put NoClosing;
      room = (hand_over (command code upper lower) r).room;
    }

-- ---- a call that is declined changes nothing; what holds then and where none of its rules applies, holds of it

pub either-outcome : (P : After → Type 0) (rules : List (Rule Declined)) (s : Session) (r : List ℕ) (w : After) → Declines host rules s r w
    → ((why : Declined) → P (declined_after host s r why)) → (NoneOf rules → P w) → P w
either-outcome P rules s r w d f g =
    ⊎_elim (λ h. subst P (sym (d.kept h.0 ((d.declined h.0).1 h.1))) (f h.0)) g (first_or_none rules)

-- ---- requests

pub request-opens : (s : Session) (code upper lower : ℕ) (r : List ℕ) → NoneOf (request_refusals s.line code upper lower r)
    → session_request s code upper lower r ≡ opens s code upper lower r
unfolding session_request request_step
request-opens s code upper lower r n =
    ap
    (λ (w : OpeningAfter).
    record {
      session = record { line = w.line; asked = w.asked; account = account_asked s.account w.asked w.line.handed w.reply; store = s.store };
      reply = w.reply;
      room = w.room;
    })
    (none-judged (λ why. opening_after (refused_opening s.line s.asked why) r) _ (request_refusals s.line code upper lower r) n)

-- ---- clear

pub clear-clears : (s : Session) → NoneOf (clear_refusals s.line) → session_clear s ≡ goes s (doubted s.line 0) s.store []
unfolding session_clear clear_step
clear-clears s n =
    ap
    (λ (w : Step). record { session = record { line = w.line; asked = s.asked; account = s.account; store = s.store }; reply = w.reply; room = [] })
    (none-judged (refused_step s.line) _ (clear_refusals s.line) n)

-- ---- ticks

-- a tick that is under what is left of an open command's wait takes of it, and does nothing else; nor does any with nothing open
in-time : (l : Line) (ms : ℕ) → (is_open l.phase ≡ true → ms < l.left) → (left : ℕ) × (passed l ms ≡ turn (waits l left) Nothing)
unfolding passed expired
in-time l ms h =
    by_cases (under ms l.left)
    (λ g. (l.left - ms, cond-true _ _ (holds-true (under ms l.left) g)))
    (λ n. let t = by l.phase h n in (t.0, cond-false _ _ (fails-false (under ms l.left) n) ∙ t.1))
  where
    by : (p : Phase) → (is_open p ≡ true → ms < l.left) → (ms < l.left → ⊥) → (left : ℕ) × (expired_in p l ≡ turn (waits l left) Nothing)
    by Idle h n = (0, refl)
    by First h n = absurd (n (h refl))
    by Start h n = absurd (n (h refl))
    by Inside h n = absurd (n (h refl))

pub tick-passes : (s : Session) (ms : ℕ) (r : List ℕ) → NoneOf (tick_refusals ms r) → (is_open s.line.phase ≡ true → ms < s.line.left)
    → (left : ℕ) × (session_tick s ms r ≡ goes s (waits s.line left) s.store r)
unfolding session_tick tick_step account_heard
tick-passes s ms r n h =
    let t = in-time s.line ms h in (
      t.0,
      ap (λ (w : StepAfter). left_by s w s.store) (none-judged (λ why. step_after (refused_step s.line why) r) _ (tick_refusals ms r) n)
          ∙ ap (λ (u : Turn). left_by s (acted u.todo u.line s.asked r) s.store) t.1,
    )

-- ---- bytes

module _ (s : Session) (x : ℕ) (r : List ℕ) (long : 16 ≤ length r) where
  -- a byte does what the exchange says of it, in a phase that is known
  heard-at : (p : Phase) → s.line.phase ≡ p → (t : Hearing) → heard_in p s.line s.asked.span x ≡ t
      → session_byte s x r
      ≡ heard-by s (byte_acted t.heard t.line s.asked s.store s.line.gathered x r)
  unfolding session_byte byte_step byte_refusals heard
  heard-at p e t h =
      ap (heard-by s) (none-judged (λ why. byte_after (refused_step s.line why) s.store r) _ (byte_refusals r) ((λ n. omega arith), tt))
      ∙ ap (λ (u : Hearing). heard-by s (byte_acted u.heard u.line s.asked s.store s.line.gathered x r))
      (ap (λ (p : Phase). heard_in p s.line s.asked.span x) e ∙ h)

  -- 06h, the first byte since a hand-over
  pub byte-acknowledges : s.line.phase ≡ First → x ≡ 0x06 → session_byte s x r ≡ goes s (starting s.line answer_wait s.line.naks) s.store r
  unfolding first_byte account_heard
  byte-acknowledges e g = heard-at First e _ (cond-true _ _ (holds-true (same x 0x06) g))

  -- 01h, an answer starts
  pub byte-starts : s.line.phase ≡ Start → x ≡ 0x01
      → session_byte s x r ≡ goes s (inside s.line frame_wait 1) (set s.store s.line.gathered x) r
  unfolding start_byte account_heard
  byte-starts e g = heard-at Start e _ (cond-true _ _ (holds-true (same x 0x01) g))

  -- a byte of an answer, not its last
  pub byte-gathers : s.line.phase ≡ Inside → s.line.gathered + 1 < s.asked.span
      → session_byte s x r ≡ goes s (inside s.line s.line.left (s.line.gathered + 1)) (set s.store s.line.gathered x) r
  unfolding inside_byte account_heard
  byte-gathers e g = heard-at Inside e _ (cond-true _ _ (holds-true (under (s.line.gathered + 1) s.asked.span) g))

  -- the last byte of a good answer with the code asked
  pub byte-closes : s.line.phase ≡ Inside → (s.line.gathered + 1 < s.asked.span → ⊥) → (answer : Answer) (class : ErrorClass)
      → read_answer (take s.asked.span (set s.store s.line.gathered x)) ≡ Read answer class → answer_code answer ≡ s.asked.code
      → session_byte s x r ≡ closes s answer class (set s.store s.line.gathered x) r
  unfolding inside_byte judge_step
  byte-closes e n answer class h c =
      let store = set s.store s.line.gathered x in
      heard-at Inside e _ (cond-false _ _ (fails-false (under (s.line.gathered + 1) s.asked.span) n))
      ∙ ap (λ (y : AnswerRead). left_by s (judged_step y (waits s.line s.line.left) s.asked r) store) h
      ∙ ap (λ (w : StepAfter). left_by s w store) (cond-true _ _ (holds-true (same (answer_code answer) s.asked.code) c))
