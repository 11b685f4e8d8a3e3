-- A call that closes a command puts one byte at most and hands nothing over: so how often the command was handed over is still known. Assumes nothing.
use Rattle.std.specs.Prelude.{Ok}
use Prim.Native.Nat.{ℕ, ◌+◌, ◌≤◌}
use mathlib.Core.Path.{◌≡◌, refl, sym, ◌∙◌, subst}
use mathlib.Core.Bool.{Bool, true, false, true≢false}
use mathlib.Core.List.{List}
use native.Mathlib.Omega.{arith}
use lib.ListN.{set, take}
use Rattle.refusals.specs.Rules.{under, same}
use Rattle.refusals.proofs.Rules.{pick, either_way}
use Rattle.dispenser_frame_rules.specs.Answer.{answer_code, read_answer}
use Rattle.dispenser_frame_rules.specs.AnswerRead.{AnswerRead}
use Rattle.dispenser_frame_rules.specs.AnswerRead.{Refused as NotRead}
use Rattle.exchange_rules.specs.Exchange.{first_byte, bad_frame, start_byte, inside_byte, heard_in, heard, expired_in, expired, passed}
use Rattle.exchange_rules.specs.declared.line.Phase.{Phase}
use Rattle.exchange_rules.specs.declared.line.Phase.TheVariants.{Idle, First, Start, Inside}
use Rattle.exchange_rules.specs.declared.line.Line.{Line}
use Rattle.exchange_rules.specs.declared.line.Todo.{Todo}
use Rattle.exchange_rules.specs.declared.line.Todo.TheVariants.{Nothing as Rest, HandOver, Nak, LastNak, CloseRefused, CloseUnknown}
use Rattle.exchange_rules.specs.declared.line.Turn.{Turn}
use Rattle.exchange_rules.specs.declared.line.Heard.{Heard}
use Rattle.exchange_rules.specs.declared.line.Heard.TheVariants.{Keep, Judge, Do}
use Rattle.exchange_rules.specs.declared.line.Hearing.{Hearing}
use Rattle.dispenser_rules.specs.Session.{StepAfter, ByteAfter, step_after, byte_after, refused_step, done_after, acted, bad_step, judged_step, judge_step, byte_acted, byte_refusals, tick_refusals, byte_step, tick_step}
use Rattle.dispenser_rules.specs.declared.session.Asked.{Asked}
use Rattle.dispenser_rules.specs.declared.session.Closing.{Closing}
use Rattle.dispenser_rules.specs.declared.session.Closing.TheVariants.{Nothing, Answered, Refused, Unknown}
use Rattle.dispenser_rules.specs.Reply.{Reply}
use Rattle.dispenser_rules.specs.Reply.{NotDone}

abbrev pub is_closing : Closing → Bool
is_closing Nothing = false
is_closing (Answered answer class) = true
is_closing Refused = true
is_closing Unknown = true

abbrev pub closes : Reply → Bool
closes (NotDone why) = false
closes (Ok effect) = is_closing effect.closing

abbrev pub put_by : Reply → ℕ
put_by (NotDone why) = 0
put_by (Ok effect) = effect.put

-- a step that closes puts one byte at most, and n hand-overs are still known
abbrev pub Closed : ℕ → StepAfter → Type 0
Closed n w = closes w.reply ≡ true → (put_by w.reply ≤ 1) × (w.line.handed ≡ n)

never : (n : ℕ) (w : StepAfter) → closes w.reply ≡ false → Closed n w
never n w f e = absurd (true≢false (sym e ∙ f))

-- where the exchange says what is to be done, the hand-overs are those before it, but where the frame is handed over again
abbrev Steady : ℕ → Todo → Line → Type 0
Steady n HandOver l = Unit {0}
Steady n Rest l = l.handed ≡ n
Steady n Nak l = l.handed ≡ n
Steady n LastNak l = l.handed ≡ n
Steady n CloseRefused l = l.handed ≡ n
Steady n CloseUnknown l = l.handed ≡ n

abbrev SteadyBy : ℕ → Turn → Type 0
SteadyBy n u = Steady n u.todo u.line

abbrev SteadyIn : ℕ → Heard → Line → Type 0
SteadyIn n Keep l = l.handed ≡ n
SteadyIn n Judge l = l.handed ≡ n
SteadyIn n (Do t) l = Steady n t l

abbrev SteadyAt : ℕ → Hearing → Type 0
SteadyAt n u = SteadyIn n u.heard u.line

bad-steady : (l : Line) → SteadyBy l.handed (bad_frame l)
unfolding bad_frame
bad-steady l = pick (SteadyBy l.handed) (under l.naks _) _ _ (λ h. refl) (λ n. refl)

heard-steady : (l : Line) (span b : ℕ) → SteadyAt l.handed (heard l span b)
unfolding heard first_byte start_byte inside_byte
heard-steady l span b = by l.phase
  where
    by : (p : Phase) → SteadyAt l.handed (heard_in p l span b)
    by Idle = refl
    by First =
        pick (SteadyAt l.handed) (same b 0x06) _ _ (λ h. refl)
        (λ n. pick (SteadyAt l.handed) (same b _) _ _ (λ h. pick (SteadyAt l.handed) (under l.handed _) _ _ (λ g. tt) (λ g. refl)) (λ m. refl))
    by Start = pick (SteadyAt l.handed) (same b 0x01) _ _ (λ h. refl) (λ n. refl)
    by Inside = pick (SteadyAt l.handed) (under (l.gathered + 1) span) _ _ (λ h. refl) (λ n. refl)

passed-steady : (l : Line) (ms : ℕ) → SteadyBy l.handed (passed l ms)
unfolding passed expired
passed-steady l ms = pick (SteadyBy l.handed) (under ms l.left) _ _ (λ h. refl) (λ n. by l.phase)
  where
    by : (p : Phase) → SteadyBy l.handed (expired_in p l)
    by Idle = refl
    by First = refl
    by Start = refl
    by Inside = bad-steady l

module _ (n : ℕ) (a : Asked) (r : List ℕ) where
  acted-closed : (t : Todo) (l : Line) → Steady n t l → Closed n (acted t l a r)
  acted-closed Rest l s = never n (acted Rest l a r) refl
  acted-closed HandOver l s = never n (acted HandOver l a r) refl
  acted-closed Nak l s = never n (acted Nak l a r) refl
  acted-closed LastNak l s = λ e. (omega arith, s)
  acted-closed CloseRefused l s = λ e. (omega arith, s)
  acted-closed CloseUnknown l s = λ e. (omega arith, s)

  bad-closed : (l : Line) → l.handed ≡ n → Closed n (bad_step l a r)
  unfolding bad_step
  bad-closed l e = acted-closed (bad_frame l).todo (bad_frame l).line (subst (λ (k : ℕ). SteadyBy k (bad_frame l)) e (bad-steady l))

  judged-closed : (x : AnswerRead) (l : Line) → l.handed ≡ n → Closed n (judged_step x l a r)
  judged-closed (Ok read) l e = pick (Closed n) (same (answer_code read.answer) a.code) _ _ (λ h g. (omega arith, e)) (λ m. bad-closed l e)
  judged-closed (NotRead fault) l e = bad-closed l e

  byte-closed : (h : Heard) (l : Line) (store : List ℕ) (at b : ℕ) → SteadyIn n h l → Closed n (byte_acted h l a store at b r).step
  unfolding judge_step
  byte-closed Keep l store at b s = never n (done_after l 0 Nothing r) refl
  byte-closed Judge l store at b s = judged-closed (read_answer (take a.span (set store at b))) l s
  byte-closed (Do t) l store at b s = acted-closed t l s

pub byte-step-closed : (l : Line) (a : Asked) (store : List ℕ) (b : ℕ) (r : List ℕ) → Closed l.handed (byte_step l a store b r).step
unfolding byte_step
byte-step-closed l a store b r =
    either_way (λ (w : ByteAfter). Closed l.handed w.step) (byte_refusals r) (λ why. byte_after (refused_step l why) store r) _
    (λ why. never l.handed (step_after (refused_step l why) r) refl)
    (λ n. byte-closed l.handed a r (heard l a.span b).heard (heard l a.span b).line store l.gathered b (heard-steady l a.span b))

pub tick-step-closed : (l : Line) (a : Asked) (ms : ℕ) (r : List ℕ) → Closed l.handed (tick_step l a ms r)
unfolding tick_step
tick-step-closed l a ms r =
    either_way (Closed l.handed) (tick_refusals ms r) (λ why. step_after (refused_step l why) r) _
    (λ why. never l.handed (step_after (refused_step l why) r) refl)
    (λ n. acted-closed l.handed a r (passed l ms).todo (passed l ms).line (passed-steady l ms))
