-- A byte or a tick that closes nothing puts a frame only where the command is handed over once more. Assumes nothing.
use Rattle.std.specs.Prelude.{Ok}
use Prim.Native.Nat.{ℕ, ◌+◌}
use mathlib.Core.Path.{◌≡◌, refl, sym, subst, ◌∙◌}
use mathlib.Core.Bool.{false, not}
use mathlib.Core.List.{List}
use native.Mathlib.Omega.{arith}
use lib.Dec.{eqb}
use lib.ListN.{set, take}
use borrow.Author.Tests.{eqb-true, not-false}
use Rattle.refusals.specs.Rules.{under, same}
use Rattle.refusals.proofs.Rules.{pick, either_way}
use Rattle.dispenser_frame_rules.specs.Answer.{answer_code, read_answer}
use Rattle.dispenser_frame_rules.specs.AnswerRead.{AnswerRead}
use Rattle.dispenser_frame_rules.specs.AnswerRead.{Read, Refused as NotRead}
use Rattle.exchange_rules.specs.Exchange.{first_byte, bad_frame, start_byte, inside_byte, heard_in, heard, expired_in, expired, passed}
use Rattle.exchange_rules.specs.declared.line.Phase.{Phase}
use Rattle.exchange_rules.specs.declared.line.Phase.TheVariants.{Idle, First, Start, Inside}
use Rattle.exchange_rules.specs.declared.line.Line.{Line}
use Rattle.exchange_rules.specs.declared.line.Todo.{Todo}
use Rattle.exchange_rules.specs.declared.line.Todo.TheVariants.{Nothing as Rest, HandOver, Nak, LastNak, CloseRefused, CloseUnknown}
use Rattle.exchange_rules.specs.declared.line.Turn.{Turn}
use Rattle.exchange_rules.specs.declared.line.Heard.{Heard}
use Rattle.exchange_rules.specs.declared.line.Heard.TheVariants.{Keep, Judge, Do}
use Rattle.exchange_rules.specs.declared.line.Hearing.{Hearing}
use Rattle.dispenser_rules.specs.Session.{StepAfter, ByteAfter, step_after, byte_after, refused_step, acted, bad_step, judged_step, judge_step, byte_acted, byte_refusals, tick_refusals, byte_step, tick_step}
use Rattle.dispenser_rules.specs.declared.session.Asked.{Asked}
use Rattle.grading_step.specs.Scaffolding.{Short}

-- what is to be done hands the command over for the time behind the n-th, if at all
abbrev Next : ℕ → Todo → Line → Type 0
Next n HandOver l = l.handed ≡ n + 1
Next n Rest l = Unit {0}
Next n Nak l = Unit {0}
Next n LastNak l = Unit {0}
Next n CloseRefused l = Unit {0}
Next n CloseUnknown l = Unit {0}

abbrev NextIn : ℕ → Heard → Line → Type 0
NextIn n Keep l = Unit {0}
NextIn n Judge l = Unit {0}
NextIn n (Do t) l = Next n t l

abbrev NextAt : ℕ → Hearing → Type 0
NextAt n u = NextIn n u.heard u.line

-- nothing is handed over
abbrev Stays : Todo → Type 0
Stays HandOver = ⊥
Stays Rest = Unit {0}
Stays Nak = Unit {0}
Stays LastNak = Unit {0}
Stays CloseRefused = Unit {0}
Stays CloseUnknown = Unit {0}

abbrev StaysBy : Turn → Type 0
StaysBy u = Stays u.todo

bad-stays : (l : Line) → StaysBy (bad_frame l)
unfolding bad_frame
bad-stays l = pick StaysBy (under l.naks _) _ _ (λ h. tt) (λ n. tt)

heard-next : (l : Line) (span b : ℕ) → NextAt l.handed (heard l span b)
unfolding heard first_byte start_byte inside_byte
heard-next l span b = by l.phase
  where
    by : (p : Phase) → NextAt l.handed (heard_in p l span b)
    by Idle = tt
    by First =
        pick (NextAt l.handed) (same b 0x06) _ _ (λ h. tt)
        (λ n. pick (NextAt l.handed) (same b _) _ _ (λ h. pick (NextAt l.handed) (under l.handed _) _ _ (λ g. refl) (λ g. tt)) (λ m. tt))
    by Start = pick (NextAt l.handed) (same b 0x01) _ _ (λ h. tt) (λ n. tt)
    by Inside = pick (NextAt l.handed) (under (l.gathered + 1) span) _ _ (λ h. tt) (λ n. tt)

passed-stays : (l : Line) (ms : ℕ) → StaysBy (passed l ms)
unfolding passed expired
passed-stays l ms = pick StaysBy (under ms l.left) _ _ (λ h. tt) (λ n. by l.phase)
  where
    by : (p : Phase) → StaysBy (expired_in p l)
    by Idle = tt
    by First = tt
    by Start = tt
    by Inside = bad-stays l

-- ---- what is put

abbrev ShortStep : StepAfter → Type 0
ShortStep w = Short w.reply

-- a step from n hand-overs to as many puts no frame
abbrev ShortFrom : ℕ → StepAfter → Type 0
ShortFrom n w = w.line.handed ≡ n → ShortStep w

module _ (a : Asked) (r : List ℕ) where
  stays-short : (t : Todo) (l : Line) → Stays t → ShortStep (acted t l a r)
  stays-short HandOver l s = absurd s
  stays-short Rest l s = omega arith
  stays-short Nak l s = omega arith
  stays-short LastNak l s = tt
  stays-short CloseRefused l s = tt
  stays-short CloseUnknown l s = tt

  next-short : (n : ℕ) (t : Todo) (l : Line) → Next n t l → ShortFrom n (acted t l a r)
  next-short n HandOver l s = λ e. absurd (behind n (sym s ∙ e))
    where
      behind : (k : ℕ) → k + 1 ≡ k → ⊥
      behind k e = omega (arith, e)
  next-short n Rest l s = λ e. omega arith
  next-short n Nak l s = λ e. omega arith
  next-short n LastNak l s = λ e. tt
  next-short n CloseRefused l s = λ e. tt
  next-short n CloseUnknown l s = λ e. tt

  bad-short : (l : Line) → ShortStep (bad_step l a r)
  unfolding bad_step
  bad-short l = stays-short (bad_frame l).todo (bad_frame l).line (bad-stays l)

  judged-short : (x : AnswerRead) (l : Line) → ShortStep (judged_step x l a r)
  judged-short (Ok read) l = pick ShortStep (same (answer_code read.answer) a.code) _ _ (λ h. tt) (λ m. bad-short l)
  judged-short (NotRead fault) l = bad-short l

  byte-short : (n : ℕ) (h : Heard) (l : Line) (store : List ℕ) (at b : ℕ) → NextIn n h l → ShortFrom n (byte_acted h l a store at b r).step
  unfolding judge_step
  byte-short n Keep l store at b s = λ e. omega arith
  byte-short n Judge l store at b s = λ e. judged-short (read_answer (take a.span (set store at b))) l
  byte-short n (Do t) l store at b s = next-short n t l s

-- a byte after which the command was handed over as often as before
byte-step-short : (l : Line) (a : Asked) (store : List ℕ) (b : ℕ) (r : List ℕ) → ShortFrom l.handed (byte_step l a store b r).step
unfolding byte_step
byte-step-short l a store b r =
    either_way (λ (w : ByteAfter). ShortFrom l.handed w.step) (byte_refusals r) (λ why. byte_after (refused_step l why) store r) _
    (λ why e. tt)
    (λ n. byte-short a r l.handed (heard l a.span b).heard (heard l a.span b).line store l.gathered b (heard-next l a.span b))

-- a tick hands nothing over
tick-step-short : (l : Line) (a : Asked) (ms : ℕ) (r : List ℕ) → ShortStep (tick_step l a ms r)
unfolding tick_step
tick-step-short l a ms r =
    either_way ShortStep (tick_refusals ms r) (λ why. step_after (refused_step l why) r) _
    (λ why. tt)
    (λ n. stays-short a r (passed l ms).todo (passed l ms).line (passed-stays l ms))

-- ---- the same of a step that is known by its contract

pub byte-heard : (l : Line) (a : Asked) (store : List ℕ) (b : ℕ) (r : List ℕ) {w : ByteAfter} → w ≡ byte_step l a store b r
    → not (eqb l.handed w.step.line.handed) ≡ false → Short w.step.reply
byte-heard l a store b r {w} e f =
    subst (λ (v : ByteAfter). ShortFrom l.handed v.step) (sym e) (byte-step-short l a store b r) (sym (eqb-true _ _ (not-false _ f)))

pub tick-heard : (l : Line) (a : Asked) (ms : ℕ) (r : List ℕ) {w : StepAfter} → w ≡ tick_step l a ms r → Short w.reply
tick-heard l a ms r e = subst ShortStep (sym e) (tick-step-short l a ms r)
