-- Where the exchange says that a command closes, the line stands as after a closing: so a unit that asks no more quiet leaves it as it is. Assumes nothing.
use Prim.Native.Nat.{ℕ, ◌+◌}
use mathlib.Core.Path.{◌≡◌, refl}
use Rattle.refusals.specs.Rules.{under, same}
use Rattle.refusals.proofs.Rules.{pick}
use Rattle.exchange_rules.specs.Limits.{quiet, long_quiet}
use Rattle.exchange_rules.specs.Exchange.{closed, first_byte, bad_frame, start_byte, inside_byte, heard_in, heard, expired_in, expired, passed}
use Rattle.exchange_rules.specs.declared.line.Phase.{Phase}
use Rattle.exchange_rules.specs.declared.line.Phase.TheVariants.{Idle, First, Start, Inside}
use Rattle.exchange_rules.specs.declared.line.Line.{Line}
use Rattle.exchange_rules.specs.declared.line.Todo.{Todo}
use Rattle.exchange_rules.specs.declared.line.Todo.TheVariants.{Nothing, HandOver, Nak, LastNak, CloseRefused, CloseUnknown}
use Rattle.exchange_rules.specs.declared.line.Turn.{Turn}
use Rattle.exchange_rules.specs.declared.line.Heard.{Heard}
use Rattle.exchange_rules.specs.declared.line.Heard.TheVariants.{Keep, Judge, Do}
use Rattle.exchange_rules.specs.declared.line.Hearing.{Hearing}

-- the line, closed where it is to be
abbrev pub rested : Todo → Line → Line
rested Nothing l = l
rested HandOver l = l
rested Nak l = l
rested LastNak l = closed l long_quiet
rested CloseRefused l = closed l quiet
rested CloseUnknown l = closed l long_quiet

abbrev pub Shut : Todo → Line → Type 0
Shut t l = rested t l ≡ l

abbrev ShutBy : Turn → Type 0
ShutBy t = Shut t.todo t.line

abbrev pub ShutIn : Heard → Line → Type 0
ShutIn Keep l = l ≡ l
ShutIn Judge l = l ≡ l
ShutIn (Do t) l = Shut t l

abbrev ShutAt : Hearing → Type 0
ShutAt t = ShutIn t.heard t.line

module _ (l : Line) where
  first-shut : (b : ℕ) → ShutAt (first_byte l b)
  unfolding first_byte
  first-shut b =
      pick ShutAt (same b 0x06) _ _ (λ h. refl)
      (λ n. pick ShutAt (same b _) _ _ (λ h. pick ShutAt (under l.handed _) _ _ (λ g. refl) (λ g. refl)) (λ m. refl))

  pub bad-shut : ShutBy (bad_frame l)
  unfolding bad_frame
  bad-shut = pick ShutBy (under l.naks _) _ _ (λ h. refl) (λ n. refl)

  pub heard-shut : (n b : ℕ) → ShutAt (heard l n b)
  unfolding heard start_byte inside_byte
  heard-shut n b = by l.phase
    where
      by : (p : Phase) → ShutAt (heard_in p l n b)
      by Idle = refl
      by First = first-shut b
      by Start = pick ShutAt (same b 0x01) _ _ (λ h. refl) (λ n. refl)
      by Inside = pick ShutAt (under (l.gathered + 1) n) _ _ (λ h. refl) (λ n. refl)

  pub passed-shut : (ms : ℕ) → ShutBy (passed l ms)
  unfolding passed expired
  passed-shut ms = pick ShutBy (under ms l.left) _ _ (λ h. refl) (λ n. by l.phase)
    where
      by : (p : Phase) → ShutBy (expired_in p l)
      by Idle = refl
      by First = refl
      by Start = refl
      by Inside = bad-shut
