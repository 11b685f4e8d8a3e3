-- What is promised of the calls and of the answers of the four-cassette unit (02, Q-3). Proved in proofs/Exact.antt and proofs/Judged.antt.
use Rattle.std.specs.Prelude.{ℕ, ◌≤◌, ◌≡◌, List, ◌↔◌, get_or}
use Rattle.refusals.specs.Rules.{NoneOf}
use Rattle.xor_frame.specs.Frame.{code_of}
use Rattle.ledger.specs.Account.{answered, refused, unknown}
use Rattle.ledger.specs.Calls.{Declines}
use Rattle.ledger.specs.Told.{bad, good, void}
use Rattle.exchange_rules.specs.Machine.{quiet_after}
use Rattle.vcdm_frame_rules.specs.Answer.{answer_faults}
use Rattle.vcdm_frame_rules.specs.declared.command.Counts.{Counts}
use Rattle.vcdm_frame_rules.specs.declared.answer.Answer.{Answer}
use Rattle.vcdm_rules.specs.Session.{following, byte_refusals, tick_refusals, request_refusals}
use Rattle.vcdm_rules.specs.Calls.{Request, request, byte, tick, Counted, called_counted, host}
use Rattle.vcdm_rules.specs.Unit.{unit}
use Rattle.vcdm_rules.specs.declared.account.Account.{Account}

-- each number exactly when its condition is the first that holds, whatever the session
pub record ExactlyWhen : Type 0 where
  pub request : (x : Counted) (code : ℕ) (n : Counts) (r : List ℕ)
      → Declines host (request_refusals x.session.line code n r) x r (called_counted x (request code n r))
  pub byte : (x : Counted) (b : ℕ) (r : List ℕ) → Declines host (byte_refusals r) x r (called_counted x (byte b r))
  pub tick : (x : Counted) (ms : ℕ) (r : List ℕ) → Declines host (tick_refusals ms r) x r (called_counted x (tick ms r))

-- a full frame says that the serial of a command was repeated: it passes every test, answers a dispense, has the command's serial, and the error byte 3Dh
pub record Repeats (q : Request) (f : List ℕ) : Type 0 where
  pub none : NoneOf (answer_faults f)
  pub asked : code_of f ≡ q.code
  pub dispense : q.code ≡ 0x52
  pub serial : get_or f 5 0 ≡ q.serial
  pub error : get_or f 4 0 ≡ 0x3D

pub record Judged : Type 0 where
  -- exactly such a frame is acknowledged and closes the command as refused
  pub repeated : (q : Request) (f : List ℕ) → (unit.judges q f ≡ void) ↔ Repeats q f
  -- "An answer with another serial is bad"
  pub another_serial : (q : Request) (f : List ℕ) → q.code ≡ 0x52 → (get_or f 5 0 ≡ q.serial → ⊥) → unit.judges q f ≡ bad
  -- an answer with another code is bad
  pub another_code : (q : Request) (f : List ℕ) → (code_of f ≡ q.code → ⊥) → unit.judges q f ≡ bad

-- "Last status alters no sum", nor does a purge, a reset or a status: whatever a good answer to another code than 52h says
abbrev pub AltersNone : Type 0
AltersNone = (a : Account) (q : Request) (f : List ℕ) (x : Answer) → (q.code ≡ 0x52 → ⊥) → unit.judges q f ≡ good x → unit.answers a q x ≡ a

-- "The serial byte runs 21h to 7Fh and then begins again at 21h"
pub record Runs : Type 0 where
  pub first : following 0x21 ≡ 0x22
  pub again : following 0x7F ≡ 0x21
  pub within : (s : ℕ) → (0x21 ≤ s) × (s ≤ 0x7F) → (0x21 ≤ following s) × (following s ≤ 0x7F)

-- "Reset leaves the line unready for 2,000 ms more quiet": the quiet that a closing asks, after a reset and after any other command
pub record Quiets : Type 0 where
  pub reset : (q : Request) → q.code ≡ 0x44
      → (quiet_after unit q answered ≡ 7_200) × ((quiet_after unit q refused ≡ 7_200) × (quiet_after unit q unknown ≡ 97_200))
  pub others : (q : Request) → (q.code ≡ 0x44 → ⊥)
      → (quiet_after unit q answered ≡ 5_200) × ((quiet_after unit q refused ≡ 5_200) × (quiet_after unit q unknown ≡ 95_200))
