-- The invariant of the two ends: for each pair of a host's phase and a device's stand, what is on its way and how the accounts compare. Assumes nothing.
use Prim.Native.Nat.{ℕ, ◌+◌}
use mathlib.Core.Path.{◌≡◌, refl, sym, subst}
use mathlib.Core.Bool.{cond}
use mathlib.Core.List.{List, [], ◌∷◌, ◌++◌, append-nil}
use mathlib.Core.Logic.{◌⊎◌}
use native.Mathlib.Omega.{arith}
use lib.Dec.{ltb}
use lib.ListN.{length, take, get_or}
use Rattle.dispenser_frame_rules.specs.Table.{command_length}
use Rattle.xor_frame.specs.Frame.{frame, closed}
use Rattle.dispenser_frame_rules.specs.Command.{command_frame}
use Rattle.dispenser_frame_rules.specs.Answer.{answer_code, answer_fits, answer_frame}
use Rattle.dispenser_frame_rules.specs.declared.answer.Answer.{Answer}
use Rattle.ledger.specs.Events.{History}
use Rattle.ledger.specs.Account.{Ending}
use Rattle.exchange_rules.specs.declared.line.Phase.{Phase}
use Rattle.exchange_rules.specs.declared.line.Phase.TheVariants.{Idle, First, Start, Inside}
use Rattle.exchange_rules.proofs.Demand3.{Kept}
use Rattle.dispenser_rules.specs.Calls.{Request, Own}
use Rattle.dispenser_rules.proofs.Shown.{lawful}
use Rattle.dispenser_rules.proofs.Same.{session}
use Rattle.dispenser_rules.specs.declared.session.Asked.{Asked}
use Rattle.pretend_rules.specs.Limits.{code_place}
use Rattle.pretend_rules.specs.Tally.{told}
use Rattle.pretend_rules.specs.Bench.{Bench, shown}
use Rattle.pretend_rules.specs.declared.wire.Stand.{Stand}
use Rattle.pretend_rules.specs.declared.wire.Stand.TheVariants.{Idle as Resting, Reading, Awaiting, Sent}
use Rattle.pretend_rules.specs.declared.tally.Tallies.{Tallies}

-- ---- what the invariant speaks of

pub record View : Type 0 where
  -- the host: the command, the bytes of an answer that it has gathered, its account, how many commands it accepted
  pub asked : Asked
  pub held : List ℕ
  pub booked : Tallies
  pub accepted : ℕ
  -- the device: the bytes of a command that it has gathered, how many, and of how many; the code in hand; its account; how many it answered 06h
  pub read : List ℕ
  pub gathered : ℕ
  pub span : ℕ
  pub code : ℕ
  pub tallied : Tallies
  pub answered : ℕ
  -- what is on its way to the device, and to the host
  pub down : List ℕ
  pub up : List ℕ

abbrev pub view : Bench → View
view b =
    record {
      asked = b.host.asked;
      held = take b.host.line.gathered b.host.store;
      booked = shown b.host.account;
      accepted = b.host.line.accepted;
      read = take b.device.wire.gathered b.device.store;
      gathered = b.device.wire.gathered;
      span = b.device.wire.span;
      code = b.device.code;
      tallied = b.device.tallies;
      answered = b.device.wire.answered;
      down = b.to_device;
      up = b.to_host;
    }

-- the frame of the host's command
abbrev pub asking : Asked → List ℕ
asking a = command_frame a.code a.upper a.lower

-- the accounts agree, every command accepted was answered 06h, and just this is on its way
pub record Settled (down up : List ℕ) (v : View) : Type 0 where
  pub agree : v.booked ≡ v.tallied
  pub even : v.answered ≡ v.accepted
  pub below : v.down ≡ down
  pub above : v.up ≡ up

-- the accounts agree, and the command is on its way, behind `lead`: these of its bytes have been read
pub record Asking (read lead : List ℕ) (v : View) : Type 0 where
  pub agree : v.booked ≡ v.tallied
  pub owed : v.answered + 1 ≡ v.accepted
  pub whole : read ++ v.down ≡ lead ++ asking v.asked
  pub above : v.up ≡ []

-- so many of a command's bytes are to be read before it is looked at, where so many have been
abbrev pub due : ℕ → ℕ → ℕ
due gathered code = cond (ltb gathered (code_place + 1)) (code_place + 1) (command_length code)

-- the answer is on its way, behind `lead`, these of its bytes having been heard; the device has booked it, and the host has yet to
pub record Answering (heard lead : List ℕ) (v : View) : Type 0 where
  pub answer : Answer
  pub suits : answer_code answer ≡ v.asked.code
  pub fits : (answer_fits answer).holds
  pub owes : told v.booked answer ≡ v.tallied
  pub even : v.answered ≡ v.accepted
  pub below : v.down ≡ []
  pub whole : heard ++ v.up ≡ lead ++ answer_frame answer

-- the nine ways in which the two ends can stand to each other
abbrev pub Joint : Phase → Stand → View → Type 0
Joint Idle Resting v = Settled [] [] v × (v.gathered ≡ 0)
Joint Idle Reading v = ⊥
Joint Idle Awaiting v = ⊥
Joint Idle Sent v = Settled (0x06 ∷ []) [] v
Joint First Resting v = Asking [] [] v × (v.gathered ≡ 0)
Joint First Reading v = Asking v.read [] v × ((length v.read ≡ v.gathered) × (v.span ≡ due v.gathered v.asked.code))
Joint First Awaiting v = Settled [] (0x06 ∷ []) v × (v.code ≡ v.asked.code)
Joint First Sent v = Answering [] (0x06 ∷ []) v ⊎ Asking [] (0x06 ∷ []) v
Joint Start Resting v = ⊥
Joint Start Reading v = ⊥
Joint Start Awaiting v = Settled [] [] v × (v.code ≡ v.asked.code)
Joint Start Sent v = Answering [] [] v
Joint Inside Resting v = ⊥
Joint Inside Reading v = ⊥
Joint Inside Awaiting v = ⊥
Joint Inside Sent v = Answering v.held [] v

abbrev pub JointOf : Bench → Type 0
JointOf b = Joint b.host.line.phase b.device.wire.stand (view b)

-- the host is as calls lead it from a fresh one, with their history; and so the two ends stand to each other
pub record Together (b : Bench) : Type 0 where
  pub trail : History Request Own Ending
  pub kept : Kept lawful session b.host trail
  pub store : length b.device.store ≡ 10
  pub joint : JointOf b

-- ---- small facts

-- the same, with these bytes on their way
abbrev pub carrying : View → List ℕ → List ℕ → View
carrying v down up =
    record {
      asked = v.asked;
      held = v.held;
      booked = v.booked;
      accepted = v.accepted;
      read = v.read;
      gathered = v.gathered;
      span = v.span;
      code = v.code;
      tallied = v.tallied;
      answered = v.answered;
      down = down;
      up = up;
    }

-- nothing more on its way
pub none-down : (p : Phase) (q : Stand) (v : View) → Joint p q v → Joint p q (carrying v (v.down ++ []) v.up)
none-down p q v j = subst (λ (l : List ℕ). Joint p q (carrying v l v.up)) (sym (append-nil v.down)) j

pub none-up : (p : Phase) (q : Stand) (v : View) → Joint p q v → Joint p q (carrying v v.down (v.up ++ []))
none-up p q v j = subst (λ (l : List ℕ). Joint p q (carrying v v.down l)) (sym (append-nil v.up)) j

pub none_left : (l : List ℕ) → length l ≡ 0 → l ≡ []
none_left [] e = refl
none_left (x ∷ l) e = absurd (omega arith)

-- the opening byte of each frame, and a command's code
pub command-opens : (code upper lower : ℕ) → get_or (command_frame code upper lower) 0 0 ≡ 0x04
unfolding command_frame frame closed
command-opens code upper lower = refl

pub command-says : (code upper lower : ℕ) → get_or (command_frame code upper lower) code_place 0 ≡ code
unfolding command_frame frame closed
command-says code upper lower = refl

pub answer-opens : (a : Answer) → get_or (answer_frame a) 0 0 ≡ 0x01
unfolding answer_frame frame closed
answer-opens a = refl
