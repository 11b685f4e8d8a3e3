-- What is promised of CCNET frames: the statements, proved in proofs/Trips.antt and proofs/Exact.antt.
use Rattle.std.specs.Prelude.{ℕ, ◌≤◌, ◌≡◌, List, [], ◌∷◌, length, get_or, take}
use Rattle.refusals.specs.Rules.{Exactly, numbered}
use Rattle.refusals.specs.Numbers.{refusal_number}
use Rattle.refusals.specs.Put.{written, refused, laid}
use Rattle.numbers.specs.Promises.{AllBytes}
use Rattle.refusals.specs.Put.{Bytes}
use Rattle.ccnet_frame.specs.Frame.{fault_number, frame, frame_refusals, write_frame, faults, judge_frame, body_of}
use Rattle.ccnet_frame.specs.declared.Fault.{Fault}
use Rattle.ccnet_frame.specs.Judged.{Good, Refused}

-- reading undoes writing, for every address and every body: what was put is good, with its address and its body. And whatever is good,
-- written again with its address and its body, is the same bytes. A command's body is its code and data
pub record FrameTrips : Type 0 where
  pub good : (address : ℕ) (body room after : List ℕ) (n : ℕ) → write_frame address body room ≡ written (Bytes n) after
      → judge_frame (take n after) ≡ Good address
  pub back : (address : ℕ) (body room after : List ℕ) (n : ℕ) → write_frame address body room ≡ written (Bytes n) after
      → body_of (take n after) ≡ body
  pub again : (s room : List ℕ) (address : ℕ) → AllBytes s → judge_frame s ≡ Good address → length s ≤ length room
      → write_frame address (body_of s) room ≡ laid s room

-- a good body is never empty, and a refused one always is: an empty part means refused
pub record BodyTells : Type 0 where
  pub good : (s : List ℕ) (address : ℕ) → judge_frame s ≡ Good address → (body_of s ≡ [] → ⊥)
  pub empty : (s : List ℕ) (fault : Fault) → judge_frame s ≡ Refused fault → body_of s ≡ []

-- "Given exactly when": each number exactly when its condition is the first that holds, in 01's order
pub record ExactlyWhen : Type 0 where
  pub write : (address : ℕ) (body room : List ℕ)
      → Exactly (frame_refusals address body room) (λ why. refused why room) (laid (frame address body) room) (write_frame address body room)
  pub read : (s : List ℕ) → Exactly (faults s) Refused (Good (get_or s 1 0)) (judge_frame s)

-- 01's numbers in its order: of the reader "under 6 bytes, 11; 02h and address, 12; length byte against the bytes given, 11; 15"; of a
-- writer 2, 1, 2
pub record InOrder : Type 0 where
  pub read : (s : List ℕ) → numbered fault_number (faults s) ≡ 11 ∷ 12 ∷ 11 ∷ 15 ∷ []
  pub write : (address : ℕ) (body room : List ℕ) → numbered refusal_number (frame_refusals address body room) ≡ 2 ∷ 1 ∷ 2 ∷ []
