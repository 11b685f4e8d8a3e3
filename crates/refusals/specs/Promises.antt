-- What is promised of every plain writer of bytes of which nothing is asked. Proved in proofs/Writing.antt.
use Rattle.std.specs.Prelude.{ℕ, ◌≤◌, ◌<◌, ◌≡◌, ◌↔◌, List, length}
use Rattle.refusals.specs.Numbers.{refusal_number}
use Rattle.refusals.specs.Put.{refused, laid, writing}
use Rattle.refusals.specs.declared.Refusal.TheVariants.{Room}

-- "Given exactly when", of every plain writer of bytes of which nothing is asked: 1 exactly where the room is under their own length, and
-- laid exactly where it is not
pub record WritingExactly : Type 0 where
  pub short : (bytes room : List ℕ) → (writing bytes room ≡ refused Room room) ↔ (length room < length bytes)
  pub long : (bytes room : List ℕ) → (writing bytes room ≡ laid bytes room) ↔ (length bytes ≤ length room)
  pub number : refusal_number Room ≡ 1
