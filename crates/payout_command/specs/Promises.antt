-- What is promised of the command for a plan: the statements, proved in proofs/Sent.antt.
use Rattle.std.specs.Prelude.{ℕ, ◌≡◌, true, List, ◌↔◌}
use Rattle.payout.specs.Plan.{Right}
use Rattle.payout.specs.Planned.{Two}
use Rattle.dispenser_frame_rules.specs.Command.{sendable}
use Rattle.payout_command.specs.Command.{command_for}
use Rattle.payout_command.specs.Sent.{Nothing, Send}

-- the command for a plan asks for the plan's counts and is one that `is_sendable` takes; and nothing is sent exactly where the amount is 0
pub record Sent : Type 0 where
  pub counts : (a b code upper lower : ℕ) → command_for a b ≡ Send code upper lower → (upper ≡ a) × (lower ≡ b)
  pub taken : (values stocks : List ℕ) (amount a b code upper lower : ℕ) → Right values stocks amount (Two a b)
      → command_for a b ≡ Send code upper lower → (sendable code upper lower).test ≡ true
  pub nothing : (values stocks : List ℕ) (amount a b : ℕ) → Right values stocks amount (Two a b) → (command_for a b ≡ Nothing) ↔ (amount ≡ 0)
