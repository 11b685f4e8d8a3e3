-- The command that counts become: "A two-cassette plan becomes command 45h, 55h or 56h by which counts are not zero" (02, Q-10).
use Rattle.std.specs.Prelude.{ℕ, [], ◌∷◌}
use Rattle.refusals.specs.Rules.{same, both, first_of, ◌gives◌}
use Rattle.dispenser_frame_rules.specs.Table.{pay_upper_code, pay_lower_code, pay_both_code}
use Rattle.payout_command.specs.Sent.{Command}
use Rattle.payout_command.specs.Sent.{Nothing, Send}

-- "Amount 0 is all zeros and is not sent"; the rules in order, the first that applies
unfoldable pub command_for : ℕ → ℕ → Command
command_for upper lower =
    first_of
    (both (same lower 0) (same upper 0) gives Nothing
    ∷ same lower 0 gives Send pay_upper_code upper lower
    ∷ same upper 0 gives Send pay_lower_code upper lower
    ∷ [])
    (Send pay_both_code upper lower)
