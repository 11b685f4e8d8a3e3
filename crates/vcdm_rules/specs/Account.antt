-- The account of the four cassettes (02, Q-3: "The account has four cassettes for this unit").
use Rattle.std.specs.Prelude.{ℕ}
use Rattle.exchange_rules.specs.Sums.{fresh_sums, sums_opened, sums_answered, sums_refused, sums_unknown}
use Rattle.exchange_rules.specs.declared.notes.Sums.{Sums}
use Rattle.vcdm_frame_rules.specs.declared.command.Counts.{Counts}
use Rattle.vcdm_frame_rules.specs.declared.answer.Paid.{Paid}
use Rattle.vcdm_frame_rules.specs.declared.answer.Cassettes.{Cassettes}
use Rattle.vcdm_frame_rules.specs.declared.answer.Answer.{Answer}
use Rattle.vcdm_frame_rules.specs.declared.answer.Answer.TheVariants.{Reset, Status, Purged, Dispensed, Last}
use Rattle.vcdm_rules.specs.declared.account.Account.{Account}

abbrev pub account : Sums → Sums → Sums → Sums → Account
account t s d b = record { top = t; second = s; third = d; bottom = b }

abbrev pub fresh_account : Account
fresh_account = account fresh_sums fresh_sums fresh_sums fresh_sums

unfoldable pub account_opened : Account → Counts → Account
account_opened a n = account (sums_opened a.top n.top) (sums_opened a.second n.second) (sums_opened a.third n.third) (sums_opened a.bottom n.bottom)

unfoldable pub account_refused : Account → Counts → Account
account_refused a n =
    account (sums_refused a.top n.top) (sums_refused a.second n.second) (sums_refused a.third n.third) (sums_refused a.bottom n.bottom)

unfoldable pub account_unknown : Account → Counts → Account
account_unknown a n =
    account (sums_unknown a.top n.top) (sums_unknown a.second n.second) (sums_unknown a.third n.third) (sums_unknown a.bottom n.bottom)

-- "EXIT pays, REJECT stands apart"
abbrev pub paid_of : Sums → ℕ → Paid → Sums
paid_of s n p = sums_answered s n p.exit p.rejects

unfoldable pub account_paid : Account → Counts → Cassettes → Account
account_paid a n c =
    account (paid_of a.top n.top c.top) (paid_of a.second n.second c.second) (paid_of a.third n.third c.third) (paid_of a.bottom n.bottom c.bottom)

-- a dispense's answer pays; "Last status alters no sum", and no other answer does: a note that a purge lets out is in no sum
abbrev pub account_answered : Account → Counts → Answer → Account
account_answered a n (Reset e) = a
account_answered a n (Status e d0 d1 p) = a
account_answered a n (Purged e m c r) = a
account_answered a n (Dispensed e s c r) = account_paid a n c
account_answered a n (Last l e s c r) = a
