-- The sums of the two cassettes (01, "The account").
use Rattle.std.specs.Prelude.{ℕ}
use Rattle.exchange_rules.specs.Sums.{fresh_sums, sums_opened, sums_answered, sums_refused, sums_unknown, sums_rejected}
use Rattle.dispenser_frame_rules.specs.declared.answer.Cassette.{Cassette}
use Rattle.dispenser_frame_rules.specs.declared.answer.Cassette.TheVariants.{Upper, Lower}
use Rattle.dispenser_frame_rules.specs.declared.answer.Answer.{Answer}
use Rattle.dispenser_frame_rules.specs.declared.answer.Answer.TheVariants.{Purged, PaidOne, PaidBoth, Tested, Status}
use Rattle.exchange_rules.specs.declared.notes.Sums.{Sums}
use Rattle.dispenser_rules.specs.declared.account.Cassettes.{Cassettes}
use Rattle.dispenser_rules.specs.declared.session.Asked.{Asked}

abbrev pub cassettes : Sums → Sums → Cassettes
cassettes u l = record { upper = u; lower = l }

abbrev pub fresh_cassettes : Cassettes
fresh_cassettes = cassettes fresh_sums fresh_sums

unfoldable pub account_opened : Cassettes → Asked → Cassettes
account_opened a c = cassettes (sums_opened a.upper c.upper) (sums_opened a.lower c.lower)

unfoldable pub account_refused : Cassettes → Asked → Cassettes
account_refused a c = cassettes (sums_refused a.upper c.upper) (sums_refused a.lower c.lower)

unfoldable pub account_unknown : Cassettes → Asked → Cassettes
account_unknown a c = cassettes (sums_unknown a.upper c.upper) (sums_unknown a.lower c.lower)

abbrev pub account_paid : Cassettes → Asked → Cassette → ℕ → ℕ → Cassettes
account_paid a c Upper e r = cassettes (sums_answered a.upper c.upper e r) a.lower
account_paid a c Lower e r = cassettes a.upper (sums_answered a.lower c.lower e r)

abbrev pub account_tested : Cassettes → Cassette → ℕ → Cassettes
account_tested a Upper r = cassettes (sums_rejected a.upper r) a.lower
account_tested a Lower r = cassettes a.upper (sums_rejected a.lower r)

-- "Status, purge and test commands .. leave no notes in the account but rejects"; "An error byte never alters the sums"
abbrev pub account_answered : Cassettes → Asked → Answer → Cassettes
account_answered a c (Purged e) = a
account_answered a c (PaidOne k chk exit e s r) = account_paid a c k exit r
account_answered a c (PaidBoth uc ux lc lx e us ls ur lr) =
    cassettes (sums_answered a.upper c.upper ux ur) (sums_answered a.lower c.lower lx lr)
account_answered a c (Tested k chk e s r) = account_tested a k r
account_answered a c (Status e s0 s1) = a
