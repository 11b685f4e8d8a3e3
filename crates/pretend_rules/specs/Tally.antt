-- "Its own account is of notes the caller said were paid or rejected, for each cassette." (02, Q-14)
use Rattle.std.specs.Prelude.{ℕ}
use Rattle.dispenser_frame_rules.specs.declared.answer.Cassette.{Cassette}
use Rattle.dispenser_frame_rules.specs.declared.answer.Cassette.TheVariants.{Upper, Lower}
use Rattle.dispenser_frame_rules.specs.declared.answer.Answer.{Answer}
use Rattle.dispenser_frame_rules.specs.declared.answer.Answer.TheVariants.{Purged, PaidOne, PaidBoth, Tested, Status}
use Rattle.exchange_rules.specs.Sums.{notes, plus}
use Rattle.exchange_rules.specs.declared.notes.Notes.{Notes}
use Rattle.pretend_rules.specs.declared.tally.Tally.{Tally}
use Rattle.pretend_rules.specs.declared.tally.Tallies.{Tallies}

abbrev pub tally : Notes → Notes → Tally
tally paid rejected = record { paid = paid; rejected = rejected }

abbrev pub tallies : Tally → Tally → Tallies
tallies u l = record { upper = u; lower = l }

abbrev pub fresh_tallies : Tallies
fresh_tallies = tallies (tally (notes 0) (notes 0)) (tally (notes 0) (notes 0))

-- e notes more paid, r more rejected
unfoldable pub more : Tally → ℕ → ℕ → Tally
more t e r = tally (plus t.paid e) (plus t.rejected r)

-- r notes more rejected
unfoldable pub rejected_more : Tally → ℕ → Tally
rejected_more t r = tally t.paid (plus t.rejected r)

abbrev pub paid_more : Tallies → Cassette → ℕ → ℕ → Tallies
paid_more t Upper e r = tallies (more t.upper e r) t.lower
paid_more t Lower e r = tallies t.upper (more t.lower e r)

abbrev pub tested_more : Tallies → Cassette → ℕ → Tallies
tested_more t Upper r = tallies (rejected_more t.upper r) t.lower
tested_more t Lower r = tallies t.upper (rejected_more t.lower r)

-- the caller tells an answer's fields: the EXIT count was paid, the rejects were rejected; purge and status leave all as it was
abbrev pub told : Tallies → Answer → Tallies
told t (Purged e) = t
told t (PaidOne k chk exit e s r) = paid_more t k exit r
told t (PaidBoth uc ux lc lx e us ls ur lr) = tallies (more t.upper ux ur) (more t.lower lx lr)
told t (Tested k chk e s r) = tested_more t k r
told t (Status e s0 s1) = t
