-- The account of a cassette (01, "The account").
use Rattle.std.specs.Prelude.{ℕ, ◌+◌, ◌-◌, cond, leb}
use Rattle.exchange_rules.specs.declared.notes.Notes.{Notes}
use Rattle.exchange_rules.specs.declared.notes.Sums.{Sums}

abbrev pub notes : ℕ → Notes
notes n = record { 0 = n }

-- so many notes more; a sum past the end of u32, which no session from a fresh one comes near, stays where it is
unfoldable pub plus : Notes → ℕ → Notes
plus a n = cond (leb (a.0 + n) 4_294_967_295) (notes (a.0 + n)) a

-- the sums of a cassette, in the order of the report: asked, paid, short, over, refused, unknown, open, rejected
abbrev pub sums : Notes → Notes → Notes → Notes → Notes → Notes → Notes → Notes → Sums
sums asked paid short over refused unknown pending rejected =
    record {
      asked = asked;
      paid = paid;
      short = short;
      over = over;
      refused = refused;
      unknown = unknown;
      pending = pending;
      rejected = rejected;
    }

-- "A fresh session has zero sums"
abbrev pub fresh_sums : Sums
fresh_sums = sums (notes 0) (notes 0) (notes 0) (notes 0) (notes 0) (notes 0) (notes 0) (notes 0)

-- "asked q when accepted"; "open q until closed"
unfoldable pub sums_opened : Sums → ℕ → Sums
sums_opened a q = sums (plus a.asked q) a.paid a.short a.over a.refused a.unknown (notes q) a.rejected

-- "when answered, paid e, short q−e if e is below q, over e−q if e is above" (a difference that would be negative is 0); "Rejects add from
-- every good paying or test answer"
unfoldable pub sums_answered : Sums → ℕ → ℕ → ℕ → Sums
sums_answered a q e r =
    sums a.asked (plus a.paid e) (plus a.short (q - e)) (plus a.over (e - q)) a.refused a.unknown (notes 0) (plus a.rejected r)

-- "when refused, refused q"
unfoldable pub sums_refused : Sums → ℕ → Sums
sums_refused a q = sums a.asked a.paid a.short a.over (plus a.refused q) a.unknown (notes 0) a.rejected

-- "when closed unknown, unknown q"
unfoldable pub sums_unknown : Sums → ℕ → Sums
sums_unknown a q = sums a.asked a.paid a.short a.over a.refused (plus a.unknown q) (notes 0) a.rejected

-- rejects alone, from a test
unfoldable pub sums_rejected : Sums → ℕ → Sums
sums_rejected a r = sums a.asked a.paid a.short a.over a.refused a.unknown a.pending (plus a.rejected r)
