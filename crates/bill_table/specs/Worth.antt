-- What a word says, and what so many bills are worth (02, Q-1).
use Rattle.std.specs.Prelude.{ℕ, ◌-◌, ◌*◌, ◌^◌, cond, List, [], ◌∷◌, ltb}
use Rattle.refusals.specs.Rules.{Condition, Rule, same, under, within, both, either, first_of, judged, ◌gives◌}
use Rattle.refusals.specs.declared.Refusal.{Refusal}
use Rattle.refusals.specs.declared.Refusal.TheVariants.{Range}
use Rattle.bill_table.specs.declared.Letters.{Letters}
use Rattle.bill_table.specs.declared.Word.{Word}
use Rattle.bill_table.specs.declared.Value.{Value}
use Rattle.bill_table.specs.declared.Meaning.{Meaning}
use Rattle.bill_table.specs.declared.Meaning.TheVariants.{NoBill, Unusable, Valued}
use Rattle.bill_table.specs.Total.{Total}
use Rattle.bill_table.specs.Total.{NoValue, Sum, Refused}

-- "this line has accepted 1,000,000 commands" (01, number 5), and each bill is the answer to one
abbrev pub most_bills : ℕ
most_bills = 1_000_000

-- "an all-zero word means no such bill"
abbrev pub is_absent : Word → Condition
is_absent w =
    both (same w.first 0)
    (both (same w.letters.0 0) (both (same w.letters.1 0) (both (same w.letters.2 0) (same w.last 0))))

-- "letters not A to Z .. make the word unusable"
abbrev pub is_letter : ℕ → Condition
is_letter b = within 0x41 0x5A b

-- "a last byte: top bit clear means that many zeros, top bit set means that many decimal places"; "Zeros or places above 9 .. make the word unusable"
abbrev pub is_scale : ℕ → Condition
is_scale last = either (within 0 9 last) (within 0x80 0x89 last)

abbrev pub is_usable : Word → Condition
is_usable w = both (is_letter w.letters.0) (both (is_letter w.letters.1) (both (is_letter w.letters.2) (is_scale w.last)))

abbrev pub value : ℕ → Letters → ℕ → Value
value whole letters decimals = record { whole = whole; letters = letters; decimals = decimals }

-- "count times value with its number of decimals", of a usable word
unfoldable pub worth : Word → ℕ → Value
worth w count =
    cond (ltb w.last 0x80)
    (value (count * (w.first * 10 ^ w.last)) w.letters 0)
    (value (count * w.first) w.letters (w.last - 0x80))

-- what a word says of its bill type
unfoldable pub meaning_of : Word → Meaning
meaning_of w = first_of (is_absent w gives NoBill ∷ is_usable w gives Valued (worth w 1) ∷ []) Unusable

-- what is counted is more than a session can count
abbrev pub total_refusals : ℕ → List (Rule Refusal)
total_refusals count = under most_bills count gives Range ∷ []

-- "an exact total for each type"
unfoldable pub total_of : Word → ℕ → Total
total_of w count = judged (total_refusals count) Refused (first_of (is_usable w gives Sum (worth w count) ∷ []) NoValue)
