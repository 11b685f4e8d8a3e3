-- A record written (02, Q-8), by the numbers of every plain writer: 1, "room lent for sending is under .. the .. record's .. own length"; 2, "a writer refuses what its reader would
-- not take".
use Rattle.std.specs.Prelude.{ℕ, List, [], ◌∷◌, length}
use Rattle.refusals.specs.Rules.{Condition, Rule, under, isnt, judged, ◌gives◌}
use Rattle.refusals.specs.Put.{Written, refused, laid}
use Rattle.refusals.specs.declared.Refusal.{Refusal}
use Rattle.refusals.specs.declared.Refusal.TheVariants.{Room, Range}
use Rattle.recording.specs.Record.{kind_of, numbers_of, takes, record_bytes}
use Rattle.recording.specs.declared.Record.{Record}

-- its kind takes its values
abbrev pub is_taken : Record → Condition
is_taken x = takes (kind_of x) (numbers_of x)

-- a record has a length whatever its values are, so 1 comes first
unfoldable pub record_refusals : Record → List ℕ → List (Rule Refusal)
record_refusals x room = under (length room) (length (record_bytes x)) gives Room ∷ isnt (is_taken x) gives Range ∷ []

unfoldable pub write_record : Record → List ℕ → Written
write_record x room = judged (record_refusals x room) (λ why. refused why room) (laid (record_bytes x) room)
