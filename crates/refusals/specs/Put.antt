-- What a plain writer does (01, "Numbers a call can answer"): it lays its bytes at the start of the lent room, or refuses and changes
-- nothing.
use Rattle.std.specs.Prelude.{ℕ, Result, Ok, Err, List, [], ◌∷◌, ◌++◌, length, drop}
use Rattle.refusals.specs.Rules.{Rule, under, judged, ◌gives◌}
use Rattle.refusals.specs.declared.Refusal.{Refusal}
use Rattle.refusals.specs.declared.Refusal.TheVariants.{Room}

-- how many bytes a writer put, or why it put none
abbrev pub Put : Type 0
Put = Result ℕ Refusal

pattern abbrev pub Bytes : ℕ → Put
Bytes n = Ok n

pattern abbrev pub Refused : Refusal → Put
Refused why = Err why

-- what a writer answers, with the room as it leaves it
pub record Written : Type 0 where
  pub answer : Put
  pub room : List ℕ

abbrev pub written : Put → List ℕ → Written
written p r = record { answer = p; room = r }

-- refused: every byte of the room keeps its value
abbrev pub refused : Refusal → List ℕ → Written
refused why room = written (Refused why) room

-- the bytes laid at the room's start: every byte past their end keeps its value
unfoldable pub over : List ℕ → List ℕ → List ℕ
over bytes room = bytes ++ drop (length bytes) room

abbrev pub laid : List ℕ → List ℕ → Written
laid bytes room = written (Bytes (length bytes)) (over bytes room)

-- bytes of which nothing is asked: 1 where the room is under their own length
abbrev pub writing_refusals : List ℕ → List ℕ → List (Rule Refusal)
writing_refusals bytes room = under (length room) (length bytes) gives Room ∷ []

unfoldable pub writing : List ℕ → List ℕ → Written
writing bytes room = judged (writing_refusals bytes room) (λ why. refused why room) (laid bytes room)
