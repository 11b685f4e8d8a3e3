-- Counts of notes, one for each cassette: which are allowed, what they make, and which of them are to be taken (02, Q-10). Nothing here searches: the
-- definitions range over all counts.
use Rattle.std.specs.Prelude.{ℕ, ◌+◌, ◌*◌, ◌≤◌, ◌<◌, ◌≡◌, ◌⊎◌, List, [], ◌∷◌, length}

-- how many notes they are in all
unfoldable pub total : List ℕ → ℕ
total [] = 0
total (n ∷ ns) = n + total ns

-- what they are worth, by the note value of each cassette
unfoldable pub worth : List ℕ → List ℕ → ℕ
worth [] ns = 0
worth (v ∷ vs) [] = 0
worth (v ∷ vs) (n ∷ ns) = n * v + worth vs ns

-- a count for each cassette, and none above its stock
unfoldable pub Within : List ℕ → List ℕ → Type 0
Within [] [] = Unit {0}
Within [] (n ∷ ns) = ⊥
Within (s ∷ ss) [] = ⊥
Within (s ∷ ss) (n ∷ ns) = (n ≤ s) × Within ss ns

-- none above a limit
unfoldable pub Each : ℕ → List ℕ → Type 0
Each most [] = Unit {0}
Each most (n ∷ ns) = (n ≤ most) × Each most ns

-- "Use at most 60 from each of two cassettes, or 20 in all from four"
abbrev pub Few : List ℕ → Type 0
Few ns = ((length ns ≡ 2) × Each 60 ns) ⊎ ((length ns ≡ 4) × (total ns ≤ 20))

-- allowed counts that make the amount
pub record Makes (values stocks : List ℕ) (amount : ℕ) (counts : List ℕ) : Type 0 where
  pub within : Within stocks counts
  pub few : Few counts
  pub exact : worth values counts ≡ amount

-- "the most from the first cassette, then the second, and so on": where the two first differ, ns has more
unfoldable pub MostFirst : List ℕ → List ℕ → Type 0
MostFirst [] ms = Unit {0}
MostFirst (n ∷ ns) [] = Unit {0}
MostFirst (n ∷ ns) (m ∷ ms) = (m < n) ⊎ ((n ≡ m) × MostFirst ns ms)

-- "The answer has the fewest notes; among equals the most from the first cassette": ns comes before ms, or is the same
abbrev pub Before : List ℕ → List ℕ → Type 0
Before ns ms = (total ns < total ms) ⊎ ((total ns ≡ total ms) × MostFirst ns ms)

-- of all counts with a property, ns are those that come before all others
pub record Chosen (P : List ℕ → Type 0) (ns : List ℕ) : Type 0 where
  pub has : P ns
  pub before : (ms : List ℕ) → P ms → Before ns ms

-- no counts have it
abbrev pub None : (List ℕ → Type 0) → Type 0
None P = (ms : List ℕ) → P ms → ⊥
