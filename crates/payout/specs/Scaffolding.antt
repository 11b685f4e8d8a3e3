-- What the contracts of inner functions cite: the search, and how a plan is made of what it finds. Nothing here has to be believed.
use Rattle.std.specs.Prelude.{ℕ, ◌+◌, ◌≤◌, ◌≡◌, cond, List, [], ◌∷◌, ltb, leb, eqb, take}
use Rattle.payout.specs.Counts.{total, worth, Within, Each, Chosen, None}
use Rattle.payout.specs.declared.NoPlan.TheVariants.{NoPayout}
use Rattle.payout.specs.Planned.{Plan}
use Rattle.payout.specs.Planned.{Two, Four, Refused}
use Rattle.payout.specs.declared.Counts.{Counts}
use Rattle.payout.specs.Found.{Found}
use Rattle.payout.specs.Found.{Nothing, Best}

-- counts that do a job: none above its stock nor above `each`, at most `room` in all, and they make the amount
pub record Job (values stocks : List ℕ) (each room amount : ℕ) (counts : List ℕ) : Type 0 where
  pub within : Within stocks counts
  pub limit : Each each counts
  pub few : total counts ≤ room
  pub exact : worth values counts ≡ amount

-- the counts of the first k cassettes
abbrev pub held : ℕ → Counts → List ℕ
held k c = take k (c.first ∷ c.second ∷ c.third ∷ c.fourth ∷ [])

-- what is found is the first of the counts with a property; nothing where there is none
unfoldable pub Answer : (List ℕ → Type 0) → ℕ → Found → Type 0
Answer P k Nothing = None P
Answer P k (Best c) = Chosen P (held k c) × (c.notes ≡ total (held k c))

abbrev pub lesser : ℕ → ℕ → ℕ
lesser a b = cond (ltb a b) a b

-- n of the first cassette, and behind it the rest's counts
abbrev pub with : ℕ → Counts → Counts
with n c = record { notes = n + c.notes; first = n; second = c.first; third = c.second; fourth = c.third }

-- what was found before, or n and the rest's counts where these have no more notes
unfoldable pub better : Found → ℕ → Found → Found
better old n Nothing = old
better Nothing n (Best c) = Best (with n c)
better (Best o) n (Best c) = cond (leb (n + c.notes) o.notes) (Best (with n c)) (Best o)

abbrev pub notes_of : Found → ℕ
notes_of Nothing = 0
notes_of (Best c) = c.notes

-- what was found, as the plan for k cassettes
abbrev pub taken_from : ℕ → Counts → Plan
taken_from k c = cond (eqb k 2) (Two c.first c.second) (Four c.first c.second c.third c.fourth)

abbrev pub plan_of : ℕ → Found → Plan
plan_of k Nothing = Refused NoPayout
plan_of k (Best c) = taken_from k c
