-- Scaffolding, which nobody has to believe: contracts of inner functions cite it, and no contract of a public function and no promise does.
use Rattle.std.specs.Prelude.{ℕ, ◌≤◌, ◌<◌, ◌≡◌, Bool, true, false}
use Rattle.recording.specs.Record.{most_bytes}
use Rattle.recording.specs.declared.Fault.TheVariants.{Long}
use Rattle.recording.specs.declared.Place.{Place}
use Rattle.recording.specs.declared.Place.TheVariants.{Kind, Code, Upper, Lower, FromDispenser, Milliseconds, FromValidator, ToValidator, Broken}
use Rattle.recording.specs.declared.Reader.{Reader}
use Rattle.grading_rules.specs.Feeding.{broken_at}
use Rattle.grading_rules.specs.declared.desk.Desk.{Desk}
use Rattle.grading_rules.specs.declared.desk.Replaying.{Replaying}

-- a replay that goes on, from its parts
abbrev pub replay_on : Desk → Reader → ℕ → Replaying
replay_on d r n = record { desk = d; reader = r; fed = n }

-- is a record begun, that is, is no kind due?
abbrev pub is_begun : Place → Bool
is_begun Kind = false
is_begun Code = true
is_begun Upper = true
is_begun Lower = true
is_begun FromDispenser = true
is_begun Milliseconds = true
is_begun FromValidator = true
is_begun ToValidator = true
is_begun (Broken why) = true

-- no fault was met
abbrev pub Unbroken : Place → Type 0
Unbroken Kind = Unit {0}
Unbroken Code = Unit {0}
Unbroken Upper = Unit {0}
Unbroken Lower = Unit {0}
Unbroken FromDispenser = Unit {0}
Unbroken Milliseconds = Unit {0}
Unbroken FromValidator = Unit {0}
Unbroken ToValidator = Unit {0}
Unbroken (Broken why) = ⊥

-- what a byte past the limit leaves
abbrev pub past_in : Place → ℕ → Replaying
past_in Kind at = broken_at Long most_bytes
past_in Code at = broken_at Long most_bytes
past_in Upper at = broken_at Long most_bytes
past_in Lower at = broken_at Long most_bytes
past_in FromDispenser at = broken_at Long most_bytes
past_in Milliseconds at = broken_at Long most_bytes
past_in FromValidator at = broken_at Long most_bytes
past_in ToValidator at = broken_at Long most_bytes
past_in (Broken why) at = broken_at why at

abbrev pub past_limit : Replaying → Replaying
past_limit w = past_in w.reader.place w.reader.start

-- the lesser of two numbers
pub record Least (a b r : ℕ) : Type 0 where
  pub first : r ≤ a
  pub second : r ≤ b
  pub other : r < a → r ≡ b
