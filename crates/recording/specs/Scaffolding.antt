-- Scaffolding, which nobody has to believe: contracts of inner functions cite it, and no contract of a public function and no promise does.
use Rattle.std.specs.Prelude.{ℕ, ◌≡◌}
use Rattle.recording.specs.Reading.{kind_byte}
use Rattle.recording.specs.declared.Place.{Place}
use Rattle.recording.specs.declared.Place.TheVariants.{Lower}
use Rattle.recording.specs.declared.Reader.{Reader}
use Rattle.recording.specs.NextRecord.{NextRecord}
use Rattle.recording.specs.Glance.{Glance}
use Rattle.recording.specs.Glance.{Sure, Longer}

-- what the bytes behind a kind belong to
abbrev pub place_of : ℕ → Place
place_of k = (kind_byte 0 k).reader.place

-- a request whose record starts at an offset, and whose last number is due
abbrev pub last_due : ℕ → ℕ → ℕ → Reader
last_due at code upper = record { start = at; acc = 0; weight = 1; code = code; upper = upper; place = Lower }

-- a glance tells what is found, or nothing. How often it tells is a matter of speed, and nothing rests on it
abbrev pub IsSure : Glance → NextRecord → Type 0
IsSure (Sure x) y = x ≡ y
IsSure Longer y = Unit {0}
