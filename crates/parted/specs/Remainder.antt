-- What is handed back: "It must be a part of that caller's own bytes, with its place" (02, Q-8).
use Rattle.std.specs.Prelude.{ℕ, ◌-◌, List, length, Err}
use Rattle.std.specs.Borrow.{Bor}
use Rattle.ccnet_frame.specs.Part.{Part}
use Rattle.parted.specs.declared.Whose.TheVariants.{Student, Reference}
use Rattle.parted.specs.Next.{Next}
use Rattle.parted.specs.Next.{Rest}
use Rattle.parted.specs.Parting.{parting_of}

-- r is the remainder of s or t from an offset on, by what follows there: "the student's remainder if it has one, otherwise the reference's". Where one is malformed,
-- nothing, at the student's start
abbrev pub IsHandedBack : Next → ℕ → Bor (List ℕ) → Bor (List ℕ) → Bor (List ℕ) → Type 0
IsHandedBack (Rest Student) at s t r = Part s at (length s.now - at) r
IsHandedBack (Rest Reference) at s t r = Part t at (length t.now - at) r
IsHandedBack (Err x) at s t r = Part s 0 0 r

abbrev pub Remains : Bor (List ℕ) → Bor (List ℕ) → Bor (List ℕ) → Type 0
Remains s t r = IsHandedBack (parting_of s.now t.now).next (parting_of s.now t.now).at s t r
