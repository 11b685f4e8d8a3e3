-- What is promised of where two recordings part. Proved in proofs/Exact.antt, proofs/Omitted.antt and proofs/Windows.antt.
use Rattle.std.specs.Prelude.{ℕ, ◌+◌, ◌≤◌, ◌<◌, ◌≡◌, List, ◌++◌, ◌↔◌, length, take, drop, Err}
use Rattle.numbers.specs.Promises.{AllBytes}
use Rattle.recording.specs.Record.{record_bytes, InRange, laid, AllInRange}
use Rattle.recording.specs.Promises.{Faulty}
use Rattle.recording.specs.declared.Fault.{Fault}
use Rattle.recording.specs.declared.Record.{Record}
use Rattle.parted.specs.declared.Whose.{Whose}
use Rattle.parted.specs.declared.Whose.TheVariants.{Student, Reference}
use Rattle.parted.specs.Next.{Next}
use Rattle.parted.specs.Next.{Rest}
use Rattle.parted.specs.declared.Parted.{Parted}
use Rattle.parted.specs.Parting.{parted, parting_of}

-- both begin with the same n whole records, which end at an offset
pub record Run (s t : List ℕ) (at n : ℕ) : Type 0 where
  pub good : List Record
  pub fit : AllInRange good
  pub count : n ≡ length good
  pub place : at ≡ length (laid good)
  pub student : s ≡ laid good ++ drop at s
  pub reference : t ≡ laid good ++ drop at t

-- a record that a recording can hold stands at the start of these bytes
pub record Starts (x : Record) (s : List ℕ) : Type 0 where
  pub fit : InRange x
  pub rest : List ℕ
  pub are : s ≡ record_bytes x ++ rest

-- these bytes show no fault in their first record; so they have one, or are none
abbrev pub Sound : List ℕ → Type 0
Sound s = (why : Fault) → Faulty why s → ⊥

-- a fault is named where it shows in that recording's next record; in the reference's, where the student's shows none
abbrev pub FaultShows : List ℕ → List ℕ → Fault → Whose → Type 0
FaultShows s t why Student = Faulty why s
FaultShows s t why Reference = Sound s × Faulty why t

-- what follows the run, where s and t are what is left of the two. The next record of each is judged, "if both are, the student's is named"; then the student's goes on, and
-- the reference does not go on with the same record; or the student's has ended
abbrev pub Follows : List ℕ → List ℕ → Next → Type 0
Follows s t (Err x) = FaultShows s t x.why x.whose
Follows s t (Rest Student) = (0 < length s) × Sound s × Sound t × ((x : Record) → Starts x s → Starts x t → ⊥)
Follows s t (Rest Reference) = (length s ≡ 0) × Sound t

-- the run is the longest, and what follows it is so: both ways, of any two recordings
abbrev pub ExactlyWhen : Type 0
ExactlyWhen = (s t : List ℕ) → AllBytes s → AllBytes t → (p : Parted)
    → (parting_of s t ≡ p) ↔ (Run s t p.at p.records × Follows (drop p.at s) (drop p.at t) p.next)

-- two equal recordings of n records hand back the reference's empty rest; and where that is handed back, the two are equal, and are n records
pub record Equal (s t : List ℕ) (n : ℕ) : Type 0 where
  pub good : List Record
  pub fit : AllInRange good
  pub count : n ≡ length good
  pub student : s ≡ laid good
  pub reference : t ≡ laid good

abbrev pub EqualRecordings : Type 0
EqualRecordings = (s t : List ℕ) (n : ℕ) → AllBytes s → AllBytes t → (parting_of s t ≡ parted (length t) n (Rest Reference)) ↔ Equal s t n

-- the same, further on by so many bytes and records
abbrev pub shifted : ℕ → ℕ → Parted → Parted
shifted k n p = parted (k + p.at) (n + p.records) p.next

-- leaving out equal whole records from both shifts place and count, and changes nothing else
abbrev pub LeavingOut : Type 0
LeavingOut = (xs : List Record) (s t : List ℕ) → AllInRange xs → AllBytes (laid xs ++ s) → AllBytes (laid xs ++ t)
    → parting_of (laid xs ++ s) (laid xs ++ t) ≡ shifted (length (laid xs)) (length xs) (parting_of s t)

-- the most bytes of a record: its kind, and three numbers of five groups
abbrev pub most_of_record : ℕ
most_of_record = 16

-- so much of two recordings shows how they begin: where no equal record stands at their start, what is said of the first k bytes of each is said of the whole.
-- The end of those k bytes is no 22 unless the recording ends there
abbrev pub Window : Type 0
Window = (k : ℕ) (s t : List ℕ) → most_of_record ≤ k → AllBytes s → AllBytes t
    → (parting_of (take k s) (take k t)).at ≡ 0 → parting_of s t ≡ parting_of (take k s) (take k t)
