-- Where two recordings part (02, Q-8: "after the longest run of equal whole records"), a record of each at a time.
use Rattle.std.specs.Prelude.{ℕ, zero, suc, ◌+◌, cond, List, [], ◌∷◌, length, take, drop}
use Rattle.refusals.specs.Rules.{Condition, always, never, both, same, at_most, first_of, ◌gives◌}
use Rattle.recording.specs.Taking.{found_at}
use Rattle.recording.specs.NextRecord.{NextRecord}
use Rattle.recording.specs.NextRecord.{Whole as IsWhole, Bad as IsBad}
use Rattle.parted.specs.declared.Whose.TheVariants.{Student, Reference}
use Rattle.parted.specs.Next.{Next}
use Rattle.parted.specs.Next.{Rest, Malformed}
use Rattle.parted.specs.declared.Parted.{Parted}
use Rattle.parted.specs.Due.{Due}
use Rattle.parted.specs.Due.{End, Whole, Faulty}
use Rattle.parted.specs.declared.Turn.{Turn}
use Rattle.parted.specs.declared.Turn.TheVariants.{On, Ends}

-- the same numbers, one by one
unfoldable pub equal : List ℕ → List ℕ → Condition
equal [] [] = always
equal [] (y ∷ t) = never
equal (x ∷ s) [] = never
equal (x ∷ s) (y ∷ t) = both (same x y) (equal s t)

-- ---- where a record is due

-- in one recording: its end, a record of so many bytes, or no record, and why
abbrev pub due_of : NextRecord → Due
due_of (IsWhole x n) = Whole n
due_of (IsBad why) = Faulty why

unfoldable pub due_at : List ℕ → ℕ → Due
due_at s at = first_of (at_most (length s) at gives End ∷ []) (due_of (found_at s at))

-- in the student's s a record of n bytes, and in the reference t what its last argument says: on, where that is the same record. "the student's remainder if it has one"
abbrev pub beside_record : List ℕ → List ℕ → ℕ → ℕ → Due → Turn
beside_record s t at n End = Ends (Rest Student)
beside_record s t at n (Whole m) = cond (equal (take n (drop at s)) (take m (drop at t))).test (On n) (Ends (Rest Student))
beside_record s t at n (Faulty why) = Ends (Malformed Reference why)

-- the student's has ended: "otherwise the reference's, which may be empty"
abbrev pub beside_end : Due → Turn
beside_end End = Ends (Rest Reference)
beside_end (Whole m) = Ends (Rest Reference)
beside_end (Faulty why) = Ends (Malformed Reference why)

-- "if both are, the student's is named"
abbrev pub turn_by : List ℕ → List ℕ → ℕ → Due → Turn
turn_by s t at End = beside_end (due_at t at)
turn_by s t at (Whole n) = beside_record s t at n (due_at t at)
turn_by s t at (Faulty why) = Ends (Malformed Student why)

unfoldable pub turn_at : List ℕ → List ℕ → ℕ → Turn
turn_at s t at = turn_by s t at (due_at s at)

-- ---- from there on

-- the run ends at an offset, behind n records
abbrev pub parted : ℕ → ℕ → Next → Parted
parted at n next = record { at = at; records = n; next = next }

-- what a turn leaves: the rest, from the next record's place on, or the end of the run
abbrev pub turned : Turn → ℕ → ℕ → (ℕ → Parted) → Parted
turned (On k) at n go = go k
turned (Ends next) at n go = parted at n next

-- a turn for each record, at most f: more than the student has bytes, so that they are never spent
unfoldable pub parting_in : ℕ → List ℕ → List ℕ → ℕ → ℕ → Parted
parting_in zero s t at n = parted at n (Rest Student)
parting_in (suc f) s t at n = turned (turn_at s t at) at n (λ k. parting_in f s t (at + k) (suc n))

unfoldable pub parting_from : List ℕ → List ℕ → ℕ → ℕ → Parted
parting_from s t at n = parting_in (suc (length s)) s t at n

-- the student's s beside the reference t
unfoldable pub parting_of : List ℕ → List ℕ → Parted
parting_of s t = parting_from s t 0 0
