-- What is promised of recordings: each record read is what its bytes say, a record may be taken at once, and each of 21 to 24 is given exactly
-- when 01 and 02 say, and a fault stays. Proved in proofs/Back.antt, proofs/Exact.antt and proofs/Faults.antt.
use Rattle.std.specs.Prelude.{ℕ, ◌+◌, ◌≤◌, ◌<◌, ◌≡◌, List, ◌∷◌, ◌++◌, ◌↔◌, length, take, drop}
use Rattle.numbers.specs.Promises.{AllBytes}
use Rattle.numbers.specs.Seven.{read_groups}
use Rattle.numbers.specs.Sevens.{Bad as NoNumber, Cut as NoEnd}
use Rattle.recording.specs.Record.{most_bytes, is_kind, how_many, takes, AllBelow, laid_numbers, record_bytes, InRange, laid, AllInRange}
use Rattle.recording.specs.Reading.{records, bad, fresh_reader, ended, taken_byte, reader_after, also, reading_from, read_recording}
use Rattle.recording.specs.Taking.{found_at}
use Rattle.recording.specs.declared.Fault.{Fault}
use Rattle.recording.specs.declared.Fault.TheVariants.{BadNumber, Cut, Unknown, Long}
use Rattle.recording.specs.declared.Record.{Record}
use Rattle.recording.specs.declared.Reader.{Reader}
use Rattle.recording.specs.Outcome.{Bad as ByteBad}
use Rattle.recording.specs.Verdict.{Bad as NotGood}
use Rattle.recording.specs.NextRecord.{Whole, Bad}

-- why no record stands at the start of these bytes: an unknown kind; its numbers ns, and not the values that its kind takes; fewer numbers than
-- it has, and then bytes that are no number, or an end before the last group of one
pub data Faulty : Fault → List ℕ → Type 0 where
  kind : (k : ℕ) (t : List ℕ) → ((is_kind k).holds → ⊥) → Faulty Unknown (k ∷ t)
  value : (k : ℕ) (ns t : List ℕ) → (is_kind k).holds → length ns ≡ how_many k → AllBelow ns → ((takes k ns).holds → ⊥) → Faulty Unknown (k ∷ laid_numbers ns ++ t)
  number : (k : ℕ) (ns t : List ℕ) → (is_kind k).holds → length ns < how_many k → AllBelow ns → read_groups t ≡ NoNumber → Faulty BadNumber (k ∷ laid_numbers ns ++ t)
  cut : (k : ℕ) (ns t : List ℕ) → (is_kind k).holds → length ns < how_many k → AllBelow ns → read_groups t ≡ NoEnd → Faulty Cut (k ∷ laid_numbers ns ++ t)

-- good records, and behind them, at an offset, one that is none
pub record Breaks (why : Fault) (at : ℕ) (s : List ℕ) : Type 0 where
  pub good : List Record
  pub rest : List ℕ
  pub fit : AllInRange good
  pub are : s ≡ laid good ++ rest
  pub place : at ≡ length (laid good)
  pub fault : Faulty why rest

-- every record that a recording can hold is read from its bytes, whatever follows, and the reader is then between records again
abbrev pub ReadsBack : Type 0
ReadsBack = (x : Record) → InRange x → (at : ℕ) (t : List ℕ)
    → reading_from fresh_reader at (record_bytes x ++ t) ≡ also x (reading_from fresh_reader (at + length (record_bytes x)) t)

-- what is found where a record is due, in a recording of bytes: a record exactly where its bytes stand there, and it is in range; why there is none exactly
-- where that is so
pub record TakenAtOnce : Type 0 where
  pub whole : (s : List ℕ) (at : ℕ) → AllBytes s → at < length s → (x : Record) (n : ℕ)
      → (found_at s at ≡ Whole x n) ↔ (InRange x × (n ≡ length (record_bytes x)) × (drop at s ≡ record_bytes x ++ drop (at + n) s))
  pub faulty : (s : List ℕ) (at : ℕ) → AllBytes s → at < length s → (why : Fault) → (found_at s at ≡ Bad why) ↔ Faulty why (drop at s)

-- the faults that a byte shows as soon as it comes: 21 and 23. 22 shows at the end
pub data AtOnce : Fault → Type 0 where
  bad-number : AtOnce BadNumber
  unknown : AtOnce Unknown

-- "an earlier 21 or 23": one that the bytes before the limit show
abbrev pub Earlier : List ℕ → Type 0
Earlier s = (why : Fault) × ((at : ℕ) × (AtOnce why × Breaks why at (take most_bytes s)))

-- a recording is good exactly where it is the bytes of records, and its records are those; 21 and 23 exactly where, of the bytes before the limit, the first record that
-- is none shows that fault, with its offset; 22 exactly where it ends inside a record, and not past the limit; 24 exactly where it is over 4,294,967,295 bytes and shows
-- no earlier 21 or 23, at the offset of the first byte past the limit
pub record ExactlyWhen : Type 0 where
  pub good : (s : List ℕ) (xs : List Record) → AllBytes s → (read_recording s ≡ records xs) ↔ ((length s ≤ most_bytes) × AllInRange xs × (s ≡ laid xs))
  pub broken : (s : List ℕ) (why : Fault) (at : ℕ) → AllBytes s → AtOnce why → (read_recording s ≡ bad why at) ↔ Breaks why at (take most_bytes s)
  pub cut : (s : List ℕ) (at : ℕ) → AllBytes s → (read_recording s ≡ bad Cut at) ↔ ((length s ≤ most_bytes) × Breaks Cut at s)
  pub long : (s : List ℕ) (at : ℕ) → AllBytes s → (read_recording s ≡ bad Long at) ↔ ((most_bytes < length s) × (at ≡ most_bytes) × (Earlier s → ⊥))

-- a reader at a fault: whatever bytes follow, wherever they stand, change nothing; each says that fault, and so does the end
pub record Stays (why : Fault) (at : ℕ) (r : Reader) : Type 0 where
  pub unchanged : (p : ℕ) (s : List ℕ) → reader_after r p s ≡ r
  pub byte : (p b : ℕ) → (taken_byte r p b).outcome ≡ ByteBad why at
  pub end : ended r ≡ NotGood why at

-- "After a fault further pieces change nothing" (02, Q-7): of any reader
abbrev pub FaultStays : Type 0
FaultStays = (r : Reader) (p b : ℕ) (why : Fault) (at : ℕ) → (taken_byte r p b).outcome ≡ ByteBad why at → Stays why at (taken_byte r p b).reader
