-- What is promised of the writer. Proved in proofs/Trips.antt.
use Rattle.std.specs.Prelude.{ℕ, ◌+◌, ◌≤◌, ◌≡◌, List, [], ◌∷◌, ◌++◌, length, take, drop}
use Rattle.refusals.specs.Rules.{Exactly, numbered}
use Rattle.refusals.specs.Numbers.{refusal_number}
use Rattle.refusals.specs.Put.{Written, written, refused, laid as laid_over}
use Rattle.refusals.specs.Put.{Put}
use Rattle.refusals.specs.Put.{Bytes, Refused}
use Rattle.numbers.specs.Promises.{AllBytes}
use Rattle.recording.specs.Record.{numbers_of, AllBelow, record_bytes}
use Rattle.recording.specs.Reading.{records, fresh_reader, also, reading_from, read_recording}
use Rattle.recording.specs.Taking.{found_at}
use Rattle.recording.specs.declared.Record.{Record}
use Rattle.recording.specs.NextRecord.{Whole}
use Rattle.record_writer.specs.Writing.{record_refusals, write_record}

-- "reading what it wrote gives the same records": its n bytes are read as that record, whatever follows them, and so is the room. Every number of a record that code can give
-- is below 4,294,967,296
pub record ReadsSame : Type 0 where
  pub back : (x : Record) (room after : List ℕ) (n : ℕ) → AllBelow (numbers_of x) → write_record x room ≡ written (Bytes n) after → (at : ℕ) (t : List ℕ)
      → reading_from fresh_reader at (take n after ++ t) ≡ also x (reading_from fresh_reader (at + n) t)
  pub found : (x : Record) (room after : List ℕ) (n : ℕ) → AllBelow (numbers_of x) → AllBytes after → write_record x room ≡ written (Bytes n) after
      → found_at after 0 ≡ Whole x n

-- n bytes were put, and then what more was; or a later one was refused
abbrev pub put_more : ℕ → Put → Put
put_more n (Bytes m) = Bytes (n + m)
put_more n (Refused why) = Refused why

-- behind what was put, in what it leaves of the room
abbrev pub behind : Put → List ℕ → (List ℕ → Written) → Written
behind (Bytes n) after go = written (put_more n (go (drop n after)).answer) (take n after ++ (go (drop n after)).room)
behind (Refused why) after go = refused why after

-- records written one by one, each behind the one before
unfoldable pub write_all : List Record → List ℕ → Written
write_all [] room = laid_over [] room
write_all (x ∷ xs) room = behind (write_record x room).answer (write_record x room).room (write_all xs)

-- of each record
abbrev pub NumbersBelow : List Record → Type 0
NumbersBelow [] = Unit {0}
NumbersBelow (x ∷ xs) = AllBelow (numbers_of x) × NumbersBelow xs

-- over the list: what was written is read as the same records; and "a valid recording written again gives the same bytes"
pub record SavedSame : Type 0 where
  pub back : (xs : List Record) (room after : List ℕ) (n : ℕ) → NumbersBelow xs → write_all xs room ≡ written (Bytes n) after
      → reading_from fresh_reader 0 (take n after) ≡ records xs
  pub again : (s room : List ℕ) (xs : List Record) → AllBytes s → read_recording s ≡ records xs → length s ≤ length room → write_all xs room ≡ laid_over s room

-- "Given exactly when": 1 exactly where the room is under the record's own length; 2 exactly where it is not, and its kind does not take its values
pub record ExactlyWhen : Type 0 where
  pub write : (x : Record) (room : List ℕ)
      → Exactly (record_refusals x room) (λ why. refused why room) (laid_over (record_bytes x) room) (write_record x room)
  pub in_order : (x : Record) (room : List ℕ) → numbered refusal_number (record_refusals x room) ≡ 1 ∷ 2 ∷ []
