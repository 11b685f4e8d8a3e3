-- A record taken at once, where one is due: the step over one byte, folded until a record is whole or a fault shows.
use Rattle.std.specs.Prelude.{ℕ, suc, ◌-◌, Bool, cond, List, [], ◌∷◌, length, drop, Err}
use Rattle.recording.specs.Reading.{fresh_reader, read_byte}
use Rattle.recording.specs.declared.Fault.TheVariants.{Cut}
use Rattle.recording.specs.declared.Reader.{Reader}
use Rattle.recording.specs.Outcome.{Outcome}
use Rattle.recording.specs.Outcome.{More, Whole as ByteWhole}
use Rattle.recording.specs.NextRecord.{NextRecord}
use Rattle.recording.specs.NextRecord.{Whole, Bad}

-- what the n-th byte of a record settles: the record, which has n bytes; a fault; or nothing yet
abbrev pub settled : Outcome → ℕ → NextRecord → NextRecord
settled More n rest = rest
settled (ByteWhole x) n rest = Whole x n
settled (Err x) n rest = Bad x.fault

-- the bytes that follow the first n of a record; "cut short" where they end first
unfoldable pub found_from : Reader → ℕ → ℕ → List ℕ → NextRecord
found_from r at n [] = Bad Cut
found_from r at n (b ∷ s) = settled (read_byte r at b).outcome (suc n) (found_from (read_byte r at b).reader (suc at) (suc n) s)

-- where a record is due at an offset
unfoldable pub found_at : List ℕ → ℕ → NextRecord
found_at s at = found_from fresh_reader at 0 (drop at s)

-- before which index of a piece a record may be told from four bytes at once: from the first on where one is due there, and nowhere while one is cut
abbrev pub glances_in : Bool → List ℕ → ℕ
glances_in cut s = cond cut 0 (length s - 3)
