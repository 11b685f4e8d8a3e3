-- Reading a recording, a byte at a time (01, "Recording and report").
use Rattle.std.specs.Prelude.{ℕ, zero, suc, ◌%◌, List, [], ◌∷◌, Err}
use Rattle.refusals.specs.Rules.{isnt, under, at_most, judged, first_of, ◌gives◌}
use Rattle.numbers.specs.Seven.{number_end, next_group}
use Rattle.numbers.specs.Grouped.{Group}
use Rattle.numbers.specs.Grouped.{More as OneMore, Last, Wrong}
use Rattle.dispenser_frame_rules.specs.Table.{known}
use Rattle.recording.specs.Record.{most_bytes, in_list}
use Rattle.recording.specs.declared.Fault.{Fault}
use Rattle.recording.specs.declared.Fault.TheVariants.{BadNumber, Cut, Unknown, Long}
use Rattle.recording.specs.declared.Record.{Record}
use Rattle.recording.specs.declared.Record.TheVariants.{Request, DispenserByte, Tick, ValidatorByte, Command, Clear}
use Rattle.recording.specs.declared.Place.{Place}
use Rattle.recording.specs.declared.Place.TheVariants.{Kind, Code, Upper, Lower, FromDispenser, Milliseconds, FromValidator, ToValidator, Broken}
use Rattle.recording.specs.declared.Reader.{Reader}
use Rattle.recording.specs.Outcome.{Outcome}
use Rattle.recording.specs.Outcome.{More, Whole, Bad}
use Rattle.recording.specs.declared.Step.{Step}
use Rattle.recording.specs.Verdict.{Verdict}
use Rattle.recording.specs.Verdict.{Good, Bad as NotGood}

-- ---- the reader

-- a record whose kind byte stands at an offset, and what its next byte belongs to
abbrev pub awaiting : ℕ → Place → Reader
awaiting at p = record { start = at; acc = 0; weight = 1; code = 0; upper = 0; place = p }

-- between records
abbrev pub fresh_reader : Reader
fresh_reader = awaiting 0 Kind

-- the same, with what the groups of its number say by now
abbrev pub grown : Reader → ℕ → ℕ → Reader
grown r acc weight = record { start = r.start; acc = acc; weight = weight; code = r.code; upper = r.upper; place = r.place }

-- the next number of a request
abbrev pub next_number : Reader → ℕ → ℕ → Place → Reader
next_number r code upper p = record { start = r.start; acc = 0; weight = 1; code = code; upper = upper; place = p }

-- ---- what a byte leaves

abbrev pub more : Reader → Step
more r = record { reader = r; outcome = More }

-- a whole record: the next byte is a kind
abbrev pub whole : Record → Step
whole x = record { reader = fresh_reader; outcome = Whole x }

-- "with its number and the record's offset"; the reader stays at the fault
abbrev pub refused_at : ℕ → Fault → Step
refused_at at why = record { reader = awaiting at (Broken why); outcome = Bad why at }

abbrev pub refused : Reader → Fault → Step
refused r why = refused_at r.start why

-- ---- a kind byte

-- a row for each kind, with what its first number is: "0 code upper lower; 1 dispenser byte; 2 milliseconds; 3 validator byte; 4 code". Kind 5, clear, has none: it is
-- a whole record at once. "another kind is 23 at once"
unfoldable pub kind_byte : ℕ → ℕ → Step
kind_byte at zero = more (awaiting at Code)
kind_byte at (suc zero) = more (awaiting at FromDispenser)
kind_byte at (suc (suc zero)) = more (awaiting at Milliseconds)
kind_byte at (suc (suc (suc zero))) = more (awaiting at FromValidator)
kind_byte at (suc (suc (suc (suc zero)))) = more (awaiting at ToValidator)
kind_byte at (suc (suc (suc (suc (suc zero))))) = whole Clear
kind_byte at (suc (suc (suc (suc (suc (suc k)))))) = refused_at at Unknown

-- ---- a number

-- "A code outside its kind's list or a byte above 255 is 23, judged after the record's numbers". A count that was kept is below 4,294,967,296,
-- as every number is
unfoldable pub request_read : Reader → ℕ → Step
request_read r lower =
    judged (isnt (known r.code) gives Unknown ∷ []) (refused r) (whole (Request r.code (r.upper % number_end) lower))

unfoldable pub byte_read : Reader → ℕ → Record → Step
byte_read r n x = judged (under 255 n gives Unknown ∷ []) (refused r) (whole x)

unfoldable pub command_read : Reader → ℕ → Step
command_read r code = judged (isnt (in_list code) gives Unknown ∷ []) (refused r) (whole (Command code))

-- what a number is, by its place. Where a kind byte is due no number is read, nor after a fault
abbrev pub numbered : Place → Reader → ℕ → Step
numbered Kind r n = more r
numbered Code r n = more (next_number r n r.upper Upper)
numbered Upper r n = more (next_number r r.code n Lower)
numbered Lower r n = request_read r n
numbered FromDispenser r n = byte_read r n (DispenserByte n)
numbered Milliseconds r n = whole (Tick n)
numbered FromValidator r n = byte_read r n (ValidatorByte n)
numbered ToValidator r n = command_read r n
numbered (Broken why) r n = refused r why

-- what a group leaves: more of its number, the number, or 21
abbrev pub group_read : Group → Reader → Step
group_read (OneMore acc weight) r = more (grown r acc weight)
group_read (Last n) r = numbered r.place r n
group_read Wrong r = refused r BadNumber

unfoldable pub grouped : Reader → ℕ → Step
grouped r b = group_read (next_group r.acc r.weight b) r

-- ---- a byte, and the end

-- a byte b at an offset, by what it belongs to. After a fault it says that fault
abbrev pub byte_in : Place → Reader → ℕ → ℕ → Step
byte_in Kind r at b = kind_byte at b
byte_in Code r at b = grouped r b
byte_in Upper r at b = grouped r b
byte_in Lower r at b = grouped r b
byte_in FromDispenser r at b = grouped r b
byte_in Milliseconds r at b = grouped r b
byte_in FromValidator r at b = grouped r b
byte_in ToValidator r at b = grouped r b
byte_in (Broken why) r at b = refused r why

unfoldable pub read_byte : Reader → ℕ → ℕ → Step
read_byte r at b = byte_in r.place r at b

-- "cut short", unless a fault was met before
abbrev pub ended_in : Place → Reader → Verdict
ended_in Kind r = Good
ended_in Code r = NotGood Cut r.start
ended_in Upper r = NotGood Cut r.start
ended_in Lower r = NotGood Cut r.start
ended_in FromDispenser r = NotGood Cut r.start
ended_in Milliseconds r = NotGood Cut r.start
ended_in FromValidator r = NotGood Cut r.start
ended_in ToValidator r = NotGood Cut r.start
ended_in (Broken why) r = NotGood why r.start

unfoldable pub ended : Reader → Verdict
ended r = ended_in r.place r

-- ---- a byte of a recording, which has a limit

-- a byte past the limit, by what the reader waits for: 24 at that byte's offset. "an earlier 21 or 23 wins"
abbrev pub past_in : Place → Reader → ℕ → Step
past_in Kind r at = refused_at at Long
past_in Code r at = refused_at at Long
past_in Upper r at = refused_at at Long
past_in Lower r at = refused_at at Long
past_in FromDispenser r at = refused_at at Long
past_in Milliseconds r at = refused_at at Long
past_in FromValidator r at = refused_at at Long
past_in ToValidator r at = refused_at at Long
past_in (Broken why) r at = refused r why

-- "Number 24 is now given when the byte past the new limit arrives, at that byte's offset, and no longer first" (02, Q-7), whatever else that byte would show. The first
-- such byte has the offset 4,294,967,295
unfoldable pub taken_byte : Reader → ℕ → ℕ → Step
taken_byte r at b = first_of (at_most most_bytes at gives past_in r.place r at ∷ []) (read_byte r at b)

-- the reader after bytes of which the first stands at an offset
unfoldable pub reader_after : Reader → ℕ → List ℕ → Reader
reader_after r at [] = r
reader_after r at (b ∷ s) = reader_after (taken_byte r at b).reader (suc at) s

-- ---- a whole recording

-- what a recording says: its records in order, or why it is bad, with the offset of the record in which that shows
pub data Reading : Type 0 where
  records : List Record → Reading
  bad : Fault → ℕ → Reading

-- a record, and what the rest says
abbrev pub also : Record → Reading → Reading
also x (records xs) = records (x ∷ xs)
also x (bad why at) = bad why at

-- what a byte brought, and what the rest says
abbrev pub went : Outcome → Reading → Reading
went More rest = rest
went (Whole x) rest = also x rest
went (Err x) rest = bad x.fault x.at

abbrev pub closing : Verdict → Reading
closing Good = records []
closing (Err x) = bad x.fault x.at

-- the step over one byte, folded over bytes of which the first stands at an offset; wherever that is
unfoldable pub reading_from : Reader → ℕ → List ℕ → Reading
reading_from r at [] = closing (ended r)
reading_from r at (b ∷ s) = went (read_byte r at b).outcome (reading_from (read_byte r at b).reader (suc at) s)

-- the same of a recording, which has a limit
unfoldable pub taking_from : Reader → ℕ → List ℕ → Reading
taking_from r at [] = closing (ended r)
taking_from r at (b ∷ s) = went (taken_byte r at b).outcome (taking_from (taken_byte r at b).reader (suc at) s)

unfoldable pub read_recording : List ℕ → Reading
read_recording s = taking_from fresh_reader 0 s

-- whether it is good
abbrev pub verdict_of : Reading → Verdict
verdict_of (records xs) = Good
verdict_of (bad why at) = NotGood why at

unfoldable pub verdict : List ℕ → Verdict
verdict s = verdict_of (read_recording s)
