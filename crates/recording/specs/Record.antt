-- A record and its bytes (01, "Recording and report": "A record is one kind byte and then its numbers").
use Rattle.std.specs.Prelude.{ℕ, zero, suc, ◌<◌, List, [], ◌∷◌, ◌++◌, get_or}
use Rattle.refusals.specs.Numbers.{bad_number, cut_short, unknown_value, too_long}
use Rattle.refusals.specs.Rules.{Condition, always, never, at_most, among}
use Rattle.numbers.specs.Seven.{number_end, groups}
use Rattle.dispenser_frame_rules.specs.Table.{known}
use Rattle.recording.specs.declared.Fault.{Fault}
use Rattle.recording.specs.declared.Fault.TheVariants.{BadNumber, Cut, Unknown, Long}
use Rattle.recording.specs.declared.Record.{Record}
use Rattle.recording.specs.declared.Record.TheVariants.{Request, DispenserByte, Tick, ValidatorByte, Command, Clear}

-- 01's number for each fault: "bad number; cut short; unknown kind or value"; over the limit below
abbrev pub fault_number : Fault → ℕ
fault_number BadNumber = bad_number
fault_number Cut = cut_short
fault_number Unknown = unknown_value
fault_number Long = too_long

-- "Accept recordings of up to 4,294,967,295 bytes" (02, Q-7)
abbrev pub most_bytes : ℕ
most_bytes = 4_294_967_295

-- kind 4: "code (30h, 33h, 35h, 36h, 38h)"; "Kind 4 records may hold 41h" (02, Q-1)
unfoldable pub in_list : ℕ → Condition
in_list code = among code (0x30 ∷ 0x33 ∷ 0x35 ∷ 0x36 ∷ 0x38 ∷ 0x41 ∷ [])

-- "0 code upper lower; 1 dispenser byte; 2 milliseconds; 3 validator byte; 4 code"; kind 5 for clear, "with no further number" (02, Q-9)
abbrev pub kind_of : Record → ℕ
kind_of (Request code upper lower) = 0
kind_of (DispenserByte b) = 1
kind_of (Tick ms) = 2
kind_of (ValidatorByte b) = 3
kind_of (Command code) = 4
kind_of Clear = 5

abbrev pub numbers_of : Record → List ℕ
numbers_of (Request code upper lower) = code ∷ upper ∷ lower ∷ []
numbers_of (DispenserByte b) = b ∷ []
numbers_of (Tick ms) = ms ∷ []
numbers_of (ValidatorByte b) = b ∷ []
numbers_of (Command code) = code ∷ []
numbers_of Clear = []

-- the kinds that there are
abbrev pub is_kind : ℕ → Condition
is_kind k = at_most k 5

-- how many numbers a record of a kind has
abbrev pub how_many : ℕ → ℕ
how_many zero = 3
how_many (suc zero) = 1
how_many (suc (suc zero)) = 1
how_many (suc (suc (suc zero))) = 1
how_many (suc (suc (suc (suc zero)))) = 1
how_many (suc (suc (suc (suc (suc zero))))) = 0
how_many (suc (suc (suc (suc (suc (suc k)))))) = 0

-- the values that a kind takes: "A code outside its kind's list or a byte above 255 is 23"; milliseconds and counts may be any
abbrev pub takes : ℕ → List ℕ → Condition
takes zero ns = known (get_or ns 0 0)
takes (suc zero) ns = at_most (get_or ns 0 0) 255
takes (suc (suc zero)) ns = always
takes (suc (suc (suc zero))) ns = at_most (get_or ns 0 0) 255
takes (suc (suc (suc (suc zero)))) ns = in_list (get_or ns 0 0)
takes (suc (suc (suc (suc (suc zero))))) ns = always
takes (suc (suc (suc (suc (suc (suc k)))))) ns = never

-- every number is below 4,294,967,296
abbrev pub AllBelow : List ℕ → Type 0
AllBelow [] = Unit {0}
AllBelow (n ∷ ns) = (n < number_end) × AllBelow ns

-- numbers in groups of seven bits, one behind the other
unfoldable pub laid_numbers : List ℕ → List ℕ
laid_numbers [] = []
laid_numbers (n ∷ ns) = groups n ++ laid_numbers ns

-- the bytes of a record
unfoldable pub record_bytes : Record → List ℕ
record_bytes x = kind_of x ∷ laid_numbers (numbers_of x)

-- a record that a recording can hold
abbrev pub InRange : Record → Type 0
InRange x = AllBelow (numbers_of x) × (takes (kind_of x) (numbers_of x)).holds

-- records, one behind the other
unfoldable pub laid : List Record → List ℕ
laid [] = []
laid (x ∷ xs) = record_bytes x ++ laid xs

abbrev pub AllInRange : List Record → Type 0
AllInRange [] = Unit {0}
AllInRange (x ∷ xs) = InRange x × AllInRange xs
