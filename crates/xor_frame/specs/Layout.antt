-- The fields of a dispenser frame, as data: how each is written, and how it is read (01, "Dispenser frames").
use Rattle.std.specs.Prelude.{ℕ, ◌+◌, ◌-◌, List, [], ◌∷◌, ◌++◌, get_or, take, drop}
use Rattle.refusals.specs.Rules.{Condition, always, never, both, at_most, within}
use Rattle.numbers.specs.Decimal.{digits, digits_only, number}

-- a field from low to high: a count, "two ASCII digits, tens first"; a byte; or a count in one byte, "the value plus 20h". Or a byte that may be any, and is kept
pub data Field : Type 0 where
  count : ℕ → ℕ → Field
  byte : ℕ → ℕ → Field
  raised : ℕ → ℕ → Field
  free : Field

-- how many bytes it takes
abbrev pub size : Field → ℕ
size (count low high) = 2
size (byte low high) = 1
size (raised low high) = 1
size free = 1

-- a value is in its range
abbrev pub in_range : Field → ℕ → Condition
in_range (count low high) n = within low high n
in_range (byte low high) n = within low high n
in_range (raised low high) n = within low high n
in_range free n = always

-- its bytes at a value
abbrev pub bytes_of : Field → ℕ → List ℕ
bytes_of (count low high) n = digits 2 n
bytes_of (byte low high) n = n ∷ []
bytes_of (raised low high) n = (0x20 + n) ∷ []
bytes_of free n = n ∷ []

-- its value in the bytes from a place on
abbrev pub value_at : Field → ℕ → List ℕ → ℕ
value_at (count low high) at s = number (take 2 (drop at s))
value_at (byte low high) at s = get_or s at 0
value_at (raised low high) at s = get_or s at 0 - 0x20
value_at free at s = get_or s at 0

-- the bytes from a place on are those of a value in its range
abbrev pub fits_at : Field → ℕ → List ℕ → Condition
fits_at (count low high) at s = both (digits_only (take 2 (drop at s))) (within low high (number (take 2 (drop at s))))
fits_at (byte low high) at s = within low high (get_or s at 0)
fits_at (raised low high) at s = both (at_most 0x20 (get_or s at 0)) (within low high (get_or s at 0 - 0x20))
fits_at free at s = always

-- the same of fields that stand one after another
unfoldable pub sizes : List Field → ℕ
sizes [] = 0
sizes (f ∷ fs) = size f + sizes fs

unfoldable pub all_in_range : List Field → List ℕ → Condition
all_in_range [] [] = always
all_in_range [] (n ∷ ns) = never
all_in_range (f ∷ fs) [] = never
all_in_range (f ∷ fs) (n ∷ ns) = both (in_range f n) (all_in_range fs ns)

unfoldable pub all_bytes : List Field → List ℕ → List ℕ
all_bytes [] ns = []
all_bytes (f ∷ fs) [] = []
all_bytes (f ∷ fs) (n ∷ ns) = bytes_of f n ++ all_bytes fs ns

unfoldable pub all_values : List Field → ℕ → List ℕ → List ℕ
all_values [] at s = []
all_values (f ∷ fs) at s = value_at f at s ∷ all_values fs (at + size f) s

unfoldable pub all_fit : List Field → ℕ → List ℕ → Condition
all_fit [] at s = always
all_fit (f ∷ fs) at s = both (fits_at f at s) (all_fit fs (at + size f) s)
