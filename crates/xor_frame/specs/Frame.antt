-- Frames of a dispenser, of whatever model, laid out and tested (01, "Dispenser frames" and "Numbers a call can answer"). What differs from model to
-- model is a parameter: `id` is the second byte, `known` says whether a code is in the model's table, `fields` gives a code's fields.
use Rattle.std.specs.Prelude.{ℕ, ◌+◌, ◌-◌, cond, List, [], ◌∷◌, ◌++◌, length, get_or, take}
use Rattle.std.specs.Int.Bits.{bit_xor}
use Rattle.refusals.specs.Numbers.{bad_length, bad_opening, unknown_code, no_closing, bad_check, bad_field}
use Rattle.refusals.specs.Rules.{Condition, Rule, under, same, isnt, both, ◌gives◌}
use Rattle.xor_frame.specs.Layout.{Field, sizes, all_fit}
use Rattle.xor_frame.specs.declared.frame.Fault.{Fault}
use Rattle.xor_frame.specs.declared.frame.Fault.TheVariants.{Length, Opening, Code, Closing, Check, Field as Outside}

-- 01's number for each fault
abbrev pub fault_number : Fault → ℕ
fault_number Length = bad_length
fault_number Opening = bad_opening
fault_number Code = unknown_code
fault_number Closing = no_closing
fault_number Check = bad_check
fault_number Outside = bad_field

-- the fixed bytes of a frame, by the makers' names: eot opens a command and soh an answer, stx stands before the code and etx closes the
-- fields
abbrev pub eot : ℕ
eot = 0x04

abbrev pub soh : ℕ
soh = 0x01

abbrev pub stx : ℕ
stx = 0x02

abbrev pub etx : ℕ
etx = 0x03

-- "The check is the exclusive or of all bytes before it."
unfoldable pub check_from : ℕ → List ℕ → ℕ
check_from a [] = a
check_from a (b ∷ s) = check_from (bit_xor a b) s

unfoldable pub check : List ℕ → ℕ
check s = check_from 0 s

-- bytes and their check
unfoldable pub closed : List ℕ → List ℕ
closed s = s ++ (check s ∷ [])

-- "04h, 50h, 02h, code, counts, 03h, check" and "01h, 50h, 02h, code, fields, 03h, check", with the model's ID for 50h
unfoldable pub frame : ℕ → ℕ → ℕ → List ℕ → List ℕ
frame first id code fields = closed (first ∷ id ∷ stx ∷ code ∷ (fields ++ (etx ∷ [])))

abbrev pub code_of : List ℕ → ℕ
code_of s = get_or s 3 0

-- the three fixed bytes at the opening
abbrev pub opened : ℕ → ℕ → List ℕ → Condition
opened first id s = both (same (get_or s 0 0) first) (both (same (get_or s 1 0) id) (same (get_or s 2 0) stx))

-- a frame's length: four bytes before the fields and two behind them; 0 where the code is not in the table
unfoldable pub length_with : (ℕ → Condition) → (ℕ → List Field) → ℕ → ℕ
length_with known fields code = cond (known code).test (6 + sizes (fields code)) 0

-- "Dispenser frames are tested thus: under 6 bytes, 11; opening, 12; code, 13; length for that code, 11; 14; 15; 16."
unfoldable pub faults : ℕ → ℕ → (ℕ → Condition) → (ℕ → List Field) → List ℕ → List (Rule Fault)
faults first id known fields s =
    under (length s) 6 gives Length
    ∷ isnt (opened first id s) gives Opening
    ∷ isnt (known (code_of s)) gives Code
    ∷ isnt (same (length s) (length_with known fields (code_of s))) gives Length
    ∷ isnt (same (get_or s (length s - 2) 0) etx) gives Closing
    ∷ isnt (same (check (take (length s - 1) s)) (get_or s (length s - 1) 0)) gives Check
    ∷ isnt (all_fit (fields (code_of s)) 4 s) gives Outside
    ∷ []
