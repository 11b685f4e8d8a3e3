-- What the functions between a reader or writer and its bytes do, in the terms of the definitions that readers and writers meet.
use Rattle.std.specs.Prelude.{ℕ, ◌-◌, ◌/◌, cond, List, [], ◌∷◌, ltb, length, get_or, take, drop}
use Rattle.refusals.specs.Rules.{Rule, same, isnt, ◌gives◌}
use Rattle.numbers.specs.Decimal.{digit_of, digits_only, number}
use Rattle.xor_frame.specs.Layout.{Field, all_fit}
use Rattle.xor_frame.specs.Frame.{etx, check, opened}
use Rattle.xor_frame.specs.declared.frame.Digits.{Digits}
use Rattle.xor_frame.specs.declared.frame.Fault.{Fault}
use Rattle.xor_frame.specs.declared.frame.Fault.TheVariants.{Length, Opening, Code, Closing, Check, Field as Outside}

-- the tests between the opening and the fields of `faults`, where n is the length for the code, or 0
abbrev pub code_faults : ℕ → List ℕ → List (Rule Fault)
code_faults n s =
    same n 0 gives Code
    ∷ isnt (same (length s) n) gives Length
    ∷ isnt (same (get_or s (length s - 2) 0) etx) gives Closing
    ∷ isnt (same (check (take (length s - 1) s)) (get_or s (length s - 1) 0)) gives Check
    ∷ []

-- those between the first and the last
abbrev pub outer_faults : ℕ → ℕ → ℕ → List ℕ → List (Rule Fault)
outer_faults first id n s = isnt (opened first id s) gives Opening ∷ code_faults n s

-- the last, where the fields alone are left to test
abbrev pub field_faults : List Field → List ℕ → List (Rule Fault)
field_faults fields s = isnt (all_fit fields 4 s) gives Outside ∷ []

-- a count's digits
abbrev pub two_digits : ℕ → Digits
two_digits n = record { tens = digit_of (n / 10); ones = digit_of n }

-- the count at a place, or 100 where no two digits stand there
unfoldable pub count_at : ℕ → List ℕ → ℕ
count_at at s = cond (digits_only (take 2 (drop at s))).test (number (take 2 (drop at s))) 100

-- a byte less 20h, or 300 where it is under 20h
unfoldable pub lowered : ℕ → ℕ
lowered b = cond (ltb b 0x20) 300 (b - 0x20)
