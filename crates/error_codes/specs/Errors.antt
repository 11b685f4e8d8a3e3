-- The published error codes (01, "Dispenser frames": "A constant list of the 27 published codes"), and what to tell the student about each (02, Q-5).
use Rattle.std.specs.Prelude.{ℕ, zero, suc, List, [], ◌∷◌, ◌++◌}
use Prim.Native.String.{String}
use Rattle.refusals.specs.Rules.{Condition, among, first_of, ◌gives◌}
use Rattle.error_codes.specs.declared.ErrorClass.{ErrorClass}
use Rattle.error_codes.specs.declared.ErrorClass.TheVariants.{Fine, OutOfNotes, NotSeated, Jam, CountInDoubt, OtherListed, Unlisted}

-- n bytes from low on
abbrev pub run : ℕ → ℕ → List ℕ
run low zero = []
run low (suc n) = low ∷ run (suc low) n

-- "30h to 38h, 3Ah to 3Dh, 3Fh to 4Ah, 4Ch, 4Eh"
abbrev pub published : List ℕ
published = run 0x30 9 ++ (run 0x3A 4 ++ (run 0x3F 12 ++ (run 0x4C 1 ++ run 0x4E 1)))

-- the error byte is a listed one
unfoldable pub listed : ℕ → Condition
listed b = among b published

-- "fine (30h, 31h), out of notes (38h, 40h), not seated (3Fh, 45h, 46h), jam (33h, 35h, 36h, 42h, 48h, 4Ch, 4Eh), count in doubt (3Ah, 3Ch, 3Dh), other listed,
-- unlisted"
unfoldable pub error_class : ℕ → ErrorClass
error_class b =
    first_of
    (among b (0x30 ∷ 0x31 ∷ []) gives Fine
    ∷ among b (0x38 ∷ 0x40 ∷ []) gives OutOfNotes
    ∷ among b (0x3F ∷ 0x45 ∷ 0x46 ∷ []) gives NotSeated
    ∷ among b (0x33 ∷ 0x35 ∷ 0x36 ∷ 0x42 ∷ 0x48 ∷ 0x4C ∷ 0x4E ∷ []) gives Jam
    ∷ among b (0x3A ∷ 0x3C ∷ 0x3D ∷ []) gives CountInDoubt
    ∷ listed b gives OtherListed
    ∷ [])
    Unlisted

-- each class's name, as 02 writes it
abbrev pub class_name : ErrorClass → String
class_name Fine = "fine"
class_name OutOfNotes = "out of notes"
class_name NotSeated = "not seated"
class_name Jam = "jam"
class_name CountInDoubt = "count in doubt"
class_name OtherListed = "other listed"
class_name Unlisted = "unlisted"
