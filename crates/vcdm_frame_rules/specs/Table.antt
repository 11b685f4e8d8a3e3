-- The table of codes of the four-cassette unit (000, chapter 3; 02, Q-3): what each command asks, and the fields of its answer.
use Rattle.std.specs.Prelude.{ℕ, ◌+◌, Bool, true, false, cond, List, [], ◌∷◌, eqb, get_or}
use Rattle.refusals.specs.Rules.{Condition, never, either, same}
use Rattle.xor_frame.specs.Layout.{Field, byte, raised, free}
use Rattle.xor_frame.specs.Frame.{length_with}
use Rattle.vcdm_frame_rules.specs.declared.answer.Paid.{Paid}
use Rattle.vcdm_frame_rules.specs.declared.answer.Cassettes.{Cassettes}
use Rattle.vcdm_frame_rules.specs.declared.answer.Spare.{Spare}
use Rattle.vcdm_frame_rules.specs.declared.answer.Place.{Place}
use Rattle.vcdm_frame_rules.specs.declared.answer.Places.{Places}
use Rattle.vcdm_frame_rules.specs.declared.answer.Answer.{Answer}
use Rattle.vcdm_frame_rules.specs.declared.answer.Answer.TheVariants.{Reset, Status, Purged, Dispensed, Last}

-- "ID is 30h", and the codes by their meaning
abbrev pub unit_id : ℕ
unit_id = 0x30

abbrev pub reset_code : ℕ
reset_code = 0x44

abbrev pub status_code : ℕ
status_code = 0x50

abbrev pub purge_code : ℕ
purge_code = 0x51

abbrev pub dispense_code : ℕ
dispense_code = 0x52

abbrev pub last_code : ℕ
last_code = 0x55

-- what a command asks: notes, with a serial, or none
abbrev pub notes : Bool
notes = true

abbrev pub none : Bool
none = false

-- a line of the table: what is asked, the fields of the answer, and the answer that their values make
pub record Row : Type 0 where
  pub code : ℕ
  pub asks : Bool
  pub answer : List Field
  pub makes : List ℕ → Answer

abbrev pub row : ℕ → Bool → List Field → (List ℕ → Answer) → Row
row c a fs m = record { code = c; asks = a; answer = fs; makes = m }

-- "error and reserved bytes any, kept as fields"
abbrev pub error : Field
error = free

abbrev pub reserved : Field
reserved = free

-- "Answer counts are any byte from 20h": EXIT and REJECT, 0 to 223
abbrev pub passed : Field
passed = raised 0 223

-- "Value +0x20" (000): OPAC and LENG, kept as their byte
abbrev pub measured : Field
measured = byte 0x20 0xFF

-- the byte that names a cassette, where 000 does not reserve it
abbrev pub kind : Field
kind = byte 0x31 0x34

-- "The serial byte runs 21h to 7Fh"
abbrev pub serial : Field
serial = byte 0x21 0x7F

-- of a last status 20h too: no dispense, but the sensor diagnostics (000)
abbrev pub last_serial : Field
last_serial = byte 0x20 0x7F

-- EXIT, REJECT and CASSETTE of each cassette, top first; k is what CASSETTE may be
abbrev pub cassette_fields : Field → List Field → List Field
cassette_fields k more = passed ∷ passed ∷ k ∷ passed ∷ passed ∷ k ∷ passed ∷ passed ∷ k ∷ passed ∷ passed ∷ k ∷ more

abbrev pub paid_at : ℕ → List ℕ → Paid
paid_at i v = record { exit = get_or v i 0; rejects = get_or v (i + 1) 0; kind = get_or v (i + 2) 0 }

abbrev pub cassettes_at : ℕ → List ℕ → Cassettes
cassettes_at i v = record { top = paid_at i v; second = paid_at (i + 3) v; third = paid_at (i + 6) v; bottom = paid_at (i + 9) v }

-- nine RSV
abbrev pub spare_fields : List Field
spare_fields = reserved ∷ reserved ∷ reserved ∷ reserved ∷ reserved ∷ reserved ∷ reserved ∷ reserved ∷ reserved ∷ []

abbrev pub spare_at : ℕ → List ℕ → Spare
spare_at i v =
    record {
      a = get_or v i 0;
      b = get_or v (i + 1) 0;
      c = get_or v (i + 2) 0;
      d = get_or v (i + 3) 0;
      e = get_or v (i + 4) 0;
      f = get_or v (i + 5) 0;
      g = get_or v (i + 6) 0;
      h = get_or v (i + 7) 0;
      i = get_or v (i + 8) 0;
    }

-- STAT, TYPE, OPAC and LENG of each position
abbrev pub place_fields : List Field → List Field
place_fields more = free ∷ kind ∷ measured ∷ measured ∷ more

abbrev pub place_at : ℕ → List ℕ → Place
place_at i v = record { stat = get_or v i 0; kind = get_or v (i + 1) 0; opacity = get_or v (i + 2) 0; length = get_or v (i + 3) 0 }

abbrev pub places_at : ℕ → List ℕ → Places
places_at i v = record { top = place_at i v; second = place_at (i + 4) v; third = place_at (i + 8) v; bottom = place_at (i + 12) v }

-- 44h: ERROR
abbrev pub reset_fields : List Field
reset_fields = error ∷ []

abbrev pub reset : List ℕ → Answer
reset v = Reset (get_or v 0 0)

-- 50h: ERROR, DISP0, DISP1, and each position
abbrev pub status_fields : List Field
status_fields = error ∷ free ∷ free ∷ place_fields (place_fields (place_fields (place_fields [])))

abbrev pub status : List ℕ → Answer
status v = Status (get_or v 0 0) (get_or v 1 0) (get_or v 2 0) (places_at 3 v)

-- 51h: ERROR, MISS (reserved), each cassette with its name, nine RSV
abbrev pub purged_fields : List Field
purged_fields = error ∷ reserved ∷ cassette_fields kind spare_fields

abbrev pub purged : List ℕ → Answer
purged v = Purged (get_or v 0 0) (get_or v 1 0) (cassettes_at 2 v) (spare_at 14 v)

-- 52h: ERROR, SERIAL, each cassette, its name reserved, nine RSV
abbrev pub dispensed_fields : List Field
dispensed_fields = error ∷ serial ∷ cassette_fields reserved spare_fields

abbrev pub dispensed : List ℕ → Answer
dispensed v = Dispensed (get_or v 0 0) (get_or v 1 0) (cassettes_at 2 v) (spare_at 14 v)

-- 55h: LAST CMD, then as 52h
abbrev pub last_fields : List Field
last_fields = free ∷ error ∷ last_serial ∷ cassette_fields reserved spare_fields

abbrev pub last : List ℕ → Answer
last v = Last (get_or v 0 0) (get_or v 1 0) (get_or v 2 0) (cassettes_at 3 v) (spare_at 15 v)

unfoldable pub table : List Row
table =
    row reset_code none reset_fields reset
    ∷ row status_code none status_fields status
    ∷ row purge_code none purged_fields purged
    ∷ row dispense_code notes dispensed_fields dispensed
    ∷ row last_code none last_fields last
    ∷ []

-- the code stands in the table
unfoldable pub code_in : ℕ → List Row → Condition
code_in code [] = never
code_in code (r ∷ rs) = either (same code r.code) (code_in code rs)

abbrev pub known : ℕ → Condition
known code = code_in code table

-- its line; an empty one where the code is not in the table
unfoldable pub line_in : ℕ → List Row → Row
line_in code [] = row 0 none [] reset
line_in code (r ∷ rs) = cond (eqb code r.code) r (line_in code rs)

abbrev pub line : ℕ → Row
line code = line_in code table

-- "counts are the value plus 20h, each cassette 0 to 20"
abbrev pub wanted : Field
wanted = raised 0 20

-- TO1 and TO2 of a dispense
abbrev pub fixed : Field
fixed = byte 0x20 0x20

-- the fields of a command: QTY1 to QTY4, TO1, TO2, SERIAL where notes are asked
abbrev pub asked_fields : Bool → List Field
asked_fields true = wanted ∷ wanted ∷ wanted ∷ wanted ∷ fixed ∷ fixed ∷ serial ∷ []
asked_fields false = []

abbrev pub command_fields : ℕ → List Field
command_fields code = asked_fields (line code).asks

abbrev pub answer_fields : ℕ → List Field
answer_fields code = (line code).answer

-- the length of a command and of its answer; 0 where the code is not in the table
abbrev pub command_length : ℕ → ℕ
command_length = length_with known command_fields

abbrev pub answer_length : ℕ → ℕ
answer_length = length_with known answer_fields
