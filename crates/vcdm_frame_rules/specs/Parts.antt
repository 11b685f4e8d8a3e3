-- What the functions between the public ones do, in the terms of the definitions that the public ones meet.
use Rattle.std.specs.Prelude.{ℕ, ◌+◌, ◌%◌, Bool, true, false, cond, ◌&&◌, List, [], ◌∷◌, ◌++◌, eqb, get_or}
use Rattle.refusals.specs.Rules.{Condition, both, judged}
use Rattle.xor_frame.specs.Layout.{Field, in_range, all_values}
use Rattle.xor_frame.specs.Frame.{eot, soh, stx, etx, closed}
use Rattle.xor_frame.specs.Parts.{lowered, field_faults}
use Rattle.vcdm_frame_rules.specs.Table.{unit_id, reset_code, status_code, purge_code, dispense_code, last_code, passed, measured, kind, serial, last_serial, command_fields}
use Rattle.vcdm_frame_rules.specs.Command.{command_in, sum_faults}
use Rattle.vcdm_frame_rules.specs.declared.command.Counts.{Counts}
use Rattle.vcdm_frame_rules.specs.CommandRead.{CommandRead}
use Rattle.vcdm_frame_rules.specs.CommandRead.{Refused}
use Rattle.vcdm_frame_rules.specs.declared.answer.Paid.{Paid}
use Rattle.vcdm_frame_rules.specs.declared.answer.Cassettes.{Cassettes}
use Rattle.vcdm_frame_rules.specs.declared.answer.Spare.{Spare}
use Rattle.vcdm_frame_rules.specs.declared.answer.Place.{Place}
use Rattle.vcdm_frame_rules.specs.declared.answer.Places.{Places}
use Rattle.vcdm_frame_rules.specs.declared.answer.Answer.{Answer}
use Rattle.vcdm_frame_rules.specs.declared.answer.Answer.TheVariants.{Reset, Status, Purged, Dispensed, Last}
use Rattle.vcdm_frame_rules.specs.AnswerRead.{AnswerRead}
use Rattle.vcdm_frame_rules.specs.AnswerRead.{Read, Refused as NotRead}

-- what is read of a frame in which the fields alone are left to test
unfoldable pub asked_read : ℕ → List ℕ → CommandRead
asked_read code s = judged (field_faults (command_fields code) s ++ sum_faults code s) Refused (command_in code s)

unfoldable pub fields_read : List Field → (List ℕ → Answer) → List ℕ → AnswerRead
fields_read fields make s = judged (field_faults fields s) NotRead (Read (make (all_values fields 4 s)))

-- the counts of a command frame, as the reader takes them: a byte under 20h counts more than any field may hold
unfoldable pub lowered_counts : List ℕ → Counts
lowered_counts s = record { top = lowered (get_or s 4 0); second = lowered (get_or s 5 0); third = lowered (get_or s 6 0); bottom = lowered (get_or s 7 0) }

-- what stands from a place of an answer on, as the reader takes it
unfoldable pub paid_from : ℕ → List ℕ → Paid
paid_from at s = record { exit = lowered (get_or s at 0); rejects = lowered (get_or s (at + 1) 0); kind = get_or s (at + 2) 0 }

unfoldable pub cassettes_from : ℕ → List ℕ → Cassettes
cassettes_from at s = record { top = paid_from at s; second = paid_from (at + 3) s; third = paid_from (at + 6) s; bottom = paid_from (at + 9) s }

unfoldable pub spare_from : ℕ → List ℕ → Spare
spare_from at s =
    record {
      a = get_or s at 0;
      b = get_or s (at + 1) 0;
      c = get_or s (at + 2) 0;
      d = get_or s (at + 3) 0;
      e = get_or s (at + 4) 0;
      f = get_or s (at + 5) 0;
      g = get_or s (at + 6) 0;
      h = get_or s (at + 7) 0;
      i = get_or s (at + 8) 0;
    }

unfoldable pub place_from : ℕ → List ℕ → Place
place_from at s = record { stat = get_or s at 0; kind = get_or s (at + 1) 0; opacity = get_or s (at + 2) 0; length = get_or s (at + 3) 0 }

unfoldable pub places_from : ℕ → List ℕ → Places
places_from at s = record { top = place_from at s; second = place_from (at + 4) s; third = place_from (at + 8) s; bottom = place_from (at + 12) s }

-- the ranges of what an answer says of a cassette, its name apart
unfoldable pub paid_fits : Paid → Condition
paid_fits p = both (in_range passed p.exit) (in_range passed p.rejects)

unfoldable pub cassettes_fit : Cassettes → Condition
cassettes_fit c = both (paid_fits c.top) (both (paid_fits c.second) (both (paid_fits c.third) (paid_fits c.bottom)))

-- of the names, where they are not reserved
unfoldable pub names_fit : Cassettes → Condition
names_fit c =
    both (in_range kind c.top.kind) (both (in_range kind c.second.kind) (both (in_range kind c.third.kind) (in_range kind c.bottom.kind)))

-- of what a status says of a position
unfoldable pub place_fits : Place → Condition
place_fits p = both (in_range kind p.kind) (both (in_range measured p.opacity) (in_range measured p.length))

unfoldable pub places_fit : Places → Condition
places_fit p = both (place_fits p.top) (both (place_fits p.second) (both (place_fits p.third) (place_fits p.bottom)))

-- so an answer fits
abbrev pub fits_by : Answer → Bool
fits_by (Reset e) = true
fits_by (Status e d0 d1 p) = (places_fit p).test
fits_by (Purged e m c r) = (cassettes_fit c).test && (names_fit c).test
fits_by (Dispensed e s c r) = (in_range serial s).test && (cassettes_fit c).test
fits_by (Last l e s c r) = (in_range last_serial s).test && (cassettes_fit c).test

-- the answer that a frame with a code of the table holds, as the reader takes it
unfoldable pub answer_from : ℕ → List ℕ → Answer
answer_from code s =
    cond (eqb code reset_code) (Reset (get_or s 4 0))
    (cond (eqb code status_code) (Status (get_or s 4 0) (get_or s 5 0) (get_or s 6 0) (places_from 7 s))
    (cond (eqb code purge_code) (Purged (get_or s 4 0) (get_or s 5 0) (cassettes_from 6 s) (spare_from 18 s))
    (cond (eqb code dispense_code) (Dispensed (get_or s 4 0) (get_or s 5 0) (cassettes_from 6 s) (spare_from 18 s))
    (Last (get_or s 4 0) (get_or s 5 0) (get_or s 6 0) (cassettes_from 7 s) (spare_from 19 s)))))

-- a count's byte: "the value plus 20h"; what no field may hold wraps round
abbrev pub raised_byte : ℕ → ℕ
raised_byte n = 0x20 + n % 224

-- a command's frame, with the bytes so made
unfoldable pub raised_command : Bool → ℕ → Counts → ℕ → List ℕ
raised_command true code n s =
    closed
    (eot
    ∷ unit_id
    ∷ stx
    ∷ code
    ∷ raised_byte n.top
    ∷ raised_byte n.second
    ∷ raised_byte n.third
    ∷ raised_byte n.bottom
    ∷ 0x20
    ∷ 0x20
    ∷ s
    ∷ etx
    ∷ [])
raised_command false code n s = closed (eot ∷ unit_id ∷ stx ∷ code ∷ etx ∷ [])

-- and an answer's
abbrev pub paid_bytes : Paid → List ℕ → List ℕ
paid_bytes p more = raised_byte p.exit ∷ raised_byte p.rejects ∷ p.kind ∷ more

abbrev pub cassette_bytes : Cassettes → List ℕ → List ℕ
cassette_bytes c more = paid_bytes c.top (paid_bytes c.second (paid_bytes c.third (paid_bytes c.bottom more)))

abbrev pub spare_bytes : Spare → List ℕ → List ℕ
spare_bytes r more = r.a ∷ r.b ∷ r.c ∷ r.d ∷ r.e ∷ r.f ∷ r.g ∷ r.h ∷ r.i ∷ more

abbrev pub place_bytes : Place → List ℕ → List ℕ
place_bytes p more = p.stat ∷ p.kind ∷ p.opacity ∷ p.length ∷ more

-- a status
unfoldable pub status_frame : ℕ → ℕ → ℕ → Places → List ℕ
status_frame e d0 d1 p =
    closed
    (soh ∷ unit_id ∷ stx ∷ status_code ∷ e ∷ d0 ∷ d1 ∷ place_bytes p.top (place_bytes p.second (place_bytes p.third (place_bytes p.bottom (etx ∷ [])))))

-- a purge or a dispense
unfoldable pub counted_frame : ℕ → ℕ → ℕ → Cassettes → Spare → List ℕ
counted_frame code e s c r = closed (soh ∷ unit_id ∷ stx ∷ code ∷ e ∷ s ∷ cassette_bytes c (spare_bytes r (etx ∷ [])))

unfoldable pub last_frame : ℕ → ℕ → ℕ → Cassettes → Spare → List ℕ
last_frame l e s c r = closed (soh ∷ unit_id ∷ stx ∷ last_code ∷ l ∷ e ∷ s ∷ cassette_bytes c (spare_bytes r (etx ∷ [])))

abbrev pub raised_answer : Answer → List ℕ
raised_answer (Reset e) = closed (soh ∷ unit_id ∷ stx ∷ reset_code ∷ e ∷ etx ∷ [])
raised_answer (Status e d0 d1 p) = status_frame e d0 d1 p
raised_answer (Purged e m c r) = counted_frame purge_code e m c r
raised_answer (Dispensed e s c r) = counted_frame dispense_code e s c r
raised_answer (Last l e s c r) = last_frame l e s c r
