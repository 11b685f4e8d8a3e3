-- What entering a record leaves, by what was found: the recording full, the record refused by the writer, or its bytes laid. Assumes nothing.
use Prim.Native.Nat.{ℕ, ◌<◌}
use Rattle.std.specs.Prelude.{Err}
use mathlib.Core.Path.{◌≡◌, refl, sym, ap, ◌∙◌}
use mathlib.Core.Bool.{true, false}
use mathlib.Core.List.{List, [], ◌∷◌}
use mathlib.Core.Logic.{inl, inr}
use native.Mathlib.Omega.{arith}
use lib.ListN.{length}
use denote.Enum.Declared.{tag_of}
use package.types.Run.{OneOf, hit, miss}
use Rattle.refusals.specs.Rules.{under}
use Rattle.refusals.specs.Put.{Written, written}
use Rattle.refusals.specs.Put.{Put}
use Rattle.refusals.proofs.Rules.{holds-true, by_cases, certain, cond-true, cond-false}
use Rattle.recording.specs.Record.{most_bytes, record_bytes}
use Rattle.recording.specs.declared.Record.{Record}
use Rattle.recording.specs.declared.Place.{Place}
use Rattle.recording.specs.declared.Place.TheVariants.{Kind, Code, Upper, Lower, FromDispenser, Milliseconds, FromValidator, ToValidator, Broken}
use Rattle.recording.specs.contracts.Place.{the_type as the-place}
use Rattle.record_writer.specs.Writing.{write_record}
use Rattle.grading_rules.specs.declared.desk.Desk.{Desk}
use Rattle.live_rules.specs.Live.{Living, lived, lived_by}
use Rattle.live_rules.specs.Entering.{is_full, Noted, noted, as_entry, noted_by, idle, lived_as, entered, entered_as, entered_by, whole_in}
use Rattle.live_rules.specs.declared.desk.Lived.{Lived}
use Rattle.live_rules.specs.Entry.{Entry, Bytes, Full}
use Rattle.live_rules.specs.declared.entry.NotEntered.{NotEntered}
use Rattle.live_rules.specs.declared.entry.NotEntered.TheVariants.{Refused as NotTaken, Full as NoRoom}

-- ---- the bytes

module _ (m a d : ℕ) (x : Record) (o : List ℕ) where
  went : Noted
  went = noted (as_entry (write_record x o).answer) (write_record x o).room

  module _ (size : ℕ) (e : size ≡ length (record_bytes x)) where
    pub was-full : (is_full m a d size).test ≡ true → noted Full o ≡ noted_by m a d x o
    unfolding noted_by went
    was-full t = sym (cond-true (noted Full o) went (sym (ap (λ (n : ℕ). (is_full m a d n).test) e) ∙ t))

    pub was-written : (is_full m a d size).test ≡ false → (p p' : Put) (o' : List ℕ) → p ≡ p' → written p o' ≡ write_record x o → noted (as_entry p') o' ≡ noted_by m a d x o
    unfolding noted_by went
    was-written t p p' o' same w =
        ap (λ (y : Put). noted (as_entry y) o') (sym same)
        ∙ ap (λ (y : Written). noted (as_entry y.answer) y.room) w
        ∙ sym (cond-false (noted Full o) went (sym (ap (λ (n : ℕ). (is_full m a d n).test) e) ∙ t))

  -- where a record is written, the counts can grow
  pub can-grow : (y : Entry) (o' : List ℕ) (n : ℕ) → noted y o' ≡ noted_by m a d x o → y ≡ Bytes n → (d < most_bytes) × (a < most_bytes)
  unfolding noted_by went is_full
  can-grow y o' n h k =
      let full = is_full m a d (length (record_bytes x)) in
      by_cases full
      (λ l.
      let e : y ≡ Full = ap (λ (z : Noted). z.entry) (h ∙ cond-true (noted Full o) went (holds-true full l)) in
      let z : ◌≡◌ {A = ℕ} 0 1 = cc in absurd (omega arith))
      (λ l. (certain (under d most_bytes) (λ u. l (inr (inr (omega arith)))), certain (under a most_bytes) (λ u. l (inr (inl (omega arith))))))

-- ---- and the desk

module _ (d : Desk) (m : ℕ) (x : Record) (o r q : List ℕ) (y : Entry) (o' : List ℕ) (h : noted y o' ≡ noted_by m d.records d.declined x o) where
  leaves : (v : Lived) (r' q' : List ℕ) → lived v r' q' ≡ lived_as y d x r q → entered (record { entry = y; lived = v }) o' r' q' ≡ entered_by d m x o r q
  unfolding entered_by
  leaves v r' q' k = ap (λ (z : Living). record { note = noted y o'; living = z }) k ∙ ap (λ (n : Noted). entered_as n d x r q) h

  pub was-entered : (v : Lived) (n : ℕ) (r' q' : List ℕ) → y ≡ Bytes n → lived v r' q' ≡ lived_by d x r q
      → entered (record { entry = y; lived = v }) o' r' q' ≡ entered_by d m x o r q
  was-entered v n r' q' e k = leaves v r' q' (k ∙ sym (ap (λ (z : Entry). lived_as z d x r q) e))

  stays : (why : NotEntered) → idle d r q ≡ lived_as (Err why) d x r q
  stays (NotTaken why) = refl
  stays NoRoom = refl

  pub was-kept : (why : NotEntered) → y ≡ Err why → (v : Lived) → lived v r q ≡ idle d r q → entered (record { entry = y; lived = v }) o' r q ≡ entered_by d m x o r q
  was-kept why e v k = leaves v r q (k ∙ stays why ∙ sym (ap (λ (z : Entry). lived_as z d x r q) e))

-- ---- a recording that is taken up again

-- where no kind is due, the whole records end before the record that is begun
pub past-kind : (p : Place) → (p ≡ Kind → ⊥) → OneOf (1 ∷ 2 ∷ 3 ∷ 4 ∷ 5 ∷ 6 ∷ 7 ∷ 8 ∷ []) (tag_of the-place p)
past-kind Kind h = absurd (h refl)
past-kind Code h = hit (1 ∷ 2 ∷ 3 ∷ 4 ∷ 5 ∷ 6 ∷ 7 ∷ 8 ∷ []) 1 tt
past-kind Upper h = hit (1 ∷ 2 ∷ 3 ∷ 4 ∷ 5 ∷ 6 ∷ 7 ∷ 8 ∷ []) 2 tt
past-kind Lower h = hit (1 ∷ 2 ∷ 3 ∷ 4 ∷ 5 ∷ 6 ∷ 7 ∷ 8 ∷ []) 3 tt
past-kind FromDispenser h = hit (1 ∷ 2 ∷ 3 ∷ 4 ∷ 5 ∷ 6 ∷ 7 ∷ 8 ∷ []) 4 tt
past-kind Milliseconds h = hit (1 ∷ 2 ∷ 3 ∷ 4 ∷ 5 ∷ 6 ∷ 7 ∷ 8 ∷ []) 5 tt
past-kind FromValidator h = hit (1 ∷ 2 ∷ 3 ∷ 4 ∷ 5 ∷ 6 ∷ 7 ∷ 8 ∷ []) 6 tt
past-kind ToValidator h = hit (1 ∷ 2 ∷ 3 ∷ 4 ∷ 5 ∷ 6 ∷ 7 ∷ 8 ∷ []) 7 tt
past-kind (Broken why) h = hit (1 ∷ 2 ∷ 3 ∷ 4 ∷ 5 ∷ 6 ∷ 7 ∷ 8 ∷ []) 8 tt

pub begun-whole : (p : Place) → OneOf (1 ∷ 2 ∷ 3 ∷ 4 ∷ 5 ∷ 6 ∷ 7 ∷ 8 ∷ []) (tag_of the-place p) → (start fed : ℕ) → start ≡ whole_in p start fed
begun-whole Kind h start fed = absurd (miss (1 ∷ 2 ∷ 3 ∷ 4 ∷ 5 ∷ 6 ∷ 7 ∷ 8 ∷ []) 0 tt h)
begun-whole Code h start fed = refl
begun-whole Upper h start fed = refl
begun-whole Lower h start fed = refl
begun-whole FromDispenser h start fed = refl
begun-whole Milliseconds h start fed = refl
begun-whole FromValidator h start fed = refl
begun-whole ToValidator h start fed = refl
begun-whole (Broken why) h start fed = refl
