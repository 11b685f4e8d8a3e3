-- What was written is read as the same record, and a valid recording written again, record by record, is the same bytes. Assumes nothing.
use Prim.Native.Nat.{ℕ, ◌+◌, ◌≤◌, ◌<◌}
use mathlib.Core.Path.{◌≡◌, refl, sym, ap, ap₂, ◌∙◌}
use mathlib.Core.List.{List, [], ◌∷◌, ◌++◌, append_assoc, append-nil}
use native.Mathlib.Nat.{zero-add}
use native.Mathlib.Omega.{arith}
use lib.ListN.{length, take, drop, length-append, length-drop, take-append-drop}
use lib.Seq.{drop-drop, drop-append_seam}
use Rattle.refusals.specs.Rules.{at_most}
use Rattle.refusals.specs.Put.{Written, written, over, laid as laid_over}
use Rattle.refusals.specs.Put.{Put}
use Rattle.refusals.specs.Put.{Bytes, Refused}
use Rattle.refusals.proofs.Rules.{certain, holds-true}
use Rattle.refusals.proofs.Writing.{done-laid, take-over, writes}
use Rattle.recording.specs.Record.{numbers_of, AllBelow, record_bytes, InRange, laid, AllInRange}
use Rattle.recording.specs.Reading.{records, fresh_reader, reading_from, ended, also}
use Rattle.recording.specs.declared.Record.{Record}
use Rattle.recording.proofs.Folds.{reading-nil}
use Rattle.recording.proofs.Back.{length-record, reads-back, alsos, alsos-none, records-back}
use Rattle.recording.proofs.Exact.{none-laid, more-laid, taken-at-once, exactly-when as recording-exactly}
use Rattle.record_writer.specs.Writing.{is_taken, record_refusals, write_record}
use Rattle.record_writer.specs.Promises.{ReadsSame, put_more, behind, write_all, NumbersBelow, SavedSame, ExactlyWhen}
use Rattle.record_writer.proofs.Laying.{length_over}
use Rattle.record_writer.proofs.Written.{is-written}

-- ---- one record

-- it was in range and there was room, and its bytes are laid
record Done (x : Record) (room : List ℕ) (n : ℕ) (after : List ℕ) : Type 0 where
  fit : InRange x
  room-enough : length (record_bytes x) ≤ length room
  put : n ≡ length (record_bytes x)
  left : after ≡ over (record_bytes x) room

done : (x : Record) (room after : List ℕ) (n : ℕ) → AllBelow (numbers_of x) → write_record x room ≡ written (Bytes n) after → Done x room n after
unfolding write_record record_refusals
done x room after n b e =
    let d = done-laid (record_refusals x room) (record_bytes x) room n after e in
    record {
      fit = (b, certain (is_taken x) d.none.1.0);
      room-enough = certain (at_most (length (record_bytes x)) (length room)) (λ h. d.none.0 (omega arith));
      put = d.put;
      left = d.left;
    }

bytes-put : (x : Record) (room after : List ℕ) (n : ℕ) → Done x room n after → take n after ≡ record_bytes x
bytes-put x room after n d = ap₂ take d.put d.left ∙ take-over (record_bytes x) room

pub reads_same : ReadsSame
reads_same =
    record {
      back = λ x room after n b e at t.
          let d = done x room after n b e in
          ap (λ (l : List ℕ). reading_from fresh_reader at (l ++ t)) (bytes-put x room after n d)
          ∙ reads-back x d.fit at t
          ∙ ap (λ (k : ℕ). also x (reading_from fresh_reader (at + k) t)) (sym d.put);
      found = λ x room after n b h e.
          let d = done x room after n b e in
          let bytes = bytes-put x room after n d in
          let some : 0 < length after = omega (arith, ap length d.left, length_over (record_bytes x) room d.room-enough, d.room-enough, length-record x) in
          (taken-at-once.whole after 0 h some x n).1
          (d.fit, d.put, sym (take-append-drop n after) ∙ ap (λ (l : List ℕ). l ++ drop n after) bytes ∙ ap (λ (k : ℕ). record_bytes x ++ drop k after) (sym (zero-add n)));
    }

-- ---- record by record

over_none : (room : List ℕ) → over [] room ≡ room
unfolding over
over_none room = refl

-- bytes behind bytes
over-both : (a b room : List ℕ) → a ++ over b (drop (length a) room) ≡ over (a ++ b) room
unfolding over
over-both a b room =
    sym (append_assoc a b (drop (length b) (drop (length a) room)))
    ∙ ap (λ (l : List ℕ). (a ++ b) ++ l) (drop-drop (length b) (length a) room ∙ ap (λ (k : ℕ). drop k room) (sym (length-append a b)))

drop-over : (a room : List ℕ) → drop (length a) (over a room) ≡ drop (length a) room
unfolding over
drop-over a room = drop-append_seam a (drop (length a) room)

-- one record that is written, and the rest behind it
all-step : (x : Record) (xs : List Record) (room : List ℕ) → write_record x room ≡ laid_over (record_bytes x) room
    → write_all (x ∷ xs) room
    ≡ written (put_more (length (record_bytes x)) (write_all xs (drop (length (record_bytes x)) room)).answer)
    (record_bytes x ++ (write_all xs (drop (length (record_bytes x)) room)).room)
unfolding write_all
all-step x xs room e =
    ap (λ (w : Written). behind w.answer w.room (write_all xs)) e
    ∙ ap₂ (λ (l r : List ℕ). written (put_more (length (record_bytes x)) (write_all xs r).answer) (l ++ (write_all xs r).room))
    (take-over (record_bytes x) room) (drop-over (record_bytes x) room)

all_none : (room : List ℕ) → write_all [] room ≡ laid_over [] room
unfolding write_all
all_none room = refl

-- records in range, for which there is room, are all laid
all_laid : (xs : List Record) (room : List ℕ) → AllInRange xs → length (laid xs) ≤ length room → write_all xs room ≡ laid_over (laid xs) room
all_laid [] room i h = all_none room ∙ ap (λ (l : List ℕ). laid_over l room) (sym none-laid)
all_laid (x ∷ xs) room i h =
    let a = record_bytes x in
    let rest = drop (length a) room in
    let m = more-laid x xs in
    let size : length (laid (x ∷ xs)) ≡ length a + length (laid xs) = ap length m ∙ length-append a (laid xs) in
    let one = sym (is-written x room (omega (arith, size)) (length a) (over a room) (holds-true (is_taken x) i.0.1) refl refl) in
    all-step x xs room one
    ∙ ap (λ (w : Written). written (put_more (length a) w.answer) (a ++ w.room)) (all_laid xs rest i.1 (omega (arith, size, length-drop (length a) room)))
    ∙ ap₂ (λ (k : ℕ) (l : List ℕ). written (Bytes k) l) (sym size) (over-both a (laid xs) room ∙ ap (λ (l : List ℕ). over l room) (sym m))

-- what was written wholly was in range, and is laid
record AllDone (xs : List Record) (room : List ℕ) (n : ℕ) (after : List ℕ) : Type 0 where
  fit : AllInRange xs
  put : n ≡ length (laid xs)
  left : after ≡ over (laid xs) room

-- the first of several was written
first-put : (x : Record) (xs : List Record) (room after : List ℕ) (n : ℕ) → write_all (x ∷ xs) room ≡ written (Bytes n) after
    → (p : Put) (l : List ℕ) → write_record x room ≡ written p l → (k : ℕ) × (write_record x room ≡ written (Bytes k) l)
unfolding write_all
first-put x xs room after n e (Bytes k) l q = (k, q)
first-put x xs room after n e (Refused why) l q =
    let r = sym (ap (λ (w : Written). behind w.answer w.room (write_all xs)) q) ∙ e in
    let a = ap (λ (w : Written). w.answer) r in
    let z : ◌≡◌ {A = ℕ} 0 1 = cc in absurd (omega arith)

-- and so were the others
rest_put : (m n : ℕ) (p : Put) → put_more m p ≡ Bytes n → (k : ℕ) × ((p ≡ Bytes k) × (n ≡ m + k))
rest_put m n (Bytes k) e = (k, (refl, (let q : m + k ≡ n = cc in sym q)))
rest_put m n (Refused why) e = let z : ◌≡◌ {A = ℕ} 0 1 = cc in absurd (omega arith)

all_done : (xs : List Record) (room after : List ℕ) (n : ℕ) → NumbersBelow xs → write_all xs room ≡ written (Bytes n) after → AllDone xs room n after
all_done [] room after n b e =
    let r = sym (all_none room) ∙ e in
    let a = ap (λ (w : Written). w.answer) r in
    let size : 0 ≡ n = cc in
    record {
      fit = tt;
      put = sym size ∙ sym (ap length none-laid);
      left = sym (ap (λ (w : Written). w.room) r) ∙ ap (λ (l : List ℕ). over l room) (sym none-laid);
    }
all_done (x ∷ xs) room after n b e =
    let f = first-put x xs room after n e (write_record x room).answer (write_record x room).room refl in
    let d = done x room (write_record x room).room f.0 b.0 f.1 in
    let a = record_bytes x in
    let rest = write_all xs (drop (length a) room) in
    let m = more-laid x xs in
    let one : write_record x room ≡ laid_over a room = f.1 ∙ ap₂ (λ (k : ℕ) (l : List ℕ). written (Bytes k) l) d.put d.left in
    let r = sym (all-step x xs room one) ∙ e in
    let g = rest_put (length a) n rest.answer (ap (λ (w : Written). w.answer) r) in
    let h = all_done xs (drop (length a) room) rest.room g.0 b.1 (ap (λ (p : Put). written p rest.room) g.1.0) in
    record {
      fit = (d.fit, h.fit);
      put = g.1.1 ∙ ap (λ (k : ℕ). length a + k) h.put ∙ sym (length-append a (laid xs)) ∙ sym (ap length m);
      left = sym (ap (λ (w : Written). w.room) r) ∙ ap (λ (l : List ℕ). a ++ l) h.left ∙ over-both a (laid xs) room ∙ ap (λ (l : List ℕ). over l room) (sym m);
    }

-- records that are laid are read
all_read : (xs : List Record) → AllInRange xs → reading_from fresh_reader 0 (laid xs) ≡ records xs
unfolding ended
all_read xs i =
    ap (reading_from fresh_reader 0) (sym (append-nil (laid xs)))
    ∙ records-back xs i 0 []
    ∙ ap (alsos xs) (reading-nil fresh_reader (0 + length (laid xs)))
    ∙ alsos-none xs

pub saved-same : SavedSame
saved-same =
    record {
      back = λ xs room after n b e.
          let d = all_done xs room after n b e in
          ap (reading_from fresh_reader 0) (ap₂ take d.put d.left ∙ take-over (laid xs) room) ∙ all_read xs d.fit;
      again = λ s room xs h e l.
          let r = (recording-exactly.good s xs h).0 e in
          all_laid xs room r.1 (omega (arith, l, ap length r.2)) ∙ ap (λ (y : List ℕ). laid_over y room) (sym r.2);
    }

-- ---- each number exactly when it is due

pub exactly-when : ExactlyWhen
unfolding write_record record_refusals
exactly-when = record { write = λ x room. writes (record_refusals x room) (record_bytes x) room; in_order = λ x room. refl }
