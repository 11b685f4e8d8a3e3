-- The loop over a piece: what a record of it leaves to be fed. Assumes nothing.
use Rattle.std.proofs.lemmas.Result.{IfErr-at_err}
use Rattle.std.specs.Prelude.{Err}
use Prim.Native.Nat.{ℕ, suc, ◌+◌, ◌-◌, ◌≤◌, ◌<◌}
use mathlib.Core.Path.{◌≡◌, refl, sym, ap, ap₂, ◌∙◌, subst}
use mathlib.Core.Bool.{Bool, true, false, cond, true≢false}
use mathlib.Core.List.{List, [], ◌∷◌}
use mathlib.Core.Logic.{◌⊎◌, inl, inr}
use native.Mathlib.Numerals.{add-one}
use native.Mathlib.Omega.{arith}
use lib.Dec.{leb}
use lib.ListN.{length, take, drop, get_or, set, length-drop, drop_of_length-le, take-append-drop}
use lib.Seq.{drop-drop, drop-cons, length-take-le, take_all}
use Rattle.refusals.specs.Rules.{under}
use Rattle.refusals.proofs.Rules.{by_cases}
use denote.Enum.Declared.{tag_of}
use package.types.Run.{OneOf, hit, miss}
use borrow.Author.Tests.{le-ltb, lt-ltb}
use Rattle.std.specs.Prelude.{Option}
use Rattle.std.specs.Option.{is_some}
use Rattle.validator_rules.specs.Bills.{no_bill, a_bill, booked_by}
use Rattle.validator_rules.specs.declared.bills.Bills.{Bills}
use Rattle.recording.specs.Record.{most_bytes}
use Rattle.recording.specs.Reading.{fresh_reader, refused_at, read_byte, ended_in, ended, past_in as past_step, taken_byte, reader_after}
use Rattle.recording.specs.Taking.{found_from, found_at}
use Rattle.recording.specs.declared.Fault.{Fault}
use Rattle.recording.specs.declared.Fault.TheVariants.{BadNumber, Cut, Unknown, Long}
use Rattle.recording.specs.declared.Record.{Record}
use Rattle.recording.specs.declared.Place.{Place}
use Rattle.recording.specs.declared.Place.TheVariants.{Kind, Code, Upper, Lower, FromDispenser, Milliseconds, FromValidator, ToValidator, Broken}
use Rattle.recording.specs.declared.Reader.{Reader}
use Rattle.recording.specs.declared.Step.{Step}
use Rattle.recording.specs.Outcome.{Outcome}
use Rattle.recording.specs.Outcome.{More, Whole as ByteWhole, Bad as ByteBad}
use Rattle.recording.specs.Verdict.{Bad as NotGood}
use Rattle.recording.specs.NextRecord.{NextRecord}
use Rattle.recording.specs.NextRecord.{Whole, Bad}
use Rattle.recording.specs.contracts.Fault.{the_type as the-fault}
use Rattle.recording.specs.contracts.Place.{the_type as the-place}
use Rattle.recording.proofs.Places.{within, Inside}
use Rattle.recording.proofs.Folds.{taken-past}
use Rattle.recording.proofs.Pieces.{Comes, due-in-piece, rest-in-piece}
use Rattle.grading_rules.specs.Replay.{given}
use Rattle.grading_rules.specs.Feeding.{fresh_replay, broken_at, after_byte, fed_byte, fed_piece, ended_replay, replay_of}
use Rattle.grading_rules.specs.declared.desk.Desk.{Desk}
use Rattle.grading_rules.specs.declared.desk.Replaying.{Replaying}
use Rattle.grading_rules.specs.declared.findings.Findings.{Findings}
use Rattle.grading_rules.proofs.Cuts.{fed-nil, fed-cons, fed-append, fed-step, broken-stays, given-counts}
use Rattle.grading_rules.proofs.Taken.{Given, whole-given, fault-shown, cut-held}
use Rattle.dispenser_rules.specs.Requests.{slots_after}
use Rattle.dispenser_rules.specs.declared.requests.KeptRequest.{KeptRequest}
use Rattle.dispenser_rules.specs.declared.requests.Written.{Written}
use Rattle.dispenser_rules.specs.declared.session.Asked.{Asked}
use Rattle.grading_step.specs.Scaffolding.{Shelf, shelf, booked, written_of, entered, joined}
use Rattle.grading.specs.Scaffolding.{replay_on, is_begun, Unbroken, past_in, past_limit, Least}
use Rattle.grading_step.specs.declared.Books.{Books}
use Rattle.grading_step.specs.declared.Entry.{Entry}
use Rattle.grading_step.specs.declared.Run.{Run}

-- ---- f is what is found at the index i of a piece, before which so many bytes were fed

module _ (piece : List ℕ) (fed i : ℕ) (cut : Bool) (begun : Reader) (h : i < length piece) (l : fed + length piece ≤ most_bytes) (j : cut ≡ true → Inside begun.place)
    (f : NextRecord) (e : f ≡ found_from (cond cut begun fresh_reader) i 0 (drop i piece)) where
  came : Comes (cond cut begun.start (fed + i)) (cond cut begun fresh_reader) (fed + i) 0 (drop i piece) f
  unfolding found_at
  came = by cut j e
    where
      by : (t : Bool) → (t ≡ true → Inside begun.place) → f ≡ found_from (cond t begun fresh_reader) i 0 (drop i piece)
          → Comes (cond t begun.start (fed + i)) (cond t begun fresh_reader) (fed + i) 0 (drop i piece) f
      by true k q = rest-in-piece piece i (fed + i) f begun (k refl) q
      by false k q = due-in-piece piece i (fed + i) f h q

  inside : fed + i + length (drop i piece) ≤ most_bytes
  inside = simp length-drop (omega (arith, h, l))

  taken_up : (d : Desk) (x : Record) (n : ℕ) → f ≡ Whole x n → Given d (cond cut begun fresh_reader) (fed + i) (drop i piece) x n
  taken_up d x n q = whole-given d (cond cut begun.start (fed + i)) (cond cut begun fresh_reader) (fed + i) (drop i piece) inside x n came q

  -- the next record is due further on, and no further than the end
  pub further : (d : Desk) (x : Record) (n : ℕ) → f ≡ Whole x n → (i < i + n) × (i + n ≤ length piece)
  further d x n q = let g = taken_up d x n q in (omega (arith, g.some), omega (arith, simp length-drop at g.fits, h))

  pub gives : (d d' : Desk) (x : Record) (n : ℕ) {o : Replaying} → f ≡ Whole x n → d' ≡ given d x
      → fed_piece (replay_on d (cond cut begun fresh_reader) (fed + i)) (drop i piece) ≡ o
      → fed_piece (replay_on d' fresh_reader (fed + (i + n))) (drop (i + n) piece) ≡ o
  gives d d' x n q g p =
      let m : fed + (i + n) ≡ fed + i + n = omega arith in
      ap (λ (y : Desk). fed_piece (replay_on y fresh_reader (fed + (i + n))) (drop (i + n) piece)) g
      ∙ ap₂ (λ (k : ℕ) (s : List ℕ). fed_piece (replay_on (given d x) fresh_reader k) s) m (sym (drop-drop n i piece))
      ∙ sym (taken_up d x n q).leaves
      ∙ p

  pub breaks : (d : Desk) {o : Replaying} {why : Fault} → (why ≡ Cut → ⊥) → f ≡ Bad why
      → fed_piece (replay_on d (cond cut begun fresh_reader) (fed + i)) (drop i piece) ≡ o → broken_at why (cond cut begun.start (fed + i)) ≡ o
  breaks d {o} {why} n q p =
      sym (fault-shown d (cond cut begun.start (fed + i)) (cond cut begun fresh_reader) (fed + i) (drop i piece) inside why n came q) ∙ p

  pub holds : (d : Desk) {o : Replaying} → f ≡ Bad Cut → fed_piece (replay_on d (cond cut begun fresh_reader) (fed + i)) (drop i piece) ≡ o
      → replay_on d (reader_after (cond cut begun fresh_reader) (fed + i) (drop i piece)) (fed + length piece) ≡ o
  holds d q p =
      let m : fed + length piece ≡ fed + i + length (drop i piece) = simp length-drop (omega (arith, h)) in
      ap (replay_on d (reader_after (cond cut begun fresh_reader) (fed + i) (drop i piece))) m
      ∙ sym (cut-held d (cond cut begun.start (fed + i)) (cond cut begun fresh_reader) (fed + i) (drop i piece) inside came q)
      ∙ p

  -- with what the code has for the readers
  pub holds_as : (d : Desk) {o : Replaying} {r q : Reader} → f ≡ Bad Cut → fed_piece (replay_on d (cond cut begun fresh_reader) (fed + i)) (drop i piece) ≡ o
      → r ≡ cond cut begun fresh_reader → q ≡ reader_after r (fed + i) (drop i piece) → replay_on d q (fed + length piece) ≡ o
  holds_as d k p e₁ e₂ =
      ap (λ (z : Reader). replay_on d z (fed + length piece)) (e₂ ∙ ap (λ (z : Reader). reader_after z (fed + i) (drop i piece)) e₁) ∙ holds d k p

-- a fault that is not that of a cut
pub uncut : (why : Fault) → (why ≡ Cut → ⊥) → OneOf (0 ∷ 2 ∷ 3 ∷ []) (tag_of the-fault why)
uncut BadNumber h = hit (0 ∷ 2 ∷ 3 ∷ []) 0 tt
uncut Cut h = absurd (h refl)
uncut Unknown h = hit (0 ∷ 2 ∷ 3 ∷ []) 2 tt
uncut Long h = hit (0 ∷ 2 ∷ 3 ∷ []) 3 tt

pub other-fault : (why : Fault) → OneOf (0 ∷ 2 ∷ 3 ∷ []) (tag_of the-fault why) → why ≡ Cut → ⊥
other-fault why k e = miss (0 ∷ 2 ∷ 3 ∷ []) 1 tt (subst (λ (w : Fault). OneOf (0 ∷ 2 ∷ 3 ∷ []) (tag_of the-fault w)) e k)

-- ---- the end of a piece

pub ends : (piece : List ℕ) (fed i : ℕ) (r : Reader) → length piece ≤ i → i ≤ length piece → (d : Desk) {o : Replaying}
    → fed_piece (replay_on d r (fed + i)) (drop i piece) ≡ o → replay_on d r (fed + length piece) ≡ o
ends piece fed i r h k d p =
    let m : fed + length piece ≡ fed + i = omega (arith, h, k) in
    ap (replay_on d r) m ∙ sym (fed-nil (replay_on d r (fed + i))) ∙ ap (fed_piece (replay_on d r (fed + i))) (sym (drop_of_length-le piece h)) ∙ p

pub ends_as : (piece : List ℕ) (fed i : ℕ) {r q : Reader} → q ≡ r → length piece ≤ i → i ≤ length piece → (d : Desk) {o : Replaying}
    → fed_piece (replay_on d r (fed + i)) (drop i piece) ≡ o → replay_on d q (fed + length piece) ≡ o
ends_as piece fed i {r} e h k d p = ap (λ (z : Reader). replay_on d z (fed + length piece)) e ∙ ends piece fed i r h k d p

-- ---- its start

pub begun-inside : (p : Place) → Unbroken p → is_begun p ≡ true → Inside p
begun-inside Kind u e = absurd (true≢false (sym e))
begun-inside Code u e = hit within 1 tt
begun-inside Upper u e = hit within 2 tt
begun-inside Lower u e = hit within 3 tt
begun-inside FromDispenser u e = hit within 4 tt
begun-inside Milliseconds u e = hit within 5 tt
begun-inside FromValidator u e = hit within 6 tt
begun-inside ToValidator u e = hit within 7 tt
begun-inside (Broken why) u e = absurd u

due : (p : Place) → is_begun p ≡ false → p ≡ Kind
due Kind e = refl
due Code e = absurd (true≢false e)
due Upper e = absurd (true≢false e)
due Lower e = absurd (true≢false e)
due FromDispenser e = absurd (true≢false e)
due Milliseconds e = absurd (true≢false e)
due FromValidator e = absurd (true≢false e)
due ToValidator e = absurd (true≢false e)
due (Broken why) e = absurd (true≢false e)

-- where a kind is due, nothing else of the reader counts
due-byte : (r : Reader) (at b : ℕ) → r.place ≡ Kind → taken_byte r at b ≡ taken_byte fresh_reader at b
unfolding taken_byte read_byte
due-byte r at b e = rw e

after-other : (o : Outcome) (q r z : Reader) (d : Desk) (n : ℕ) → after_byte o q (replay_on d r n) ≡ after_byte o q (replay_on d z n)
after-other More q r z d n = refl
after-other (ByteWhole x) q r z d n = refl
after-other (Err x) q r z d n = refl

pub begins : (w : Replaying) (piece : List ℕ) → 0 < length piece
    → fed_piece (replay_on w.desk (cond (is_begun w.reader.place) w.reader fresh_reader) (w.fed + 0)) piece ≡ fed_piece w piece
begins w [] h = absurd (omega (arith, h))
begins w (b ∷ s) h =
    let z : w.fed + 0 ≡ w.fed = omega arith in
    ap (λ (n : ℕ). fed_piece (replay_on w.desk (cond (is_begun w.reader.place) w.reader fresh_reader) n) (b ∷ s)) z
    ∙ by (is_begun w.reader.place) refl
  where
    by : (t : Bool) → is_begun w.reader.place ≡ t → fed_piece (replay_on w.desk (cond t w.reader fresh_reader) w.fed) (b ∷ s) ≡ fed_piece w (b ∷ s)
    by true e = refl
    by false e =
        fed-cons (replay_on w.desk fresh_reader w.fed) b s
        ∙ ap (λ (v : Replaying). fed_piece v s)
        (fed-step w.desk fresh_reader w.fed b (taken_byte w.reader w.fed b) (sym (due-byte w.reader w.fed b (due w.reader.place e)))
        ∙ after-other (taken_byte w.reader w.fed b).outcome (taken_byte w.reader w.fed b).reader fresh_reader w.reader w.desk w.fed
        ∙ sym (fed-step w.desk w.reader w.fed b (taken_byte w.reader w.fed b) refl))
        ∙ sym (fed-cons w b s)

-- ---- the limit

past-step : (p : Place) (r : Reader) (at : ℕ) → at ≡ most_bytes → (d : Desk) (n : ℕ)
    → after_byte (past_step p r at).outcome (past_step p r at).reader (replay_on d r n) ≡ past_in p r.start
past-step Kind r at e d n = ap (broken_at Long) e
past-step Code r at e d n = ap (broken_at Long) e
past-step Upper r at e d n = ap (broken_at Long) e
past-step Lower r at e d n = ap (broken_at Long) e
past-step FromDispenser r at e d n = ap (broken_at Long) e
past-step Milliseconds r at e d n = ap (broken_at Long) e
past-step FromValidator r at e d n = ap (broken_at Long) e
past-step ToValidator r at e d n = ap (broken_at Long) e
past-step (Broken why) r at e d n = refl

stays-past : (p : Place) (at : ℕ) (s : List ℕ) → fed_piece (past_in p at) s ≡ past_in p at
stays-past Kind at s = broken-stays s Long most_bytes
stays-past Code at s = broken-stays s Long most_bytes
stays-past Upper at s = broken-stays s Long most_bytes
stays-past Lower at s = broken-stays s Long most_bytes
stays-past FromDispenser at s = broken-stays s Long most_bytes
stays-past Milliseconds at s = broken-stays s Long most_bytes
stays-past FromValidator at s = broken-stays s Long most_bytes
stays-past ToValidator at s = broken-stays s Long most_bytes
stays-past (Broken why) at s = broken-stays s why at

-- bytes where as many were fed as a recording may have, or where a fault was met
pub all_past : (w : Replaying) (s : List ℕ) → w.fed ≡ most_bytes → 0 < length s → past_limit w ≡ fed_piece w s
all_past w [] e h = absurd (omega (arith, h))
all_past w (b ∷ s) e h =
    sym (stays-past w.reader.place w.reader.start s)
    ∙ ap (λ (v : Replaying). fed_piece v s)
    (sym (past-step w.reader.place w.reader w.fed e w.desk w.fed)
    ∙ sym (fed-step w.desk w.reader w.fed b (past_step w.reader.place w.reader w.fed) (taken-past w.reader w.fed b (omega (arith, e)))))
    ∙ sym (fed-cons w b s)

-- past the limit, where no fault was met
pub past-unbroken : (p : Place) (at : ℕ) → OneOf (0 ∷ within) (tag_of the-place p) → broken_at Long most_bytes ≡ past_in p at
past-unbroken Kind at h = refl
past-unbroken Code at h = refl
past-unbroken Upper at h = refl
past-unbroken Lower at h = refl
past-unbroken FromDispenser at h = refl
past-unbroken Milliseconds at h = refl
past-unbroken FromValidator at h = refl
past-unbroken ToValidator at h = refl
past-unbroken (Broken why) at h = absurd (miss (0 ∷ within) 8 tt h)

pub unbroken : (p : Place) → OneOf (0 ∷ within) (tag_of the-place p) → Unbroken p
unbroken Kind h = tt
unbroken Code h = tt
unbroken Upper h = tt
unbroken Lower h = tt
unbroken FromDispenser h = tt
unbroken Milliseconds h = tt
unbroken FromValidator h = tt
unbroken ToValidator h = tt
unbroken (Broken why) h = absurd (miss (0 ∷ within) 8 tt h)

-- a byte after a fault says that fault
broken-byte : (r : Reader) (at b : ℕ) {why : Fault} → r.place ≡ Broken why → taken_byte r at b ≡ refused_at r.start why
unfolding taken_byte read_byte
broken-byte r at b {why} e = rw e (by (leb most_bytes at))
  where
    by : (t : Bool) → cond t (refused_at r.start why) (refused_at r.start why) ≡ refused_at r.start why
    by true = refl
    by false = refl

pub broken-fed : (w : Replaying) (s : List ℕ) {why : Fault} → w.reader.place ≡ Broken why → 0 < length s → broken_at why w.reader.start ≡ fed_piece w s
broken-fed w [] e h = absurd (omega (arith, h))
broken-fed w (b ∷ s) {why} e h =
    sym (broken-stays s why w.reader.start)
    ∙ ap (λ (v : Replaying). fed_piece v s) (sym (fed-step w.desk w.reader w.fed b (refused_at w.reader.start why) (broken-byte w.reader w.fed b e)))
    ∙ sym (fed-cons w b s)

-- ---- the reader

-- no kind is due
pub past-kind : (p : Place) → (p ≡ Kind → ⊥) → OneOf (1 ∷ 2 ∷ 3 ∷ 4 ∷ 5 ∷ 6 ∷ 7 ∷ 8 ∷ []) (tag_of the-place p)
past-kind Kind h = absurd (h refl)
past-kind Code h = hit (1 ∷ 2 ∷ 3 ∷ 4 ∷ 5 ∷ 6 ∷ 7 ∷ 8 ∷ []) 1 tt
past-kind Upper h = hit (1 ∷ 2 ∷ 3 ∷ 4 ∷ 5 ∷ 6 ∷ 7 ∷ 8 ∷ []) 2 tt
past-kind Lower h = hit (1 ∷ 2 ∷ 3 ∷ 4 ∷ 5 ∷ 6 ∷ 7 ∷ 8 ∷ []) 3 tt
past-kind FromDispenser h = hit (1 ∷ 2 ∷ 3 ∷ 4 ∷ 5 ∷ 6 ∷ 7 ∷ 8 ∷ []) 4 tt
past-kind Milliseconds h = hit (1 ∷ 2 ∷ 3 ∷ 4 ∷ 5 ∷ 6 ∷ 7 ∷ 8 ∷ []) 5 tt
past-kind FromValidator h = hit (1 ∷ 2 ∷ 3 ∷ 4 ∷ 5 ∷ 6 ∷ 7 ∷ 8 ∷ []) 6 tt
past-kind ToValidator h = hit (1 ∷ 2 ∷ 3 ∷ 4 ∷ 5 ∷ 6 ∷ 7 ∷ 8 ∷ []) 7 tt
past-kind (Broken why) h = hit (1 ∷ 2 ∷ 3 ∷ 4 ∷ 5 ∷ 6 ∷ 7 ∷ 8 ∷ []) 8 tt

pub not-due : (p : Place) → OneOf (1 ∷ 2 ∷ 3 ∷ 4 ∷ 5 ∷ 6 ∷ 7 ∷ 8 ∷ []) (tag_of the-place p) → true ≡ is_begun p
not-due Kind h = absurd (miss (1 ∷ 2 ∷ 3 ∷ 4 ∷ 5 ∷ 6 ∷ 7 ∷ 8 ∷ []) 0 tt h)
not-due Code h = refl
not-due Upper h = refl
not-due Lower h = refl
not-due FromDispenser h = refl
not-due Milliseconds h = refl
not-due FromValidator h = refl
not-due ToValidator h = refl
not-due (Broken why) h = refl

start-in : (p : Place) (r : Reader) {why : Fault} {at : ℕ} → ended_in p r ≡ NotGood why at → at ≡ r.start
start-in Kind r e = let z : ◌≡◌ {A = ℕ} 0 1 = cc in absurd (omega arith)
start-in Code r e = IfErr-at_err (λ x. x.at ≡ r.start) e refl
start-in Upper r e = IfErr-at_err (λ x. x.at ≡ r.start) e refl
start-in Lower r e = IfErr-at_err (λ x. x.at ≡ r.start) e refl
start-in FromDispenser r e = IfErr-at_err (λ x. x.at ≡ r.start) e refl
start-in Milliseconds r e = IfErr-at_err (λ x. x.at ≡ r.start) e refl
start-in FromValidator r e = IfErr-at_err (λ x. x.at ≡ r.start) e refl
start-in ToValidator r e = IfErr-at_err (λ x. x.at ≡ r.start) e refl
start-in (Broken why) r e = IfErr-at_err (λ x. x.at ≡ r.start) e refl

pub ended-start : (r : Reader) {why : Fault} {at : ℕ} → ended r ≡ NotGood why at → at ≡ r.start
unfolding ended
ended-start r e = start-in r.place r e

after-cons : (r : Reader) (p b : ℕ) (s : List ℕ) → reader_after r p (b ∷ s) ≡ reader_after (taken_byte r p b).reader (suc p) s
unfolding reader_after
after-cons r p b s = refl

after-nil : (r : Reader) (p : ℕ) → reader_after r p [] ≡ r
unfolding reader_after
after-nil r p = refl

pub after-end : (r : Reader) (p : ℕ) (s : List ℕ) (i : ℕ) → length s ≤ i → reader_after r p (drop i s) ≡ r
after-end r p s i h = ap (reader_after r p) (drop_of_length-le s h) ∙ after-nil r p

pub after_one : (r : Reader) (p : ℕ) (s : List ℕ) (i : ℕ) → i < length s → (t : Step) → t ≡ taken_byte r p (get_or s i 0)
    → reader_after t.reader (p + 1) (drop (i + 1) s) ≡ reader_after r p (drop i s)
after_one r p s i h t e =
    ap (λ (x : Step). reader_after x.reader (p + 1) (drop (i + 1) s)) e
    ∙ rw (add-one p, add-one i) (sym (after-cons r p (get_or s i 0) (drop (suc i) s)))
    ∙ ap (reader_after r p) (sym (drop-cons s i 0 h))

-- ---- the part of a piece within the limit

pub part_length : (s : List ℕ) (n : ℕ) → n ≤ length s → length (take (n - 0) s) ≡ n
part_length s n h = let e : n - 0 ≡ n = omega arith in ap (λ (k : ℕ). length (take k s)) e ∙ length-take-le n s h

pub some-part : {a b r : ℕ} → Least a b r → 0 < a → 0 < b → 0 < r
some-part {a} {b} {r} l h k = by_cases (under r a) (λ m. omega (arith, l.other m)) (λ m. omega arith)

pub whole_part : (w : Replaying) (s : List ℕ) (n : ℕ) {v : Replaying} → n ≡ length s → v ≡ fed_piece w (take (n - 0) s) → v ≡ fed_piece w s
whole_part w s n e f = f ∙ ap (fed_piece w) (take_all (n - 0) s (omega (arith, e)))

-- as many bytes more, or a fault was met
abbrev Fed : Replaying → ℕ → Type 0
Fed w n = (w.fed ≡ n) ⊎ ((why : Fault) × (w.reader.place ≡ Broken why))

fed-broken : (why : Fault) (at : ℕ) (s : List ℕ) (n : ℕ) → Fed (fed_piece (broken_at why at) s) n
unfolding broken_at
fed-broken why at s n = inr (why, ap (λ (w : Replaying). w.reader.place) (broken-stays s why at))

fed-after : (s : List ℕ) (w : Replaying) → ((v : Replaying) → Fed (fed_piece v s) (v.fed + length s)) → (o : Outcome) (q : Reader)
    → Fed (fed_piece (after_byte o q w) s) (w.fed + suc (length s))
fed-after s w later More q =
    let e : w.fed + 1 + length s ≡ w.fed + suc (length s) = omega arith in
    subst (Fed (fed_piece (after_byte More q w) s)) e (later (after_byte More q w))
fed-after s w later (ByteWhole x) q =
    let e : w.fed + 1 + length s ≡ w.fed + suc (length s) = omega arith in
    subst (Fed (fed_piece (after_byte (ByteWhole x) q w) s)) e (later (after_byte (ByteWhole x) q w))
fed-after s w later (Err x) q = fed-broken x.fault x.at s (w.fed + suc (length s))

fed-count : (s : List ℕ) (w : Replaying) → Fed (fed_piece w s) (w.fed + length s)
unfolding fed_byte
fed-count [] w = inl (ap (λ (v : Replaying). v.fed) (fed-nil w) ∙ omega arith)
fed-count (b ∷ s) w =
    subst (λ (v : Replaying). Fed v (w.fed + suc (length s))) (sym (fed-cons w b s))
    (fed-after s w (fed-count s) (taken_byte w.reader w.fed b).outcome (taken_byte w.reader w.fed b).reader)

-- the rest is past the limit
past-rest : (v : Replaying) (s : List ℕ) → Fed v most_bytes → 0 < length s → past_limit v ≡ fed_piece v s
past-rest v s (inl e) h = all_past v s e h
past-rest v s (inr b) h = ap (λ (p : Place). past_in p v.reader.start) b.1 ∙ broken-fed v s b.1 h

pub past-part : (w : Replaying) (s : List ℕ) (n : ℕ) {v u : Replaying} → v ≡ fed_piece w (take (n - 0) s) → u ≡ past_limit v → w.fed + n ≡ most_bytes → n < length s
    → u ≡ fed_piece w s
past-part w s n {v} {u} f g e h =
    let z : n - 0 ≡ n = omega arith in
    let t : v ≡ fed_piece w (take n s) = f ∙ ap (λ (k : ℕ). fed_piece w (take k s)) z in
    let m : w.fed + length (take n s) ≡ most_bytes = omega (arith, length-take-le n s (omega (arith, h)), e) in
    g
    ∙ ap past_limit t
    ∙ past-rest (fed_piece w (take n s)) (drop n s) (subst (Fed (fed_piece w (take n s))) m (fed-count (take n s) w)) (simp length-drop (omega (arith, h)))
    ∙ sym (fed-append (take n s) (drop n s) w)
    ∙ ap (fed_piece w) (take-append-drop n s)

pub empty-fed : (w : Replaying) (s : List ℕ) → length s ≡ 0 → w ≡ fed_piece w s
empty-fed w [] e = sym (fed-nil w)
empty-fed w (b ∷ s) e = absurd (omega (arith, e))

pub replays : (s : List ℕ) {w v : Replaying} {f : Findings} → w ≡ fresh_replay → v ≡ fed_piece w s → f ≡ ended_replay v → f ≡ replay_of s
unfolding replay_of
replays s e₁ e₂ e₃ = e₃ ∙ ap ended_replay (e₂ ∙ ap (λ (w : Replaying). fed_piece w s) e₁)

-- ---- counting

pub eq-le : {a b : ℕ} → a ≡ b → a ≤ b
eq-le e = omega (arith, e)

pub counts : (d d' : Desk) (x : Record) → d' ≡ given d x → (d'.records ≡ d.records + 1) × (d'.declined ≤ d.declined + 1)
counts d d' x e =
    (ap (λ (y : Desk). y.records) e ∙ (given-counts d x).0, subst (λ (y : Desk). y.declined ≤ d.declined + 1) (sym e) (given-counts d x).1)

-- ---- the parts

pub joins : (r : Run) {a b : Shelf} {bs cs : List Bills} (store store255 table : List ℕ) → a ≡ b → bs ≡ cs → joined r a bs store store255 table ≡ joined r b cs store store255 table
joins r store store255 table e f = ap₂ (λ x y. joined r x y store store255 table) e f

-- what was written down is in its slot, or nowhere
pub in-slot : (ks : List KeptRequest) (w : Written) → w.slot < 32 → set ks w.slot w.request ≡ slots_after ks w
in-slot ks w h = rw (lt-ltb w.slot 32 h)

pub no_slot : (ks : List KeptRequest) (w : Written) → 32 ≤ w.slot → ks ≡ slots_after ks w
no_slot ks w h = rw (le-ltb w.slot 32 h)

-- the books and the slots after a record
pub shelved : (b b' : Books) (ks ks' : List KeptRequest) (c : Asked) (n : ℕ) (e : Entry) (w : Written) → b' ≡ booked b c e → w ≡ written_of b'.place c n e
    → ks' ≡ slots_after ks w → shelf b' ks' ≡ entered (shelf b ks) c n e
unfolding entered
shelved b b' ks ks' c n e w p q r =
    ap (shelf b') (r ∙ ap (slots_after ks) q) ∙ ap (λ (x : Books). shelf x (slots_after ks (written_of x.place c n e))) p

-- a record that credits no bill leaves the bills as they were
pub no-bill : (bs : List Bills) (y : Option ℕ) → is_some y ≡ false → bs ≡ booked_by bs y
unfolding booked_by
no-bill bs no_bill h = refl
no-bill bs (a_bill y) h = absurd (true≢false h)
