-- Replaying what was written down gives the desk that wrote it: after each record, after any, and after a recording was taken up again. Assumes nothing.
use Prim.Native.Nat.{ℕ, zero, suc, ◌+◌, ◌/◌, ◌%◌, ◌≤◌, ◌<◌}
use mathlib.Core.Path.{◌≡◌, refl, sym, ap, ap₂, ◌∙◌, subst}
use mathlib.Core.List.{List, [], ◌∷◌, ◌++◌, append_assoc, append-nil}
use mathlib.Core.Logic.{inl, ⊎_elim, ◌↔◌}
use native.Mathlib.Nat.{le_refl, zero-add}
use native.Mathlib.Omega.{arith}
use lib.ListN.{length, take, drop, length-append, drop_of_length-le}
use lib.Seq.{take-append-le, take_all}
use types.Run.{miss}
use Rattle.refusals.specs.Numbers.{too_long}
use Rattle.refusals.specs.Rules.{under, at_most}
use Rattle.refusals.specs.Put.{written}
use Rattle.refusals.specs.Put.{Put}
use Rattle.refusals.specs.Put.{Bytes as Laid, Refused as NotLaid}
use Rattle.refusals.specs.declared.Refusal.TheVariants.{Room, Range}
use Rattle.refusals.proofs.Rules.{holds-true, fails-false, by_cases, certain, cond-true, cond-false}
use Rattle.refusals.proofs.Writing.{done-laid, take-over}
use Rattle.numbers.specs.Promises.{AllBytes}
use Rattle.numbers.specs.Seven.{groups}
use Rattle.numbers.proofs.Groups.{groups-small, groups-large}
use Rattle.recording.specs.Record.{most_bytes, kind_of, numbers_of, laid_numbers, record_bytes, InRange}
use Rattle.recording.specs.Reading.{fresh_reader, read_byte, taken_byte, ended}
use Rattle.recording.specs.Taking.{found_at}
use Rattle.recording.specs.declared.Fault.{Fault}
use Rattle.recording.specs.declared.Place.{Place}
use Rattle.recording.specs.declared.Place.TheVariants.{Kind, Code, Upper, Lower, FromDispenser, Milliseconds, FromValidator, ToValidator, Broken}
use Rattle.recording.specs.declared.Reader.{Reader}
use Rattle.recording.specs.declared.Record.{Record}
use Rattle.recording.specs.declared.Record.TheVariants.{Request, DispenserByte, Tick, ValidatorByte, Command, Clear}
use Rattle.recording.specs.declared.Step.{Step}
use Rattle.recording.specs.NextRecord.{Whole}
use Rattle.recording.proofs.Back.{length-record}
use Rattle.recording.proofs.Exact.{taken-at-once}
use Rattle.recording.proofs.Folds.{taken-before}
use Rattle.recording.proofs.Limit.{past-faulty}
use Rattle.recording.proofs.Pieces.{due-in-piece}
use Rattle.recording.proofs.Places.{within, Inside}
use Rattle.recording.proofs.Starts.{Held, begun, complete, faulty, held-byte, held-kind}
use Rattle.recording.proofs.Trips.{laid_more, laid_none}
use Rattle.record_writer.specs.Writing.{is_taken, record_refusals, write_record}
use Rattle.grading_rules.specs.Replay.{fresh_desk, given, told}
use Rattle.grading_rules.specs.Feeding.{fresh_replay, broken_at, after_byte, fed_piece, ended_replay, replay_of}
use Rattle.grading_rules.specs.Promises.{Counted}
use Rattle.grading_rules.specs.declared.desk.Desk.{Desk}
use Rattle.grading_rules.specs.declared.desk.Replaying.{Replaying}
use Rattle.grading_rules.proofs.Cuts.{fed-nil, fed-cons, fed-append, fed-step, broken-stays, counted-fed, stays-counted}
use Rattle.grading_rules.proofs.Taken.{at-hand, whole-given}
use Rattle.live_rules.specs.Live.{lived_by}
use Rattle.live_rules.specs.Entering.{entry_number, is_full, Noted, noted, as_entry, noted_by, lived_as, entered_by, whole_in, whole_bytes}
use Rattle.live_rules.specs.Promises.{Call, Work, grown, longer, worked, works, fresh_work, Replays, LiveIsReplay}
use Rattle.live_rules.specs.Entry.{Entry}
use Rattle.live_rules.specs.Entry.{Bytes, Refused, Full}

-- ---- the bytes of a record

bytes-none : AllBytes []
bytes-none i = omega arith

bytes-cons : (b : ℕ) (s : List ℕ) → b < 256 → AllBytes s → AllBytes (b ∷ s)
bytes-cons b s l h zero = l
bytes-cons b s l h (suc i) = h i

bytes-append : (a b : List ℕ) → AllBytes a → AllBytes b → AllBytes (a ++ b)
bytes-append [] b h k = k
bytes-append (c ∷ a) b h k = bytes-cons c (a ++ b) (h 0) (bytes-append a b (λ i. h (suc i)) k)

bytes-groups : (f n : ℕ) → n ≤ f → AllBytes (groups n)
bytes-groups zero n l = subst AllBytes (sym (groups-small n (omega arith))) (bytes-cons n [] (omega arith) bytes-none)
bytes-groups (suc f) n l =
    by_cases (under n 128)
    (λ h. subst AllBytes (sym (groups-small n h)) (bytes-cons n [] (omega (arith, h)) bytes-none))
    (λ h.
    subst AllBytes (sym (groups-large n (omega arith)))
    (bytes-cons (n % 128 + 128) (groups (n / 128)) (omega arith) (bytes-groups f (n / 128) (omega arith))))

bytes-numbers : (ns : List ℕ) → AllBytes (laid_numbers ns)
bytes-numbers [] = subst AllBytes (sym laid_none) bytes-none
bytes-numbers (n ∷ ns) = subst AllBytes (sym (laid_more n ns)) (bytes-append (groups n) (laid_numbers ns) (bytes-groups n n (le_refl n)) (bytes-numbers ns))

kind-byte : (x : Record) → kind_of x < 256
kind-byte (Request code upper lower) = omega arith
kind-byte (DispenserByte b) = omega arith
kind-byte (Tick ms) = omega arith
kind-byte (ValidatorByte b) = omega arith
kind-byte (Command code) = omega arith
kind-byte Clear = omega arith

bytes-record : (x : Record) → AllBytes (record_bytes x)
unfolding record_bytes
bytes-record x = bytes-cons (kind_of x) (laid_numbers (numbers_of x)) (kind-byte x) (bytes-numbers (numbers_of x))

-- a record that is fed where one is due is given to its session, and the next one is due
fed-record : (x : Record) → InRange x → (d : Desk) (n : ℕ) → n + length (record_bytes x) ≤ most_bytes
    → fed_piece (at-hand d fresh_reader n) (record_bytes x) ≡ at-hand (given d x) fresh_reader (n + length (record_bytes x))
fed-record x i d n l =
    let s = record_bytes x in
    let some : 0 < length s = omega (arith, length-record x) in
    let none : drop (length s) s ≡ [] = drop_of_length-le s (le_refl (length s)) in
    let stands : s ≡ s ++ drop (0 + length s) s = sym (append-nil s) ∙ ap (λ (t : List ℕ). s ++ t) (sym none ∙ ap (λ (k : ℕ). drop k s) (sym (zero-add (length s)))) in
    let found : found_at s 0 ≡ Whole x (length s) = (taken-at-once.whole s 0 (bytes-record x) some x (length s)).1 (i, refl, stands) in
    (whole-given d n fresh_reader n s l x (length s) (due-in-piece s 0 n (found_at s 0) some refl) found).leaves
    ∙ ap (fed_piece (at-hand (given d x) fresh_reader (n + length s))) none
    ∙ fed-nil (at-hand (given d x) fresh_reader (n + length s))

-- ---- a call

abbrev kept : Work → Call → Noted → Work
kept k c n =
    record {
      desk = (lived_as n.entry k.desk c.given c.room c.room255).desk;
      written = longer n.entry k.written;
      recording = grown n.entry n.out k.recording;
    }

module _ (k : Work) (h : Replays k) (c : Call) where
  entered-replays : (fits : k.written + length (record_bytes c.given) ≤ most_bytes) (p : Put) (o : List ℕ) → write_record c.given c.out ≡ written p o
      → Replays (kept k c (noted (as_entry p) o))
  unfolding write_record record_refusals lived_by
  entered-replays fits (Laid n) o e =
      let x = c.given in
      let w = done-laid (record_refusals x c.out) (record_bytes x) c.out n o e in
      let bytes : take n o ≡ record_bytes x = ap₂ take w.put w.left ∙ take-over (record_bytes x) c.out in
      fed-append k.recording (take n o) fresh_replay
      ∙ ap₂ fed_piece h bytes
      ∙ fed-record x (c.below, certain (is_taken x) w.none.1.0) k.desk k.written fits
      ∙ ap (λ (z : ℕ). at-hand (given k.desk x) fresh_reader (k.written + z)) (sym w.put)
  entered-replays fits (NotLaid why) o e = h

  call-replays : Replays (worked k c)
  unfolding worked entered_by noted_by is_full
  call-replays =
      let full = is_full k.written k.desk.records k.desk.declined (length (record_bytes c.given)) in
      by_cases full
      (λ y. subst (λ (z : Noted). Replays (kept k c z)) (sym (cond-true _ _ (holds-true full y))) h)
      (λ y.
      subst (λ (z : Noted). Replays (kept k c z)) (sym (cond-false _ _ (fails-false full y)))
      (entered-replays (certain (at_most _ _) (λ u. y (inl (omega arith)))) (write_record c.given c.out).answer _ refl))

calls-replay : (cs : List Call) (k : Work) → Replays k → Replays (works k cs)
unfolding works
calls-replay [] k h = h
calls-replay (c ∷ cs) k h = calls-replay cs (worked k c) (call-replays k h c)

-- ---- bytes that were replayed: a record is due, or one is begun, and the recording up to it leaves the same desk; or a fault shows

data On (s : List ℕ) : Replaying → Type 0 where
  due : (d : Desk) → On s (at-hand d fresh_reader (length s))
  inside : (d : Desk) (r : Reader) → Inside r.place → r.start ≤ length s → fed_piece fresh_replay (take r.start s) ≡ at-hand d fresh_reader r.start
      → On s (at-hand d r (length s))
  broken : (why : Fault) (at : ℕ) → On s (broken_at why at)

-- one byte more, of which the step is t
on_step : (s : List ℕ) (b : ℕ) (d : Desk) (r : Reader) (o : ℕ) (t : Step) → taken_byte r (length s) b ≡ t → Held o t → o ≤ length s
    → fed_piece fresh_replay (take o s) ≡ at-hand d fresh_reader o → On (s ++ (b ∷ [])) (fed_piece (at-hand d r (length s)) (b ∷ []))
on_step s b d r o t e g l h =
    subst (On (s ++ (b ∷ []))) (sym (fed-cons (at-hand d r (length s)) b [] ∙ fed-nil _ ∙ fed-step d r (length s) b t e)) (by t g)
  where
    size : length (s ++ (b ∷ [])) ≡ length s + 1
    size = length-append s (b ∷ [])

    by : (y : Step) → Held o y → On (s ++ (b ∷ [])) (after_byte y.outcome y.reader (at-hand d r (length s)))
    by y (begun q i f) =
        subst (λ (n : ℕ). On (s ++ (b ∷ [])) (at-hand d q n)) size
        (inside d q i (omega (arith, f, size))
        (ap (fed_piece fresh_replay) (take-append-le q.start s (b ∷ []) (omega (arith, f)) ∙ ap (λ (n : ℕ). take n s) f) ∙ h ∙ ap (at-hand d fresh_reader) (sym f)))
    by y (complete x) = subst (λ (n : ℕ). On (s ++ (b ∷ [])) (at-hand (given d x) fresh_reader n)) size (due (given d x))
    by y (faulty {why} a) = broken why o

on-byte : (s : List ℕ) (b : ℕ) (w : Replaying) → fed_piece fresh_replay s ≡ w → On s w → On (s ++ (b ∷ [])) (fed_piece w (b ∷ []))
on-byte s b w e (broken why at) = subst (On (s ++ (b ∷ []))) (sym (broken-stays (b ∷ []) why at)) (broken why at)
on-byte s b w e (due d) =
    by_cases (at_most most_bytes (length s))
    (λ l.
    let x = past-faulty fresh_reader (length s) b l in
    subst (On (s ++ (b ∷ []))) (sym (fed-cons _ b [] ∙ fed-nil _ ∙ fed-step d fresh_reader (length s) b _ x.1.1)) (broken x.1.0 x.0))
    (λ l.
    on_step s b d fresh_reader (length s) (read_byte fresh_reader (length s) b) (taken-before fresh_reader (length s) b (omega arith)) (held-kind (length s) b)
    (le_refl (length s)) (ap (fed_piece fresh_replay) (take_all (length s) s (le_refl (length s))) ∙ e))
on-byte s b w e (inside d r i l h) =
    by_cases (at_most most_bytes (length s))
    (λ m.
    let x = past-faulty r (length s) b m in
    subst (On (s ++ (b ∷ []))) (sym (fed-cons _ b [] ∙ fed-nil _ ∙ fed-step d r (length s) b _ x.1.1)) (broken x.1.0 x.0))
    (λ m. on_step s b d r r.start (read_byte r (length s) b) (taken-before r (length s) b (omega arith)) (held-byte r (length s) b i refl) l h)

on-more : (t s : List ℕ) → On s (fed_piece fresh_replay s) → On (s ++ t) (fed_piece fresh_replay (s ++ t))
on-more [] s h = subst (λ (u : List ℕ). On u (fed_piece fresh_replay u)) (sym (append-nil s)) h
on-more (b ∷ t) s h =
    subst (λ (u : List ℕ). On u (fed_piece fresh_replay u)) (append_assoc s (b ∷ []) t)
    (on-more t (s ++ (b ∷ [])) (subst (On (s ++ (b ∷ []))) (sym (fed-append s (b ∷ []) fresh_replay)) (on-byte s b (fed_piece fresh_replay s) refl h)))

on-first : On [] (fed_piece fresh_replay [])
unfolding fresh_replay
on-first = subst (On []) (sym (fed-nil (at-hand fresh_desk fresh_reader 0))) (due fresh_desk)

on-fed : (s : List ℕ) → On s (fed_piece fresh_replay s)
on-fed s = on-more s [] on-first

-- ---- what is left to go on with

inside-whole : (p : Place) → Inside p → (start fed : ℕ) → whole_in p start fed ≡ start
inside-whole Kind i start fed = absurd (miss within 0 tt i)
inside-whole Code i start fed = refl
inside-whole Upper i start fed = refl
inside-whole Lower i start fed = refl
inside-whole FromDispenser i start fed = refl
inside-whole Milliseconds i start fed = refl
inside-whole FromValidator i start fed = refl
inside-whole ToValidator i start fed = refl
inside-whole (Broken why) i start fed = refl

resumes : (s : List ℕ) (w : Replaying) → fed_piece fresh_replay s ≡ w → ((why : Fault) (at : ℕ) → w ≡ broken_at why at → ⊥) → On s w
    → fed_piece fresh_replay (take (whole_bytes w.reader w.fed) s) ≡ at-hand w.desk fresh_reader (whole_bytes w.reader w.fed)
unfolding whole_bytes
resumes s w e h (due d) = ap (fed_piece fresh_replay) (take_all (length s) s (le_refl (length s))) ∙ e
resumes s w e h (inside d r i l k) =
    let f = inside-whole r.place i r.start (length s) in
    ap (λ (n : ℕ). fed_piece fresh_replay (take n s)) f ∙ k ∙ ap (at-hand d fresh_reader) (sym f)
resumes s w e h (broken why at) = absurd (h why at refl)

-- ---- its size

size_of : (s : List ℕ) (w : Replaying) (d : Desk) (n : ℕ) → w ≡ at-hand d fresh_reader n → On s w → n ≡ length s
unfolding broken_at
size_of s w d n e (due y) = sym (ap (λ (v : Replaying). v.fed) e)
size_of s w d n e (inside y r i l h) = sym (ap (λ (v : Replaying). v.fed) e)
size_of s w d n e (broken why at) =
    let p : Broken why ≡ Kind = ap (λ (v : Replaying). v.reader.place) e in
    let z : ◌≡◌ {A = ℕ} 0 1 = cc in absurd (omega arith)

-- ---- the limit

module _ (k : Work) (h : Replays k) (c : Call) where
  counted : Counted (at-hand k.desk fresh_reader k.written)
  counted = subst Counted h (counted-fed k.recording fresh_replay stays-counted.at_first)

  not_full : (p : Put) → as_entry p ≡ Full → ⊥
  not_full (Laid n) e = let z : ◌≡◌ {A = ℕ} 0 1 = cc in omega arith
  not_full (NotLaid why) e = let z : ◌≡◌ {A = ℕ} 0 1 = cc in omega arith

  full-when : ((noted_by k.written k.desk.records k.desk.declined c.given c.out).entry ≡ Full)
      ↔ (most_bytes < k.written + length (record_bytes c.given))
  unfolding noted_by is_full
  full-when =
      let full = is_full k.written k.desk.records k.desk.declined (length (record_bytes c.given)) in
      let some = length-record c.given in (
        λ e.
            by_cases full
            (⊎_elim (λ y. y) (⊎_elim (λ y. omega (arith, counted.records_most, some)) (λ y. omega (arith, counted.records_most, counted.declined_most, some))))
            (λ y. absurd (not_full (write_record c.given c.out).answer (ap (λ (z : Noted). z.entry) (sym (cond-false _ _ (fails-false full y))) ∙ e))),
        λ l. ap (λ (z : Noted). z.entry) (cond-true _ _ (holds-true full (inl l))),
      )

  -- no other answer has its number
  numbered-full : (e : Entry) → entry_number e ≡ too_long → e ≡ Full
  numbered-full (Bytes n) p = absurd (omega (arith, p))
  numbered-full (Refused Room) p = absurd (omega (arith, p))
  numbered-full (Refused Range) p = absurd (omega (arith, p))
  numbered-full Full p = refl

  long-when : (entry_number (noted_by k.written k.desk.records k.desk.declined c.given c.out).entry ≡ too_long)
      ↔ (most_bytes < k.written + length (record_bytes c.given))
  long-when = (λ p. full-when.0 (numbered-full _ p), λ l. ap entry_number (full-when.1 l))

-- ---- all of it

fresh-replays : Replays fresh_work
unfolding fresh_replay
fresh-replays = fed-nil (at-hand fresh_desk fresh_reader 0)

reports : (k : Work) → Replays k → replay_of k.recording ≡ told k.desk
unfolding replay_of ended_replay ended
reports k h = ap ended_replay h

pub live-is-replay : LiveIsReplay
live-is-replay =
    record {
      at_first = fresh-replays;
      taken_up = λ s h. resumes s (fed_piece fresh_replay s) refl h (on-fed s);
      after = λ k cs h. calls-replay cs k h;
      reported = reports;
      size = λ k h. size_of k.recording (fed_piece fresh_replay k.recording) k.desk k.written h (on-fed k.recording);
      full = λ k c h. full-when k h c;
      numbered = λ k c h. long-when k h c;
    }
