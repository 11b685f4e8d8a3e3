-- From one record to the next: what is found where a record is due is what the recording says there, and then it goes on between records.
-- Assumes nothing.
use Prim.Native.Nat.{ℕ, zero, suc, ◌+◌, ◌%◌, ◌≤◌, ◌<◌}
use mathlib.Core.Path.{◌≡◌, refl, sym, ap, ◌∙◌, subst}
use mathlib.Core.Bool.{Bool, true, false, cond}
use mathlib.Core.List.{List, [], ◌∷◌, ◌++◌}
use native.Mathlib.Omega.{arith}
use lib.ListN.{length, take, drop, length-drop, take-append-drop}
use lib.Seq.{drop-drop}
use types.Run.{hit, miss}
use Rattle.refusals.specs.Rules.{Condition, under, isnt, judged, ◌gives◌}
use Rattle.std.proofs.lemmas.Result.{IfOk-at_ok}
use Rattle.numbers.specs.Seven.{number_end, next_group}
use Rattle.numbers.specs.Grouped.{Group}
use Rattle.numbers.specs.Grouped.{More as OneMore, Last, Wrong}
use Rattle.dispenser_frame_rules.specs.Table.{known}
use Rattle.recording.specs.Record.{in_list}
use Rattle.recording.specs.Reading.{Reading, bad, fresh_reader, awaiting, grown, next_number, more, whole, refused_at, refused, kind_byte, numbered, request_read, byte_read, command_read, group_read, grouped, read_byte, also, went, closing, reading_from}
use Rattle.recording.specs.Promises.{AtOnce, bad-number, unknown}
use Rattle.recording.specs.Taking.{settled, found_from, found_at}
use Rattle.recording.specs.declared.Fault.{Fault}
use Rattle.recording.specs.declared.Fault.TheVariants.{Cut, Unknown}
use Rattle.recording.specs.declared.Record.{Record}
use Rattle.recording.specs.declared.Record.TheVariants.{Request, DispenserByte, Tick, ValidatorByte, Command, Clear}
use Rattle.recording.specs.declared.Place.{Place}
use Rattle.recording.specs.declared.Place.TheVariants.{Kind, Code, Upper, Lower, FromDispenser, Milliseconds, FromValidator, ToValidator, Broken}
use Rattle.recording.specs.declared.Reader.{Reader}
use Rattle.recording.specs.declared.Step.{Step}
use Rattle.recording.specs.NextRecord.{NextRecord}
use Rattle.recording.specs.NextRecord.{Whole, Bad}
use Rattle.recording.proofs.Places.{within, Inside, begun-byte, begun-ended}
use Rattle.recording.proofs.Folds.{reading-nil, reading-cons}
use Rattle.recording.proofs.Glances.{found-nil, found-step}

-- ---- what a byte of the record that starts at o leaves

pub data Held (o : ℕ) : Step → Type 0 where
  begun : (r : Reader) → Inside r.place → r.start ≡ o → Held o (more r)
  complete : (x : Record) → Held o (whole x)
  faulty : {why : Fault} → AtOnce why → Held o (refused_at o why)

held-either : {o : ℕ} (t : Bool) {x y : Step} → Held o x → Held o y → Held o (cond t x y)
held-either true a b = a
held-either false a b = b

held-refused : {o : ℕ} (r : Reader) {why : Fault} → AtOnce why → r.start ≡ o → Held o (refused r why)
held-refused {o} r {why} f e = subst (λ (p : ℕ). Held o (refused_at p why)) (sym e) (faulty f)

-- a record, unless its value is refused
held-value : {o : ℕ} (c : Condition) (r : Reader) (x : Record) → r.start ≡ o → Held o (judged (c gives Unknown ∷ []) (refused r) (whole x))
held-value c r x e = held-either c.test (held-refused r unknown e) (complete x)

held_number : {o : ℕ} (p : Place) → Inside p → (r : Reader) (n : ℕ) → r.start ≡ o → Held o (numbered p r n)
unfolding request_read byte_read command_read
held_number Kind i r n e = absurd (miss within 0 tt i)
held_number Code i r n e = begun (next_number r n r.upper Upper) (hit within 2 tt) e
held_number Upper i r n e = begun (next_number r r.code n Lower) (hit within 3 tt) e
held_number Lower i r n e = held-value (isnt (known r.code)) r (Request r.code (r.upper % number_end) n) e
held_number FromDispenser i r n e = held-value (under 255 n) r (DispenserByte n) e
held_number Milliseconds i r n e = complete (Tick n)
held_number FromValidator i r n e = held-value (under 255 n) r (ValidatorByte n) e
held_number ToValidator i r n e = held-value (isnt (in_list n)) r (Command n) e
held_number (Broken why) i r n e = absurd (miss within 8 tt i)

held-group : {o : ℕ} (g : Group) (r : Reader) → Inside r.place → r.start ≡ o → Held o (group_read g r)
held-group (OneMore a w) r i e = begun (grown r a w) i e
held-group (Last n) r i e = held_number r.place i r n e
held-group Wrong r i e = held-refused r bad-number e

pub held-byte : {o : ℕ} (r : Reader) (at b : ℕ) → Inside r.place → r.start ≡ o → Held o (read_byte r at b)
unfolding grouped
held-byte {o} r at b i e = subst (Held o) (sym (begun-byte r at b i)) (held-group (next_group r.acc r.weight b) r i e)

-- its kind
pub held-kind : (at b : ℕ) → Held at (read_byte fresh_reader at b)
unfolding read_byte kind_byte
held-kind at zero = begun (awaiting at Code) (hit within 1 tt) refl
held-kind at (suc zero) = begun (awaiting at FromDispenser) (hit within 4 tt) refl
held-kind at (suc (suc zero)) = begun (awaiting at Milliseconds) (hit within 5 tt) refl
held-kind at (suc (suc (suc zero))) = begun (awaiting at FromValidator) (hit within 6 tt) refl
held-kind at (suc (suc (suc (suc zero)))) = begun (awaiting at ToValidator) (hit within 7 tt) refl
held-kind at (suc (suc (suc (suc (suc zero))))) = complete Clear
held-kind at (suc (suc (suc (suc (suc (suc k)))))) = faulty unknown

-- ---- g says what bytes from p on say, and n bytes of the record at a were read: what is found in s

data Leads (a p n : ℕ) (s : List ℕ) (g : List ℕ → Reading) : NextRecord → Type 0 where
  -- the first k bytes of s complete x, whatever follows them
  one : (x : Record) (k : ℕ) → 0 < k → k ≤ length s → ((t : List ℕ) → g (take k s ++ t) ≡ also x (reading_from fresh_reader (p + k) t))
      → Leads a p n s g (Whole x (n + k))
  none : (why : Fault) → g s ≡ bad why a → Leads a p n s g (Bad why)

leads-later : {a p n b : ℕ} {s : List ℕ} {g : List ℕ → Reading} {f : NextRecord} (r : Reader) → ((u : List ℕ) → g (b ∷ u) ≡ reading_from r (suc p) u)
    → Leads a (suc p) (suc n) s (reading_from r (suc p)) f → Leads a p n (b ∷ s) g f
leads-later {a} {p} {n} {b} {s} {g} r c (one x k h l e) =
    let f : n + suc k ≡ suc n + k = omega arith in
    let q : suc p + k ≡ p + suc k = omega arith in
    subst (λ (m : ℕ). Leads a p n (b ∷ s) g (Whole x m)) f
    (one x (suc k) (omega arith) (omega (arith, l)) (λ t. c (take k s ++ t) ∙ e t ∙ ap (λ (i : ℕ). also x (reading_from fresh_reader i t)) q))
leads-later {s} r c (none why e) = none why (c s ∙ e)

leads-byte : {a p n b : ℕ} {s : List ℕ} {g : List ℕ → Reading} (t : Step) → Held a t
    → ((u : List ℕ) → g (b ∷ u) ≡ went t.outcome (reading_from t.reader (suc p) u))
    → ((r : Reader) → Inside r.place → r.start ≡ a → Leads a (suc p) (suc n) s (reading_from r (suc p)) (found_from r (suc p) (suc n) s))
    → Leads a p n (b ∷ s) g (settled t.outcome (suc n) (found_from t.reader (suc p) (suc n) s))
leads-byte t (begun r i e) c later = leads-later r c (later r i e)
leads-byte {a} {p} {n} {b} {s} {g} t (complete x) c later =
    let f : n + 1 ≡ suc n = omega arith in
    let q : suc p ≡ p + 1 = omega arith in
    subst (λ (m : ℕ). Leads a p n (b ∷ s) g (Whole x m)) f
    (one x 1 (omega arith) (omega arith) (λ t. c t ∙ ap (λ (i : ℕ). also x (reading_from fresh_reader i t)) q))
leads-byte {s} t (faulty {why} f) c later = none why (c s)

inside-leads : (s : List ℕ) {a : ℕ} (r : Reader) → Inside r.place → r.start ≡ a → (p n : ℕ) → Leads a p n s (reading_from r p) (found_from r p n s)
inside-leads [] {a} r i e p n =
    subst (Leads a p n [] (reading_from r p)) (sym (found-nil r p n)) (none Cut (reading-nil r p ∙ ap closing (begun-ended r i) ∙ ap (bad Cut) e))
inside-leads (b ∷ s) {a} r i e p n =
    subst (Leads a p n (b ∷ s) (reading_from r p)) (sym (found-step r p n b s (read_byte r p b) refl))
    (leads-byte (read_byte r p b) (held-byte r p b i e) (reading-cons r p b) (λ r' i' e'. inside-leads s r' i' e' (suc p) (suc n)))

due-leads : (s : List ℕ) (a : ℕ) → 0 < length s → Leads a a 0 s (reading_from fresh_reader a) (found_from fresh_reader a 0 s)
due-leads [] a h = absurd (omega (arith, h))
due-leads (b ∷ s) a h =
    subst (Leads a a 0 (b ∷ s) (reading_from fresh_reader a)) (sym (found-step fresh_reader a 0 b s (read_byte fresh_reader a b) refl))
    (leads-byte (read_byte fresh_reader a b) (held-kind a b) (reading-cons fresh_reader a b) (λ r i e. inside-leads s r i e (suc a) 1))

-- ---- in a recording s, at an offset i where a record is due: f is what is found there

-- a record of n bytes, whatever follows them
pub record Stands (s : List ℕ) (i : ℕ) (x : Record) (n : ℕ) : Type 0 where
  pub some : 0 < n
  pub fits : i + n ≤ length s
  pub alone : (t : List ℕ) → reading_from fresh_reader i (take n (drop i s) ++ t) ≡ also x (reading_from fresh_reader (i + n) t)

one-read : (s : List ℕ) (i : ℕ) → i < length s → {x : Record} {n : ℕ} {f : NextRecord} → f ≡ Whole x n
    → Leads i i 0 (drop i s) (reading_from fresh_reader i) f → Stands s i x n
one-read s i h {x} {n} q (one y k p l e) =
    let same : y ≡ x = IfOk-at_ok (λ p. y ≡ p.0) q refl in
    let size : 0 + k ≡ n = IfOk-at_ok (λ p. 0 + k ≡ p.1) q refl in
    let m : k ≡ n = omega (arith, size) in
    subst (λ (j : ℕ). Stands s i x j) m
    (subst (λ (z : Record). Stands s i z k) same (record { some = p; fits = omega (arith, simp length-drop at l); alone = e }))
one-read s i h q (none why e) = let z : ◌≡◌ {A = ℕ} 0 1 = cc in absurd (omega arith)

none_read : {i : ℕ} {s : List ℕ} {g : List ℕ → Reading} {why : Fault} {f : NextRecord} → f ≡ Bad why → Leads i i 0 s g f → g s ≡ bad why i
none_read q (one y k p l e) = let z : ◌≡◌ {A = ℕ} 0 1 = cc in absurd (omega arith)
none_read {i} q (none w e) = e ∙ ap (λ (y : Fault). bad y i) cc

module _ (s : List ℕ) (i : ℕ) (h : i < length s) (f : NextRecord) (e : f ≡ found_at s i) where
  leads : Leads i i 0 (drop i s) (reading_from fresh_reader i) f
  unfolding found_at
  leads = subst (Leads i i 0 (drop i s) (reading_from fresh_reader i)) (sym e) (due-leads (drop i s) i (simp length-drop (omega (arith, h))))

  pub whole-read : {x : Record} {n : ℕ} → f ≡ Whole x n → Stands s i x n
  whole-read q = one-read s i h q leads

  -- what the recording says from there on
  pub whole_says : {x : Record} {n : ℕ} → f ≡ Whole x n
      → reading_from fresh_reader i (drop i s) ≡ also x (reading_from fresh_reader (i + n) (drop (i + n) s))
  whole_says {x} {n} q =
      ap (reading_from fresh_reader i) (sym (take-append-drop n (drop i s)) ∙ ap (λ (t : List ℕ). take n (drop i s) ++ t) (drop-drop n i s))
      ∙ (whole-read q).alone (drop (i + n) s)

  pub bad-says : {why : Fault} → f ≡ Bad why → reading_from fresh_reader i (drop i s) ≡ bad why i
  bad-says q = none_read q leads
