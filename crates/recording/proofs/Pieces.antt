-- A record in the bytes of a piece: the same is found in it wherever the piece stands in the recording, and what is found is what the steps over its bytes
-- leave. Assumes nothing.
use Prim.Native.Nat.{ℕ, zero, suc, ◌+◌, ◌%◌, ◌<◌}
use mathlib.Core.Path.{◌≡◌, refl, sym, ap, ◌∙◌, subst}
use mathlib.Core.Bool.{Bool, true, false, cond}
use mathlib.Core.List.{List, [], ◌∷◌, ◌++◌}
use native.Mathlib.Omega.{arith}
use lib.ListN.{length, drop, length-drop}
use types.Run.{hit, miss}
use Rattle.refusals.specs.Rules.{Condition, under, isnt, judged, ◌gives◌}
use Rattle.numbers.specs.Seven.{number_end, next_group}
use Rattle.numbers.specs.Grouped.{Group}
use Rattle.numbers.specs.Grouped.{More as OneMore, Last, Wrong}
use Rattle.dispenser_frame_rules.specs.Table.{known}
use Rattle.recording.specs.Record.{in_list}
use Rattle.recording.specs.Reading.{fresh_reader, awaiting, grown, next_number, more, whole, refused_at, refused, kind_byte, numbered, request_read, byte_read, command_read, group_read, grouped, read_byte}
use Rattle.recording.specs.Promises.{AtOnce}
use Rattle.recording.specs.Taking.{settled, found_from, found_at}
use Rattle.recording.specs.declared.Fault.{Fault}
use Rattle.recording.specs.declared.Fault.TheVariants.{BadNumber, Cut, Unknown}
use Rattle.recording.specs.declared.Record.{Record}
use Rattle.recording.specs.declared.Record.TheVariants.{Request, DispenserByte, Tick, ValidatorByte, Command, Clear}
use Rattle.recording.specs.declared.Place.{Place}
use Rattle.recording.specs.declared.Place.TheVariants.{Kind, Code, Upper, Lower, FromDispenser, Milliseconds, FromValidator, ToValidator, Broken}
use Rattle.recording.specs.declared.Reader.{Reader}
use Rattle.recording.specs.declared.Step.{Step}
use Rattle.recording.specs.NextRecord.{NextRecord}
use Rattle.recording.specs.NextRecord.{Whole, Bad}
use Rattle.recording.proofs.Places.{within, Inside, begun-byte}
use Rattle.recording.proofs.Glances.{found-nil, found-step}
use Rattle.recording.proofs.Starts.{Held, begun, complete, faulty, held-byte, held-kind}

-- ---- where the record starts does not tell

abbrev moved : ℕ → Reader → Reader
moved o r = record { start = o; acc = r.acc; weight = r.weight; code = r.code; upper = r.upper; place = r.place }

-- what the same byte leaves of a record, and of the same record that starts at o
data Twins (o : ℕ) : Step → Step → Type 0 where
  both_go : (r : Reader) → Inside r.place → Twins o (more r) (more (moved o r))
  both_end : (x : Record) → Twins o (whole x) (whole x)
  both-fail : (p : ℕ) (why : Fault) → Twins o (refused_at p why) (refused_at o why)

twins-either : {o : ℕ} (t : Bool) {x y u v : Step} → Twins o x u → Twins o y v → Twins o (cond t x y) (cond t u v)
twins-either true a b = a
twins-either false a b = b

twins-value : {o : ℕ} (c : Condition) (r : Reader) (x : Record)
    → Twins o (judged (c gives Unknown ∷ []) (refused r) (whole x)) (judged (c gives Unknown ∷ []) (refused (moved o r)) (whole x))
twins-value c r x = twins-either c.test (both-fail r.start Unknown) (both_end x)

twins-number : {o : ℕ} (p : Place) → Inside p → (r : Reader) (n : ℕ) → Twins o (numbered p r n) (numbered p (moved o r) n)
unfolding request_read byte_read command_read
twins-number Kind i r n = absurd (miss within 0 tt i)
twins-number Code i r n = both_go (next_number r n r.upper Upper) (hit within 2 tt)
twins-number Upper i r n = both_go (next_number r r.code n Lower) (hit within 3 tt)
twins-number Lower i r n = twins-value (isnt (known r.code)) r (Request r.code (r.upper % number_end) n)
twins-number FromDispenser i r n = twins-value (under 255 n) r (DispenserByte n)
twins-number Milliseconds i r n = both_end (Tick n)
twins-number FromValidator i r n = twins-value (under 255 n) r (ValidatorByte n)
twins-number ToValidator i r n = twins-value (isnt (in_list n)) r (Command n)
twins-number (Broken why) i r n = absurd (miss within 8 tt i)

twins-group : {o : ℕ} (g : Group) (r : Reader) → Inside r.place → Twins o (group_read g r) (group_read g (moved o r))
twins-group (OneMore a w) r i = both_go (grown r a w) i
twins-group (Last n) r i = twins-number r.place i r n
twins-group Wrong r i = both-fail r.start BadNumber

twins-byte : (o : ℕ) (r : Reader) (at p b : ℕ) → Inside r.place → Twins o (read_byte r at b) (read_byte (moved o r) p b)
unfolding grouped
twins-byte o r at p b i =
    subst (λ (t : Step). Twins o t (read_byte (moved o r) p b)) (sym (begun-byte r at b i))
    (subst (Twins o (group_read (next_group r.acc r.weight b) r)) (sym (begun-byte (moved o r) p b i)) (twins-group (next_group r.acc r.weight b) r i))

twins-kind : (at p b : ℕ) → Twins p (read_byte fresh_reader at b) (read_byte fresh_reader p b)
unfolding read_byte kind_byte
twins-kind at p zero = both_go (awaiting at Code) (hit within 1 tt)
twins-kind at p (suc zero) = both_go (awaiting at FromDispenser) (hit within 4 tt)
twins-kind at p (suc (suc zero)) = both_go (awaiting at Milliseconds) (hit within 5 tt)
twins-kind at p (suc (suc (suc zero))) = both_go (awaiting at FromValidator) (hit within 6 tt)
twins-kind at p (suc (suc (suc (suc zero)))) = both_go (awaiting at ToValidator) (hit within 7 tt)
twins-kind at p (suc (suc (suc (suc (suc zero))))) = both_end Clear
twins-kind at p (suc (suc (suc (suc (suc (suc k)))))) = both-fail at Unknown

found-twins : {o : ℕ} {t u : Step} (at p n : ℕ) (s : List ℕ) → Twins o t u
    → ((r : Reader) → Inside r.place → found_from r at n s ≡ found_from (moved o r) p n s)
    → settled t.outcome n (found_from t.reader at n s) ≡ settled u.outcome n (found_from u.reader p n s)
found-twins at p n s (both_go r i) f = f r i
found-twins at p n s (both_end x) f = refl
found-twins at p n s (both-fail q why) f = refl

found-moved : (s : List ℕ) (o : ℕ) (r : Reader) (at p n : ℕ) → Inside r.place → found_from r at n s ≡ found_from (moved o r) p n s
found-moved [] o r at p n i = found-nil r at n ∙ sym (found-nil (moved o r) p n)
found-moved (b ∷ s) o r at p n i =
    found-step r at n b s (read_byte r at b) refl
    ∙ found-twins (suc at) (suc p) (suc n) s (twins-byte o r at p b i) (λ q j. found-moved s o q (suc at) (suc p) (suc n) j)
    ∙ sym (found-step (moved o r) p n b s (read_byte (moved o r) p b) refl)

-- a record that is due
found-anywhere : (s : List ℕ) (at p n : ℕ) → found_from fresh_reader at n s ≡ found_from fresh_reader p n s
found-anywhere [] at p n = found-nil fresh_reader at n ∙ sym (found-nil fresh_reader p n)
found-anywhere (b ∷ s) at p n =
    found-step fresh_reader at n b s (read_byte fresh_reader at b) refl
    ∙ found-twins (suc at) (suc p) (suc n) s (twins-kind at p b) (λ q j. found-moved s p q (suc at) (suc p) (suc n) j)
    ∙ sym (found-step fresh_reader p n b s (read_byte fresh_reader p b) refl)

-- ---- what the steps leave

-- bytes of which the first stands at an offset, and of which each brings more of a record: from one reader to another
pub data Begun : Reader → ℕ → List ℕ → Reader → Type 0 where
  no_more : (r : Reader) (at : ℕ) → Begun r at [] r
  one_more : {r q z : Reader} {at b : ℕ} {s : List ℕ} → read_byte r at b ≡ more q → Begun q (suc at) s z → Begun r at (b ∷ s) z

-- the record that starts at o, of which r has read some bytes: what is found of it in the bytes s, of which the first stands at p, n being counted already
pub data Comes (o : ℕ) (r : Reader) (p n : ℕ) (s : List ℕ) : NextRecord → Type 0 where
  -- the bytes u and b complete it
  comes : (x : Record) (u t : List ℕ) (b : ℕ) (q : Reader) → s ≡ u ++ (b ∷ t) → Begun r p u q → read_byte q (p + length u) b ≡ whole x
      → Comes o r p n s (Whole x (n + suc (length u)))
  fails : {why : Fault} → AtOnce why → (u t : List ℕ) (b : ℕ) (q : Reader) → s ≡ u ++ (b ∷ t) → Begun r p u q → read_byte q (p + length u) b ≡ refused_at o why
      → Comes o r p n s (Bad why)
  stops : (q : Reader) → Begun r p s q → Inside q.place → q.start ≡ o → Comes o r p n s (Bad Cut)

comes-later : {o p n b : ℕ} {s : List ℕ} {r q : Reader} {f : NextRecord} → read_byte r p b ≡ more q → Comes o q (suc p) (suc n) s f → Comes o r p n (b ∷ s) f
comes-later {o} {p} {n} {b} {s} {r} e (comes x u t c z f g h) =
    let k : n + suc (suc (length u)) ≡ suc n + suc (length u) = omega arith in
    let m : suc p + length u ≡ p + suc (length u) = omega arith in
    subst (λ (y : ℕ). Comes o r p n (b ∷ s) (Whole x y)) k
    (comes x (b ∷ u) t c z (ap (λ (l : List ℕ). b ∷ l) f) (one_more e g) (ap (λ (y : ℕ). read_byte z y c) (sym m) ∙ h))
comes-later {p} {b} e (fails a u t c z f g h) =
    let m : suc p + length u ≡ p + suc (length u) = omega arith in
    fails a (b ∷ u) t c z (ap (λ (l : List ℕ). b ∷ l) f) (one_more e g) (ap (λ (y : ℕ). read_byte z y c) (sym m) ∙ h)
comes-later e (stops z g i h) = stops z (one_more e g) i h

comes-byte : {o p n b : ℕ} {s : List ℕ} {r : Reader} (t : Step) → read_byte r p b ≡ t → Held o t
    → ((q : Reader) → Inside q.place → q.start ≡ o → Comes o q (suc p) (suc n) s (found_from q (suc p) (suc n) s))
    → Comes o r p n (b ∷ s) (settled t.outcome (suc n) (found_from t.reader (suc p) (suc n) s))
comes-byte t e (begun q i h) later = comes-later e (later q i h)
comes-byte {o} {p} {n} {b} {s} {r} t e (complete x) later =
    let k : n + 1 ≡ suc n = omega arith in
    let m : p + 0 ≡ p = omega arith in
    subst (λ (y : ℕ). Comes o r p n (b ∷ s) (Whole x y)) k (comes x [] s b r refl (no_more r p) (ap (λ (y : ℕ). read_byte r y b) m ∙ e))
comes-byte {p} {b} {s} {r} t e (faulty a) later =
    let m : p + 0 ≡ p = omega arith in
    fails a [] s b r refl (no_more r p) (ap (λ (y : ℕ). read_byte r y b) m ∙ e)

comes-inside : (s : List ℕ) {o : ℕ} (r : Reader) → Inside r.place → r.start ≡ o → (p n : ℕ) → Comes o r p n s (found_from r p n s)
comes-inside [] {o} r i e p n = subst (Comes o r p n []) (sym (found-nil r p n)) (stops r (no_more r p) i e)
comes-inside (b ∷ s) {o} r i e p n =
    subst (Comes o r p n (b ∷ s)) (sym (found-step r p n b s (read_byte r p b) refl))
    (comes-byte (read_byte r p b) refl (held-byte r p b i e) (λ q j h. comes-inside s q j h (suc p) (suc n)))

comes-due : (s : List ℕ) (p : ℕ) → 0 < length s → Comes p fresh_reader p 0 s (found_from fresh_reader p 0 s)
comes-due [] p h = absurd (omega (arith, h))
comes-due (b ∷ s) p h =
    subst (Comes p fresh_reader p 0 (b ∷ s)) (sym (found-step fresh_reader p 0 b s (read_byte fresh_reader p b) refl))
    (comes-byte (read_byte fresh_reader p b) refl (held-kind p b) (λ q j e. comes-inside s q j e (suc p) 1))

-- ---- in a piece s, at its index i: f is what is found there. The byte there has the offset p in the recording

module _ (s : List ℕ) (i p : ℕ) (f : NextRecord) where
  pub due-in-piece : i < length s → f ≡ found_at s i → Comes p fresh_reader p 0 (drop i s) f
  unfolding found_at
  due-in-piece h e =
      subst (Comes p fresh_reader p 0 (drop i s)) (sym (e ∙ found-anywhere (drop i s) i p 0)) (comes-due (drop i s) p (simp length-drop (omega (arith, h))))

  -- the rest of a record that is begun
  pub rest-in-piece : (r : Reader) → Inside r.place → f ≡ found_from r i 0 (drop i s) → Comes r.start r p 0 (drop i s) f
  rest-in-piece r j e =
      subst (Comes r.start r p 0 (drop i s)) (sym (e ∙ found-moved (drop i s) r.start r i p 0 j)) (comes-inside (drop i s) r j refl p 0)
