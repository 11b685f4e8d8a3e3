-- A recording is good exactly where it is the bytes of records, and bad exactly as its first record that is none says. Assumes nothing.
use Prim.Native.Nat.{ℕ, zero, suc, ◌+◌, ◌≤◌, ◌<◌}
use mathlib.Core.Path.{◌≡◌, refl, sym, ap, ap₂, ◌∙◌, subst}
use mathlib.Core.List.{List, [], ◌∷◌, ◌++◌, append_assoc, append-nil}
use native.Mathlib.Nat.{le_refl}
use native.Mathlib.Omega.{arith}
use lib.ListN.{length, take, drop, length-append, length-drop, take-append-drop}
use lib.Seq.{length-take-le, take_all, drop-drop}
use Rattle.refusals.specs.Rules.{under, at_most}
use Rattle.numbers.specs.Promises.{AllBytes}
use Rattle.refusals.proofs.Rules.{by_cases}
use Rattle.recording.specs.Record.{fault_number, most_bytes, numbers_of, is_kind, how_many, laid_numbers, record_bytes, InRange, laid, AllInRange}
use Rattle.recording.specs.Reading.{Reading, records, bad, fresh_reader, ended, also, went, reading_from, read_recording}
use Rattle.recording.specs.Taking.{found_at}
use Rattle.recording.specs.Promises.{Faulty, kind, value, number, cut, Breaks, TakenAtOnce, AtOnce, bad-number, unknown, Earlier, ExactlyWhen}
use Rattle.recording.specs.declared.Fault.{Fault}
use Rattle.recording.specs.declared.Fault.TheVariants.{BadNumber, Cut, Unknown, Long}
use Rattle.recording.specs.declared.Record.{Record}
use Rattle.recording.specs.declared.Step.{Step}
use Rattle.recording.specs.NextRecord.{NextRecord}
use Rattle.recording.specs.NextRecord.{Whole, Bad}
use Rattle.recording.proofs.Folds.{reading-nil, reading-cons, reading-short}
use Rattle.recording.proofs.Limit.{passed, passed-at-once, reading-long}
use Rattle.recording.proofs.Trips.{laid_none, bytes_drop, kind-turn, kind-other, after_turn, Rest, whole, fault, rests}
use Rattle.recording.proofs.Starts.{whole-read, bad-says}
use Rattle.recording.proofs.Back.{length-record, bytes-record, reads-back, alsos, alsos-bad, alsos-none, records-back, faulty-back}

-- ---- what is said of bytes that start at an offset is so

abbrev Said : ℕ → List ℕ → Reading → Type 0
Said at s (records xs) = AllInRange xs × (s ≡ laid xs)
Said at s (bad why q) = (i : ℕ) × ((q ≡ at + i) × Breaks why i s)

pub none-laid : laid [] ≡ []
unfolding laid
none-laid = refl

pub more-laid : (x : Record) (xs : List Record) → laid (x ∷ xs) ≡ record_bytes x ++ laid xs
unfolding laid
more-laid x xs = refl

-- at the first byte
first : {why : Fault} {s : List ℕ} (at : ℕ) → Faulty why s → Said at s (bad why at)
first {s} at f =
    (0, (omega arith, record { good = []; rest = s; fit = tt; are = sym (ap (λ (l : List ℕ). l ++ s) none-laid); place = sym (ap length none-laid); fault = f }))

-- behind a record
later : (at : ℕ) (x : Record) (t : List ℕ) (g : Reading) → InRange x → Said (at + length (record_bytes x)) t g → Said at (record_bytes x ++ t) (also x g)
later at x t (records xs) i h = ((i, h.0), ap (λ (l : List ℕ). record_bytes x ++ l) h.1 ∙ sym (more-laid x xs))
later at x t (bad why q) i h =
    let b = h.1.1 in
    let m = more-laid x b.good in (
      length (record_bytes x) + h.0,
      (
        omega (arith, h.1.0),
        record {
          good = x ∷ b.good;
          rest = b.rest;
          fit = (i, b.fit);
          are = ap (λ (l : List ℕ). record_bytes x ++ l) b.are ∙ sym (append_assoc (record_bytes x) (laid b.good) b.rest) ∙ ap (λ (l : List ℕ). l ++ b.rest) (sym m);
          place = omega (arith, b.place, simp length-append at (ap length m));
          fault = b.fault;
        },
      ),
    )

pub bytes-behind : (l t : List ℕ) → AllBytes (l ++ t) → AllBytes t
bytes-behind [] t h = h
bytes-behind (b ∷ l) t h = bytes-behind l t (λ i. h (suc i))

-- what the bytes behind a kind byte say
record-said : (at k : ℕ) (u : List ℕ) {o : Reading} → Rest at k [] (suc at) u o
    → ((rest l : List ℕ) → u ≡ l ++ rest → (q : ℕ) → Said q rest (reading_from fresh_reader q rest)) → Said at (k ∷ u) o
record-said at k u (whole x ms rest kx nx i f g) go =
    let l = length-record x in
    let n : length (laid_numbers (numbers_of x)) ≡ length (laid_numbers ms) = ap (λ (y : List ℕ). length (laid_numbers y)) nx in
    let bytes : record_bytes x ++ rest ≡ k ∷ u
    = bytes-record x rest ∙ ap (λ (j : ℕ). j ∷ laid_numbers (numbers_of x) ++ rest) kx ∙ ap (λ (y : List ℕ). k ∷ laid_numbers y ++ rest) nx ∙ ap (λ (y : List ℕ). k ∷ y) (sym f) in
    let place : at + length (record_bytes x) ≡ suc at + length (laid_numbers ms) = omega (arith, l, n) in
    subst (Said at (k ∷ u)) (sym g)
    (subst (λ (y : List ℕ). Said at y (also x (reading_from fresh_reader (suc at + length (laid_numbers ms)) rest))) bytes
    (later at x rest (reading_from fresh_reader (suc at + length (laid_numbers ms)) rest) i (subst (λ (q : ℕ). Said q rest (reading_from fresh_reader (suc at + length (laid_numbers ms)) rest)) (sym place) (go rest (laid_numbers ms) f (suc at + length (laid_numbers ms))))))
record-said at k u (fault why f g) go = subst (Said at (k ∷ u)) (sym g) (first at (subst (λ (l : List ℕ). Faulty why (k ∷ l)) (ap (λ (y : List ℕ). y ++ u) laid_none) f))

-- a record, and then what is said of any shorter bytes
one-said : (s : List ℕ) → AllBytes s → ((t : List ℕ) → length t < length s → AllBytes t → (q : ℕ) → Said q t (reading_from fresh_reader q t))
    → (at : ℕ) → Said at s (reading_from fresh_reader at s)
unfolding ended
one-said [] h go at = rw reading-nil (tt, sym none-laid)
one-said (k ∷ u) h go at =
    rw (reading-cons fresh_reader at k u)
    (by_cases (is_kind k)
    (λ i.
    record-said at k u (rests (how_many k) (omega arith) i tt (λ j. h (suc j)) (after_turn (suc at) u _ (kind-turn at k i) refl))
    (λ rest x e q. go rest (omega (arith, simp length-append at (ap length e))) (bytes-behind x rest (subst AllBytes e (λ j. h (suc j)))) q))
    (λ n.
    subst (Said at (k ∷ u)) (sym (ap (λ (t : Step). went t.outcome (reading_from t.reader (suc at) u)) (kind-other at k n))) (first at (kind k u n))))

said : (f : ℕ) (s : List ℕ) → length s ≤ f → AllBytes s → (at : ℕ) → Said at s (reading_from fresh_reader at s)
said zero s l h at = one-said s h (λ t m. absurd (omega arith)) at
said (suc f) s l h at = one-said s h (λ t m. said f t (omega arith)) at

-- ---- a record taken at once

bytes-before : (l t : List ℕ) → AllBytes (l ++ t) → AllBytes l
bytes-before [] t h i = omega arith
bytes-before (b ∷ l) t h zero = h zero
bytes-before (b ∷ l) t h (suc i) = bytes-before l t (λ j. h (suc j)) i

pub bytes_take : (i : ℕ) (u : List ℕ) → AllBytes u → AllBytes (take i u)
bytes_take i u h = bytes-before (take i u) (drop i u) (subst AllBytes (sym (take-append-drop i u)) h)

-- bytes that are one record and nothing else
alone-said : (at : ℕ) (u : List ℕ) (x : Record) → AllBytes u → reading_from fresh_reader at u ≡ records (x ∷ []) → InRange x × (u ≡ record_bytes x)
alone-said at u x h e =
    let r = subst (Said at u) e (said (length u) u (le_refl (length u)) h at) in
    (r.0.0, r.1 ∙ more-laid x [] ∙ ap (λ (l : List ℕ). record_bytes x ++ l) none-laid ∙ append-nil (record_bytes x))

empty : (l : List ℕ) → length l ≡ 0 → l ≡ []
empty [] e = refl
empty (b ∷ l) e = absurd (omega arith)

-- a fault at the first byte
first_said : (at : ℕ) (u : List ℕ) (why : Fault) → AllBytes u → reading_from fresh_reader at u ≡ bad why at → Faulty why u
first_said at u why h e =
    let r = subst (Said at u) e (said (length u) u (le_refl (length u)) h at) in
    by r.1.1 (omega (arith, r.1.0))
  where
    by : {i : ℕ} (b : Breaks why i u) → i ≡ 0 → Faulty why u
    by b z = subst (Faulty why) (sym (b.are ∙ ap (λ (l : List ℕ). l ++ b.rest) (empty (laid b.good) (omega (arith, b.place, z))))) b.fault

apart : {xs : List Record} {why : Fault} {at : ℕ} → bad why at ≡ records xs → ⊥
apart e = let z : ◌≡◌ {A = ℕ} 0 1 = cc in omega arith

-- the rest shows no fault before its own start
no-earlier : (x : Record) {why : Fault} (a at : ℕ) (t : List ℕ) (g : Reading) → Said a t g → also x g ≡ bad why at → at < a → ⊥
no-earlier x a at t (records xs) d q l = apart (sym q)
no-earlier x a at t (bad w p) d q l = let e : p ≡ at = cc in omega (arith, e, d.1.0)

-- of two beginnings of the same bytes the longer begins with the shorter
begins : (a b t u : List ℕ) → a ++ t ≡ b ++ u → length a ≤ length b → b ≡ a ++ drop (length a) b
begins [] b t u e l = refl
begins (n ∷ a) [] t u e l = absurd (omega arith)
begins (n ∷ a) (m ∷ b) t u e l =
    let same : n ≡ m = cc in
    let rest : a ++ t ≡ b ++ u = cc in
    ap₂ (λ (k : ℕ) (c : List ℕ). k ∷ c) (sym same) (begins a b t u rest (omega (arith, l)))

-- bytes that are one record begin with no other
first-only : (at : ℕ) (x y : Record) (w : List ℕ) → InRange x → InRange y → record_bytes y ≡ record_bytes x ++ w → x ≡ y
unfolding ended
first-only at x y w i j e =
    by (reading_from fresh_reader (at + length (record_bytes x)) w)
    (sym (reads-back x i at w) ∙ ap (reading_from fresh_reader at) (sym e ∙ sym (append-nil (record_bytes y))) ∙ reads-back y j at []
    ∙ ap (also y) (reading-nil fresh_reader (at + length (record_bytes y))))
  where
    by : (g : Reading) → also x g ≡ records (y ∷ []) → x ≡ y
    by (records xs) q = cc
    by (bad why p) q = absurd (apart q)

-- a record that stands there, taken at once
module _ (s : List ℕ) (at : ℕ) (h : AllBytes s) (l : at < length s) where
  whole_to : (x : Record) (n : ℕ) → found_at s at ≡ Whole x n → InRange x × (n ≡ length (record_bytes x)) × (drop at s ≡ record_bytes x ++ drop (at + n) s)
  unfolding ended
  whole_to x n e =
      let r = whole-read s at l (found_at s at) refl e in
      let u = take n (drop at s) in
      let y = alone-said at u x (bytes_take n (drop at s) (bytes_drop at s h))
      (ap (reading_from fresh_reader at) (sym (append-nil u)) ∙ r.alone [] ∙ ap (also x) (reading-nil fresh_reader (at + n))) in
      let k : length u ≡ n = length-take-le n (drop at s) (simp length-drop (omega (arith, r.fits))) in (
        y.0,
        sym k ∙ ap length y.1,
        sym (take-append-drop n (drop at s)) ∙ ap (λ (t : List ℕ). u ++ t) (drop-drop n at s) ∙ ap (λ (t : List ℕ). t ++ drop (at + n) s) y.1,
      )

  faulty-to : (why : Fault) → found_at s at ≡ Bad why → Faulty why (drop at s)
  faulty-to why e = first_said at (drop at s) why (bytes_drop at s h) (bad-says s at l (found_at s at) refl e)

  -- a record there, and a fault there at once
  not-both : (x : Record) (t : List ℕ) (why : Fault) → InRange x → drop at s ≡ record_bytes x ++ t → Faulty why (drop at s) → ⊥
  not-both x t why i e f =
      let a = at + length (record_bytes x) in
      let b = bytes-behind (record_bytes x) t (subst AllBytes e (bytes_drop at s h)) in
      no-earlier x a at t (reading_from fresh_reader a t) (said (length t) t (le_refl (length t)) b a)
      (sym (reads-back x i at t) ∙ ap (reading_from fresh_reader at) (sym e) ∙ faulty-back f at) (omega (arith, length-record x))

  -- two records there at once
  one_only : (x y : Record) (t u : List ℕ) → InRange x → InRange y → drop at s ≡ record_bytes x ++ t → drop at s ≡ record_bytes y ++ u → x ≡ y
  one_only x y t u i j e f =
      by_cases (at_most (length (record_bytes x)) (length (record_bytes y)))
      (λ l. first-only at x y _ i j (begins (record_bytes x) (record_bytes y) t u (sym e ∙ f) l))
      (λ l. sym (first-only at y x _ j i (begins (record_bytes y) (record_bytes x) u t (sym f ∙ e) (omega arith))))

  whole_from : (x : Record) (n : ℕ) → InRange x → n ≡ length (record_bytes x) → drop at s ≡ record_bytes x ++ drop (at + n) s
      → (f : NextRecord) → found_at s at ≡ f → f ≡ Whole x n
  whole_from x n i k e (Whole y m) q =
      let r = whole_to y m q in
      let same : y ≡ x = one_only y x _ _ r.0 i r.2 e in
      let size : m ≡ n = r.1 ∙ ap (λ (z : Record). length (record_bytes z)) same ∙ sym k in
      ap₂ Whole same size
  whole_from x n i k e (Bad why) q = absurd (not-both x _ why i e (faulty-to why q))

  faulty-from : (why : Fault) → Faulty why (drop at s) → (f : NextRecord) → found_at s at ≡ f → f ≡ Bad why
  faulty-from why f (Whole y m) q = let r = whole_to y m q in absurd (not-both y _ why r.0 r.2 f)
  faulty-from why f (Bad w) q =
      let e : bad w at ≡ bad why at = sym (faulty-back (faulty-to w q) at) ∙ faulty-back f at in
      let same : w ≡ why = cc in
      ap Bad same

pub taken-at-once : TakenAtOnce
taken-at-once =
    record {
      whole = λ s at h l x n. (whole_to s at h l x n, λ r. whole_from s at h l x n r.0 r.1 r.2 (found_at s at) refl);
      faulty = λ s at h l why. (faulty-to s at h l why, λ f. faulty-from s at h l why f (found_at s at) refl);
    }

-- ---- both ways

good-to : (s : List ℕ) (xs : List Record) → AllBytes s → reading_from fresh_reader 0 s ≡ records xs → AllInRange xs × (s ≡ laid xs)
good-to s xs h e = subst (Said 0 s) e (said (length s) s (le_refl (length s)) h 0)

good-from : (s : List ℕ) (xs : List Record) → AllInRange xs → s ≡ laid xs → reading_from fresh_reader 0 s ≡ records xs
unfolding ended
good-from s xs i e =
    ap (reading_from fresh_reader 0) (e ∙ sym (append-nil (laid xs)))
    ∙ records-back xs i 0 []
    ∙ ap (alsos xs) (reading-nil fresh_reader (0 + length (laid xs)))
    ∙ alsos-none xs

broken-to : (s : List ℕ) (why : Fault) (at : ℕ) → AllBytes s → reading_from fresh_reader 0 s ≡ bad why at → Breaks why at s
broken-to s why at h e =
    let b = subst (Said 0 s) e (said (length s) s (le_refl (length s)) h 0) in
    subst (λ (q : ℕ). Breaks why q s) (omega (arith, b.1.0)) b.1.1

broken-from : (s : List ℕ) (why : Fault) (at : ℕ) → Breaks why at s → reading_from fresh_reader 0 s ≡ bad why at
broken-from s why at b =
    ap (reading_from fresh_reader 0) b.are
    ∙ records-back b.good b.fit 0 b.rest
    ∙ ap (alsos b.good) (faulty-back b.fault (0 + length (laid b.good)) ∙ ap (bad why) (omega (arith, b.place)))
    ∙ alsos-bad b.good why at

-- no recording is too long by what it holds
not-long : {why : Fault} {s : List ℕ} → Faulty why s → why ≡ Long → ⊥
not-long (kind k t h) e = omega (arith, ap fault_number e)
not-long (value k ns t h l b n) e = omega (arith, ap fault_number e)
not-long (number k ns t h l b n) e = omega (arith, ap fault_number e)
not-long (cut k ns t h l b n) e = omega (arith, ap fault_number e)

-- what bytes up to the limit say, where others follow them: no records, and a fault that a byte shows where it was there before
passed_none : (g : Reading) {xs : List Record} → passed g ≡ records xs → ⊥
passed_none (records xs) e = apart e
passed_none (bad BadNumber at) e = apart e
passed_none (bad Cut at) e = apart e
passed_none (bad Unknown at) e = apart e
passed_none (bad Long at) e = apart e

passed-from : {why : Fault} (g : Reading) (at : ℕ) → AtOnce why → passed g ≡ bad why at → g ≡ bad why at
passed-from (records xs) at bad-number e = let z : ◌≡◌ {A = ℕ} 0 1 = cc in absurd (omega arith)
passed-from (records xs) at unknown e = let z : ◌≡◌ {A = ℕ} 0 1 = cc in absurd (omega arith)
passed-from (bad BadNumber p) at a e = e
passed-from (bad Cut p) at bad-number e = let z : ◌≡◌ {A = ℕ} 0 1 = cc in absurd (omega arith)
passed-from (bad Cut p) at unknown e = let z : ◌≡◌ {A = ℕ} 0 1 = cc in absurd (omega arith)
passed-from (bad Unknown p) at a e = e
passed-from (bad Long p) at a e = e

passed-cut : (g : Reading) (at : ℕ) → passed g ≡ bad Cut at → ⊥
passed-cut (records xs) at e = let z : ◌≡◌ {A = ℕ} 0 1 = cc in omega arith
passed-cut (bad BadNumber p) at e = let z : ◌≡◌ {A = ℕ} 0 1 = cc in omega arith
passed-cut (bad Cut p) at e = let z : ◌≡◌ {A = ℕ} 0 1 = cc in omega arith
passed-cut (bad Unknown p) at e = let z : ◌≡◌ {A = ℕ} 0 1 = cc in omega arith
passed-cut (bad Long p) at e = let z : ◌≡◌ {A = ℕ} 0 1 = cc in omega arith

-- the place of 24, where no byte before says it
passed-long : (g : Reading) (at : ℕ) → ((p : ℕ) → g ≡ bad Long p → ⊥) → passed g ≡ bad Long at → (at ≡ most_bytes) × ((why : Fault) (p : ℕ) → AtOnce why → g ≡ bad why p → ⊥)
passed-long (records xs) at n e = (let z : most_bytes ≡ at = cc in sym z, λ why p a q. apart (sym q))
passed-long (bad BadNumber p) at n e = let z : ◌≡◌ {A = ℕ} 0 1 = cc in absurd (omega arith)
passed-long (bad Cut p) at n e = (let z : most_bytes ≡ at = cc in sym z, λ why p a q. not-cut a q)
  where
    not-cut : {why : Fault} {p q : ℕ} → AtOnce why → bad Cut p ≡ bad why q → ⊥
    not-cut bad-number e = let z : ◌≡◌ {A = ℕ} 0 1 = cc in omega arith
    not-cut unknown e = let z : ◌≡◌ {A = ℕ} 0 1 = cc in omega arith
passed-long (bad Unknown p) at n e = let z : ◌≡◌ {A = ℕ} 0 1 = cc in absurd (omega arith)
passed-long (bad Long p) at n e = absurd (n p refl)

long-passed : (g : Reading) → ((p : ℕ) → g ≡ bad Long p → ⊥) → ((why : Fault) (p : ℕ) → AtOnce why → g ≡ bad why p → ⊥) → passed g ≡ bad Long most_bytes
long-passed (records xs) n f = refl
long-passed (bad BadNumber p) n f = absurd (f BadNumber p bad-number refl)
long-passed (bad Cut p) n f = refl
long-passed (bad Unknown p) n f = absurd (f Unknown p unknown refl)
long-passed (bad Long p) n f = absurd (n p refl)

module _ (s : List ℕ) (h : AllBytes s) where
  said-long : (at : ℕ) → reading_from fresh_reader 0 s ≡ bad Long at → ⊥
  said-long at e = not-long (broken-to s Long at h e).fault refl

-- the bytes up to the limit
module _ (s : List ℕ) (h : AllBytes s) where
  few : length s ≤ most_bytes → take most_bytes s ≡ s
  few l = take_all most_bytes s l

  front : AllBytes (take most_bytes s)
  front = bytes_take most_bytes s h

  earlier-to : (why : Fault) (at : ℕ) → AtOnce why → read_recording s ≡ bad why at → Breaks why at (take most_bytes s)
  earlier-to why at a e =
      by_cases (under most_bytes (length s))
      (λ l. broken-to (take most_bytes s) why at front (passed-from (reading_from fresh_reader 0 (take most_bytes s)) at a (sym (reading-long s l) ∙ e)))
      (λ n. let l : length s ≤ most_bytes = omega arith in subst (Breaks why at) (sym (few l)) (broken-to s why at h (sym (reading-short s l) ∙ e)))

  earlier-from : (why : Fault) (at : ℕ) → AtOnce why → Breaks why at (take most_bytes s) → read_recording s ≡ bad why at
  earlier-from why at a b =
      let e = broken-from (take most_bytes s) why at b in
      by_cases (under most_bytes (length s))
      (λ l. reading-long s l ∙ ap passed e ∙ passed-at-once a at)
      (λ n. let l : length s ≤ most_bytes = omega arith in reading-short s l ∙ ap (reading_from fresh_reader 0) (sym (few l)) ∙ e)

  long-to : (at : ℕ) → read_recording s ≡ bad Long at → (most_bytes < length s) × (at ≡ most_bytes) × (Earlier s → ⊥)
  long-to at e =
      by_cases (under most_bytes (length s))
      (λ l.
      let r = passed-long (reading_from fresh_reader 0 (take most_bytes s)) at (said-long (take most_bytes s) front) (sym (reading-long s l) ∙ e) in
      (l, r.0, λ y. r.1 y.0 y.1.0 y.1.1.0 (broken-from (take most_bytes s) y.0 y.1.0 y.1.1.1)))
      (λ n. absurd (said-long s h at (sym (reading-short s (omega arith)) ∙ e)))

  long-from : (at : ℕ) → most_bytes < length s → at ≡ most_bytes → (Earlier s → ⊥) → read_recording s ≡ bad Long at
  long-from at l e n =
      reading-long s l
      ∙ long-passed (reading_from fresh_reader 0 (take most_bytes s)) (said-long (take most_bytes s) front)
      (λ why p a q. n (why, (p, (a, broken-to (take most_bytes s) why p front q))))
      ∙ ap (bad Long) (sym e)

pub exactly-when : ExactlyWhen
exactly-when =
    record {
      good = λ s xs h. (
        λ e.
            by_cases (under most_bytes (length s))
            (λ l. absurd (passed_none (reading_from fresh_reader 0 (take most_bytes s)) (sym (reading-long s l) ∙ e)))
            (λ n. let l : length s ≤ most_bytes = omega arith in let r = good-to s xs h (sym (reading-short s l) ∙ e) in (l, r.0, r.1)),
        λ r. reading-short s r.0 ∙ good-from s xs r.1 r.2,
      );
      broken = λ s why at h a. (earlier-to s h why at a, earlier-from s h why at a);
      cut = λ s at h. (
        λ e.
            by_cases (under most_bytes (length s))
            (λ l. absurd (passed-cut (reading_from fresh_reader 0 (take most_bytes s)) at (sym (reading-long s l) ∙ e)))
            (λ n. let l : length s ≤ most_bytes = omega arith in (l, broken-to s Cut at h (sym (reading-short s l) ∙ e))),
        λ r. reading-short s r.0 ∙ broken-from s Cut at r.1,
      );
      long = λ s at h. (long-to s h at, λ r. long-from s h at r.0 r.1 r.2);
    }
