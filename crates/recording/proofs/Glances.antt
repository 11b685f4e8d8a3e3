-- What is found where a record is due: byte by byte, and for records of two to four bytes at a glance. Assumes nothing.
use Prim.Native.Nat.{ℕ, suc, ◌+◌, ◌*◌, ◌-◌, ◌%◌, ◌≤◌, ◌<◌}
use mathlib.Core.Path.{◌≡◌, refl, sym, ap, ◌∙◌}
use mathlib.Core.Bool.{Bool, true, false, cond}
use mathlib.Core.List.{List, [], ◌∷◌}
use native.Mathlib.Numerals.{add-one}
use native.Mathlib.Omega.{arith}
use lib.ListN.{length, drop, get_or, drop_of_length-le}
use lib.Seq.{drop-cons}
use types.Run.{hit}
use Rattle.numbers.specs.Seven.{next_group}
use Rattle.numbers.specs.Grouped.{Group}
use Rattle.numbers.specs.Grouped.{More as OneMore, Last}
use Rattle.numbers.proofs.Groups.{group-more, group-last, next-begun}
use Rattle.recording.specs.Reading.{fresh_reader, awaiting, grown, next_number, more, kind_byte, numbered, request_read, group_read, grouped, read_byte}
use Rattle.recording.specs.Taking.{settled, found_from, found_at, glances_in}
use Rattle.recording.specs.Scaffolding.{place_of, last_due}
use Rattle.recording.specs.declared.Fault.{Fault}
use Rattle.recording.specs.declared.Fault.TheVariants.{Cut}
use Rattle.recording.specs.declared.Record.{Record}
use Rattle.recording.specs.declared.Place.TheVariants.{Code, Upper}
use Rattle.recording.specs.declared.Reader.{Reader}
use Rattle.recording.specs.declared.Step.{Step}
use Rattle.recording.specs.Outcome.{Outcome}
use Rattle.recording.specs.Outcome.{More, Whole as ByteWhole, Bad as ByteBad}
use Rattle.recording.specs.NextRecord.{NextRecord}
use Rattle.recording.specs.NextRecord.{Whole, Bad}
use Rattle.recording.proofs.Places.{within, Inside, begun-byte, with_number, place_inside}

-- ---- the fold

pub found-nil : (r : Reader) (at n : ℕ) → found_from r at n [] ≡ Bad Cut
unfolding found_from
found-nil r at n = refl

-- a byte, whose step is t
pub found-step : (r : Reader) (at n b : ℕ) (s : List ℕ) (t : Step) → read_byte r at b ≡ t
    → found_from r at n (b ∷ s) ≡ settled t.outcome (suc n) (found_from t.reader (suc at) (suc n) s)
unfolding found_from
found-step r at n b s t e = ap (λ (t : Step). settled t.outcome (suc n) (found_from t.reader (suc at) (suc n) s)) e

pub found-end : (r : Reader) (at n : ℕ) (s : List ℕ) (i : ℕ) → length s ≤ i → found_from r at n (drop i s) ≡ Bad Cut
found-end r at n s i h = ap (found_from r at n) (drop_of_length-le s h) ∙ found-nil r at n

pub found-start : (r : Reader) (s : List ℕ) (at : ℕ) → found_from r at (at - at) (drop at s) ≡ found_from r at 0 (drop at s)
found-start r s at = let e : at - at ≡ 0 = omega arith in ap (λ (n : ℕ). found_from r at n (drop at s)) e

-- the byte at i, whose step is t
pub found-one : (r : Reader) (s : List ℕ) (i n : ℕ) → i < length s → (t : Step) → t ≡ read_byte r i (get_or s i 0)
    → found_from r i n (drop i s) ≡ settled t.outcome (n + 1) (found_from t.reader (i + 1) (n + 1) (drop (i + 1) s))
found-one r s i n h t e = rw (drop-cons s i 0 h, add-one n, add-one i) (found-step r i n (get_or s i 0) (drop (suc i) s) t (sym e))

module _ (r : Reader) (s : List ℕ) (i n : ℕ) (h : i < length s) (t : Step) (e : t ≡ read_byte r i (get_or s i 0)) {o : NextRecord}
    (q : found_from r i n (drop i s) ≡ o) (m : ℕ) (k : m ≡ n + 1) where
  settles : (y : Outcome) → t.outcome ≡ y → settled y m (found_from t.reader (i + 1) m (drop (i + 1) s)) ≡ o
  settles y f = rw (k, sym f) (sym (found-one r s i n h t e) ∙ q)

  pub goes_on : t.outcome ≡ More → found_from t.reader (i + 1) m (drop (i + 1) s) ≡ o
  goes_on f = settles More f

  pub is_whole : {x : Record} → t.outcome ≡ ByteWhole x → Whole x m ≡ o
  is_whole {x} f = settles (ByteWhole x) f

  pub is-bad : {why : Fault} {at : ℕ} → t.outcome ≡ ByteBad why at → Bad why ≡ o
  is-bad {why} {at} f = settles (ByteBad why at) f

-- ---- the bytes

-- a kind
begins : (at k : ℕ) → k ≤ 4 → read_byte fresh_reader at k ≡ more (awaiting at (place_of k))
unfolding read_byte
begins at k h = with_number at k h

begins-request : (at : ℕ) → read_byte fresh_reader at 0 ≡ more (awaiting at Code)
unfolding read_byte kind_byte
begins-request at = refl

-- a number's only group
only : (b : ℕ) → b < 128 → next_group 0 1 b ≡ Last b
only b h =
    let e : 0 + b % 128 * 1 ≡ b = omega arith in
    next-begun 0 1 b (omega arith) (omega arith) ∙ group-last 0 1 b h (omega arith) (λ z. omega arith) ∙ ap Last e

-- the first of more
first : (b : ℕ) → 128 ≤ b → next_group 0 1 b ≡ OneMore (b % 128) 128
first b h =
    let e : 0 + b % 128 * 1 ≡ b % 128 = omega arith in
    next-begun 0 1 b (omega arith) (omega arith) ∙ group-more 0 1 b h (omega arith) ∙ ap (λ (a : ℕ). OneMore a 128) e

-- the second, and last
second : (a h : ℕ) → a < 128 → 0 < h → h < 128 → next_group a 128 h ≡ Last (a + h * 128)
second a h l p q =
    let e : a + h % 128 * 128 ≡ a + h * 128 = omega arith in
    next-begun a 128 h l (omega arith) ∙ group-last a 128 h q (omega arith) (λ z. absurd (omega arith)) ∙ ap Last e

-- a byte of a number, by what its group is
groups : (r : Reader) (at b : ℕ) (g : Group) → Inside r.place → next_group r.acc r.weight b ≡ g → read_byte r at b ≡ group_read g r
unfolding grouped
groups r at b g i e = begun-byte r at b i ∙ ap (λ (g : Group). group_read g r) e

-- ---- the records

module _ (at k b : ℕ) (h : k ≤ 4) where
  -- a number of one group
  pub of_two : b < 128 → (s : List ℕ)
      → found_from fresh_reader at 0 (k ∷ b ∷ s)
      ≡ settled (numbered (place_of k) (awaiting at (place_of k)) b).outcome 2
      (found_from (numbered (place_of k) (awaiting at (place_of k)) b).reader (suc (suc at)) 2 s)
  of_two l s =
      found-step fresh_reader at 0 k (b ∷ s) _ (begins at k h)
      ∙ found-step (awaiting at (place_of k)) (suc at) 1 b s _ (groups (awaiting at (place_of k)) (suc at) b (Last b) (place_inside k h) (only b l))

  -- of two groups
  pub of_three : 128 ≤ b → (c : ℕ) → 0 < c → c < 128 → (s : List ℕ)
      → found_from fresh_reader at 0 (k ∷ b ∷ c ∷ s)
      ≡ settled (numbered (place_of k) (grown (awaiting at (place_of k)) (b % 128) 128) (b % 128 + c * 128)).outcome 3
      (found_from (numbered (place_of k) (grown (awaiting at (place_of k)) (b % 128) 128) (b % 128 + c * 128)).reader (suc (suc (suc at))) 3 s)
  of_three l c p q s =
      found-step fresh_reader at 0 k (b ∷ c ∷ s) _ (begins at k h)
      ∙ found-step (awaiting at (place_of k)) (suc at) 1 b (c ∷ s) _ (groups (awaiting at (place_of k)) (suc at) b (OneMore (b % 128) 128) (place_inside k h) (first b l))
      ∙ found-step (grown (awaiting at (place_of k)) (b % 128) 128) (suc (suc at)) 2 c s _
      (groups (grown (awaiting at (place_of k)) (b % 128) 128) (suc (suc at)) c (Last (b % 128 + c * 128)) (place_inside k h) (second (b % 128) c (omega arith) p q))

-- a request
pub of_four : (at c u l : ℕ) → c < 128 → u < 128 → l < 128 → (s : List ℕ)
    → found_from fresh_reader at 0 (0 ∷ c ∷ u ∷ l ∷ s)
    ≡ settled (request_read (last_due at c u) l).outcome 4 (found_from (request_read (last_due at c u) l).reader (suc (suc (suc (suc at)))) 4 s)
of_four at c u l p q h s =
    found-step fresh_reader at 0 0 (c ∷ u ∷ l ∷ s) _ (begins-request at)
    ∙ found-step (awaiting at Code) (suc at) 1 c (u ∷ l ∷ s) _ (groups (awaiting at Code) (suc at) c (Last c) (hit within 1 tt) (only c p))
    ∙ found-step (next_number (awaiting at Code) c 0 Upper) (suc (suc at)) 2 u (l ∷ s) _
    (groups (next_number (awaiting at Code) c 0 Upper) (suc (suc at)) u (Last u) (hit within 2 tt) (only u q))
    ∙ found-step (last_due at c u) (suc (suc (suc at))) 3 l s _ (groups (last_due at c u) (suc (suc (suc at))) l (Last l) (hit within 3 tt) (only l h))

-- ---- where they stand

behind : (s : List ℕ) (i j : ℕ) → i < length s → j ≡ i + 1 → drop i s ≡ get_or s i 0 ∷ drop j s
behind s i j h e = let f : suc i ≡ j = omega (arith, e) in drop-cons s i 0 h ∙ ap (λ (k : ℕ). get_or s i 0 ∷ drop k s) f

module _ (s : List ℕ) (at : ℕ) (h : at + 4 ≤ length s) where
  two : drop at s ≡ get_or s at 0 ∷ get_or s (at + 1) 0 ∷ drop (at + 2) s
  two =
      behind s at (at + 1) (omega (arith, h)) refl
      ∙ ap (λ (t : List ℕ). get_or s at 0 ∷ t) (behind s (at + 1) (at + 2) (omega (arith, h)) (omega arith))

  three : drop at s ≡ get_or s at 0 ∷ get_or s (at + 1) 0 ∷ get_or s (at + 2) 0 ∷ drop (at + 3) s
  three = two ∙ ap (λ (t : List ℕ). get_or s at 0 ∷ get_or s (at + 1) 0 ∷ t) (behind s (at + 2) (at + 3) (omega (arith, h)) (omega arith))

  four : drop at s ≡ get_or s at 0 ∷ get_or s (at + 1) 0 ∷ get_or s (at + 2) 0 ∷ get_or s (at + 3) 0 ∷ drop (at + 4) s
  four =
      three ∙ ap (λ (t : List ℕ). get_or s at 0 ∷ get_or s (at + 1) 0 ∷ get_or s (at + 2) 0 ∷ t) (behind s (at + 3) (at + 4) (omega (arith, h)) (omega arith))

  -- what x is, whatever the reader and the rest, is found there
  pub found-two : get_or s at 0 ≤ 4 → get_or s (at + 1) 0 < 128 → {x : NextRecord}
      → ((r : Reader) (rest : NextRecord) → x ≡ settled (numbered (place_of (get_or s at 0)) r (get_or s (at + 1) 0)).outcome 2 rest) → x ≡ found_at s at
  unfolding found_at
  found-two k b e = e _ _ ∙ sym (of_two at (get_or s at 0) (get_or s (at + 1) 0) k b (drop (at + 2) s)) ∙ ap (found_from fresh_reader at 0) (sym two)

  pub found-three : get_or s at 0 ≤ 4 → 128 ≤ get_or s (at + 1) 0 → 0 < get_or s (at + 2) 0 → get_or s (at + 2) 0 < 128 → {x : NextRecord}
      → ((r : Reader) (rest : NextRecord) → x ≡ settled (numbered (place_of (get_or s at 0)) r (get_or s (at + 1) 0 % 128 + get_or s (at + 2) 0 * 128)).outcome 3 rest)
      → x ≡ found_at s at
  unfolding found_at
  found-three k b p q e =
      e _ _ ∙ sym (of_three at (get_or s at 0) (get_or s (at + 1) 0) k b (get_or s (at + 2) 0) p q (drop (at + 3) s)) ∙ ap (found_from fresh_reader at 0) (sym three)

  pub found-four : get_or s at 0 ≡ 0 → get_or s (at + 1) 0 < 128 → get_or s (at + 2) 0 < 128 → get_or s (at + 3) 0 < 128 → {x : NextRecord}
      → ((o : ℕ) (rest : NextRecord) → x ≡ settled (request_read (last_due o (get_or s (at + 1) 0) (get_or s (at + 2) 0)) (get_or s (at + 3) 0)).outcome 4 rest)
      → x ≡ found_at s at
  unfolding found_at
  found-four k c u l e =
      e at _
      ∙ sym (of_four at (get_or s (at + 1) 0) (get_or s (at + 2) 0) (get_or s (at + 3) 0) c u l (drop (at + 4) s))
      ∙ ap (λ (z : ℕ). found_from fresh_reader at 0 (z ∷ get_or s (at + 1) 0 ∷ get_or s (at + 2) 0 ∷ get_or s (at + 3) 0 ∷ drop (at + 4) s)) (sym k)
      ∙ ap (found_from fresh_reader at 0) (sym four)

-- ---- a glance in a piece

-- four bytes stand there, and no record was cut
pub glance-fits : (cut : Bool) (s : List ℕ) (n at : ℕ) → at < n → n ≤ glances_in cut s → at + 4 ≤ length s
glance-fits true s n at h l = absurd (omega (arith, h, l))
glance-fits false s n at h l = omega (arith, h, l)

pub glance-found : (cut : Bool) (begun : Reader) (s : List ℕ) (n at : ℕ) → at < n → n ≤ glances_in cut s → {f : NextRecord}
    → f ≡ found_at s at → f ≡ found_from (cond cut begun fresh_reader) at 0 (drop at s)
unfolding found_at
glance-found true begun s n at h l e = absurd (omega (arith, h, l))
glance-found false begun s n at h l e = e
