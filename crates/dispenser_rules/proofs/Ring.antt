-- The ring of the kept requests: one more request pushes out the oldest, the newest is written over, and what stands at a place. Assumes nothing.
use Prim.Native.Nat.{ℕ, zero, suc, ◌+◌, ◌-◌, ◌≤◌, ◌<◌}
use mathlib.Core.Path.{◌≡◌, refl, sym, ap, ◌∙◌}
use mathlib.Core.Bool.{cond}
use mathlib.Core.List.{List, [], ◌∷◌, ◌++◌, reverse, append-nil, append_assoc, reverse-append, reverse-reverse}
use native.Mathlib.Omega.{arith}
use native.Mathlib.Nat.{not-suc-le-zero, le_of_suc-le-suc}
use native.Mathlib.Numerals.{add-one}
use lib.Dec.{ltb}
use lib.ListN.{length, get_or, take, drop, set, take-append-drop, length-append, length-drop, length-set, length-reverse, length-replicate, drop_of_length-le, get_or-append}
use lib.Seq.{length-take-le, take_all, take_at, take-take, drop-cons, drop-drop, drop-append-le, drop-set-lt, take-suc-set, set-get_or, get_or-drop, get_or-take, get_or-append-add}
use Rattle.refusals.specs.Rules.{under, at_most, same}
use Rattle.refusals.proofs.Rules.{by_cases, cond-true, cond-false, holds-true, fails-false}
use Rattle.dispenser_rules.specs.Requests.{place, no_request, fresh_requests, advanced, slot_behind, one_more, newest_slot, slots_after, turned, oldest_first, around, kept_at}
use Rattle.dispenser_rules.specs.Kept.{at_place}
use Rattle.dispenser_rules.specs.declared.requests.KeptRequest.{KeptRequest}
use Rattle.dispenser_rules.specs.declared.requests.Place.{Place}
use Rattle.dispenser_rules.specs.declared.requests.Requests.{Requests}
use Rattle.dispenser_rules.specs.KeptAt.{Nothing, Request}

-- ---- lists

module _ {A : Type 0} where
  -- the first n of a list backwards are its last n, backwards
  take-reverse : (n : ℕ) (l : List A) → take n (reverse l) ≡ reverse (drop (length l - n) l)
  take-reverse n l =
      by_cases (at_most n (length l))
      (λ h.
      let k = length l - n in
      ap (take n) (ap reverse (sym (take-append-drop k l)) ∙ reverse-append (take k l) (drop k l))
      ∙ take_at (reverse (drop k l)) (reverse (take k l)) n (omega (arith, h, length-reverse (drop k l), length-drop k l)))
      (λ m.
      take_all n (reverse l) (omega (arith, m, length-reverse l))
      ∙ (let none : 0 ≡ length l - n = omega (arith, m) in ap (λ (k : ℕ). reverse (drop k l)) none))

  reverse_snoc : (l : List A) (x : A) → reverse (l ++ (x ∷ [])) ≡ x ∷ reverse l
  reverse_snoc l x = reverse-append l (x ∷ [])

  -- the slots from one on, and then those before it
  abbrev around-from : ℕ → List A → List A
  around-from i s = drop i s ++ take i s

  module _ (s : List A) (full : length s ≡ 32) (i : ℕ) (h : i < 32) where
    length-around : length (around-from i s) ≡ 32
    length-around = omega (arith, length-append (drop i s) (take i s), length-drop i s, length-take-le i s (omega (arith, full, h)), full)

    first-gone : (d : A) → drop 1 (around-from i s) ≡ drop (suc i) s ++ take i s
    first-gone d = ap (λ (l : List A). drop 1 (l ++ take i s)) (drop-cons s i d (omega (arith, full)))

    -- written at a slot, seen from the one slot_behind it: the first is gone, and it is the last
    pushed : (e : A) → around-from (slot_behind i) (set s i e) ≡ drop 1 (around-from i s) ++ (e ∷ [])
    unfolding slot_behind
    pushed e =
        by_cases (under i 31)
        (λ g.
        ap (λ (k : ℕ). around-from k (set s i e)) (cond-true _ _ (holds-true (under i 31) g) ∙ add-one i)
        ∙ ap (λ (l : List A). l ++ take (suc i) (set s i e)) (drop-set-lt (suc i) s i e (omega arith))
        ∙ ap (λ (l : List A). drop (suc i) s ++ l) (take-suc-set s i e (omega (arith, full)))
        ∙ sym (append_assoc (drop (suc i) s) (take i s) (e ∷ []))
        ∙ ap (λ (l : List A). l ++ (e ∷ [])) (sym (first-gone e)))
        (λ n.
        ap (λ (k : ℕ). around-from k (set s i e)) (cond-false _ _ (fails-false (under i 31) n))
        ∙ append-nil (set s i e)
        ∙ sym (take_all (suc i) (set s i e) (omega (arith, n, full, length-set s i e)))
        ∙ take-suc-set s i e (omega (arith, full))
        ∙ ap (λ (l : List A). l ++ take i s ++ (e ∷ [])) (sym (drop_of_length-le s {i = suc i} (omega (arith, n, full))))
        ∙ ap (λ (l : List A). l ++ (e ∷ [])) (sym (first-gone e)))

  -- what stands at a place of the slots from one on is what stands that far around the ring
  getD-around : (s : List A) → length s ≡ 32 → (i : ℕ) → i < 32 → (j : ℕ) → j < 32 → (d : A) → get_or (around-from i s) j d ≡ get_or s (around (i + j)) d
  unfolding around
  getD-around s full i h j g d =
      let tail = length-drop i s in
      by_cases (under (i + j) 32)
      (λ w.
      get_or-append (drop i s) (take i s) d j (omega (arith, full, tail)) ∙ get_or-drop i s j d
      ∙ ap (λ (k : ℕ). get_or s k d) (sym (cond-true _ _ (holds-true (under (i + j) 32) w))))
      (λ n.
      let k = i + j - 32 in
      let at : j ≡ length (drop i s) + k = omega (arith, full, tail, n) in
      ap (λ (k : ℕ). get_or (around-from i s) k d) at ∙ get_or-append-add (drop i s) (take i s) k d ∙ get_or-take i s k d (omega (arith, n))
      ∙ ap (λ (k : ℕ). get_or s k d) (sym (cond-false _ _ (fails-false (under (i + j) 32) n))))

-- a place that is held stands in one of the slots
pub slot-within : (next held i : ℕ) → next < 32 → held ≤ 32 → i < held → around (next + (32 - held + i)) < 32
unfolding around
slot-within next held i a b c =
    let far = next + (32 - held + i) in
    by_cases (under far 32) (λ w. rw (holds-true (under far 32) w) w) (λ n. rw (fails-false (under far 32) n) (omega (arith, b)))

-- what stands at a place of a list of requests
placed : (l : List KeptRequest) (i : ℕ) → i < length l → at_place l i ≡ Request (get_or l i no_request)
placed [] i h = absurd (not-suc-le-zero h)
placed (x ∷ xs) zero h = refl
placed (x ∷ xs) (suc i) h = placed xs i (le_of_suc-le-suc h)

unplaced : (l : List KeptRequest) (i : ℕ) → length l ≤ i → at_place l i ≡ Nothing
unplaced [] i h = refl
unplaced (x ∷ xs) zero h = absurd (not-suc-le-zero h)
unplaced (x ∷ xs) (suc i) h = unplaced xs i (le_of_suc-le-suc h)

-- ---- the ring

-- the slots are 32, the next one is one of them, no more than 32 are held; and those, the newest first, are the newest 32 of some requests
pub record Holds (r : Requests) (es : List KeptRequest) : Type 0 where
  pub within : r.place.next < 32
  pub few : r.place.held ≤ 32
  pub full : length r.slots ≡ 32
  pub list : reverse (oldest_first r) ≡ take 32 es

pub fresh_holds : Holds fresh_requests []
unfolding fresh_requests oldest_first
fresh_holds = record { within = omega arith; few = omega arith; full = length-replicate 32 no_request; list = refl }

-- the newest slot, of a place that is behind a slot
newest-behind : (i held : ℕ) → i < 32 → newest_slot (place (slot_behind i) held) ≡ i
unfolding newest_slot slot_behind
newest-behind i held h =
    by_cases (under i 31)
    (λ g. rw (holds-true (under i 31) g) (cond-false _ _ (fails-false (same (i + 1) 0) (λ e. omega arith)) ∙ omega arith))
    (λ n. rw (fails-false (under i 31) n) (omega (arith, n)))

-- written into a slot that is behind another's
written : (slots : List KeptRequest) (i held : ℕ) (y : KeptRequest) → i < 32
    → slots_after slots (record { slot = newest_slot (place (slot_behind i) held); request = y }) ≡ set slots i y
written slots i held y h =
    ap (λ (k : ℕ). slots_after slots (record { slot = k; request = y })) (newest-behind i held h) ∙ cond-true _ _ (holds-true (under i 32) h)

-- one request more
pub push : (r : Requests) (es : List KeptRequest) (y : KeptRequest) → Holds r es
    → Holds (record { place = advanced r.place; slots = slots_after r.slots (record { slot = newest_slot (advanced r.place); request = y }) }) (y ∷ es)
unfolding slot_behind one_more oldest_first
push r es y h =
    let i = r.place.next in
    let n = r.place.held in
    let more = cond (ltb n 32) (n + 1) n in
    let all = around-from i r.slots in
    let long : length all ≡ 32 = length-around r.slots h.full i h.within in
    let is : (1 ≤ more) × ((more ≤ 32) × (1 + (32 - more) ≡ 32 - n + (n - 31))) =
    by_cases (under n 32)
    (λ g. rw (holds-true (under n 32) g) (omega arith, (omega arith, omega arith)))
    (λ g. rw (fails-false (under n 32) g) (omega (arith, g, h.few), (omega (arith, g, h.few), omega (arith, g, h.few)))) in
    let slots = written r.slots i more y h.within in
    let many : n ≡ length (drop (32 - n) all) = omega (arith, long, length-drop (32 - n) all, h.few) in
    let left : reverse (drop (1 + (32 - more)) all) ≡ take 31 es =
    ap (λ (k : ℕ). reverse (drop k all)) is.1.1
    ∙ ap reverse (sym (drop-drop (n - 31) (32 - n) all))
    ∙ ap (λ (k : ℕ). reverse (drop (k - 31) (drop (32 - n) all))) many
    ∙ sym (take-reverse 31 (drop (32 - n) all))
    ∙ ap (take 31) h.list
    ∙ take-take 31 32 es (omega arith) in
    record {
      within = by_cases (under i 31) (λ g. rw (holds-true (under i 31) g) (omega arith)) (λ g. rw (fails-false (under i 31) g) (omega arith));
      few = is.1.0;
      full = ap length slots ∙ length-set r.slots i y ∙ h.full;
      list =
          ap (λ (s : List KeptRequest). reverse (drop (32 - more) (around-from (slot_behind i) s))) slots
          ∙ ap (λ (s : List KeptRequest). reverse (drop (32 - more) s)) (pushed r.slots h.full i h.within y)
          ∙ ap reverse (drop-append-le (32 - more) (drop 1 all) (y ∷ []) (omega (arith, long, length-drop 1 all, is.0)))
          ∙ reverse_snoc (drop (32 - more) (drop 1 all)) y
          ∙ ap (λ (s : List KeptRequest). y ∷ reverse s) (drop-drop (32 - more) 1 all)
          ∙ ap (λ (s : List KeptRequest). y ∷ s) left;
    }

-- a slot behind which the next one is
newest-is : (p : Place) → p.next < 32 → (newest_slot p < 32) × (slot_behind (newest_slot p) ≡ p.next)
unfolding newest_slot slot_behind
newest-is p h =
    by_cases (same p.next 0)
    (λ g. rw (holds-true (same p.next 0) g) (omega arith, sym g))
    (λ n.
    let i = p.next - 1 in
    rw (fails-false (same p.next 0) n) (omega arith, (cond-true _ _ (holds-true (under i 31) (omega (arith, n))) ∙ omega (arith, n))))

-- the newest is written over
pub settle : (r : Requests) (x : KeptRequest) (es : List KeptRequest) (y : KeptRequest) → Holds r (x ∷ es)
    → Holds (record { place = r.place; slots = slots_after r.slots (record { slot = newest_slot r.place; request = y }) }) (y ∷ es)
unfolding oldest_first
settle r x es y h =
    let i = newest_slot r.place in
    let n = r.place.held in
    let is = newest-is r.place h.within in
    let at = is.1 in
    let all = around-from i r.slots in
    let long : length all ≡ 32 = length-around r.slots h.full i is.0 in
    let z = get_or r.slots i no_request in
    let slots : slots_after r.slots (record { slot = i; request = y }) ≡ set r.slots i y = cond-true _ _ (holds-true (under i 32) is.0) in
    let seen : (e : KeptRequest) → around-from r.place.next (set r.slots i e) ≡ drop 1 all ++ (e ∷ []) =
    λ e. ap (λ (k : ℕ). around-from k (set r.slots i e)) (sym at) ∙ pushed r.slots h.full i is.0 e in
    let was : around-from r.place.next r.slots ≡ drop 1 all ++ (z ∷ []) =
    ap (around-from r.place.next) (sym (set-get_or r.slots i no_request)) ∙ seen z in
    let some : 1 ≤ n =
    by_cases (at_most 1 n) (λ g. g)
    (λ g. absurd
    (let none : drop (32 - n) (around-from r.place.next r.slots) ≡ [] =
    drop_of_length-le (around-from r.place.next r.slots) {i = 32 - n} (omega (arith, g, length-around r.slots h.full r.place.next h.within)) in
    let e : ◌≡◌ {A = List KeptRequest} [] (x ∷ take 31 es) = ap reverse (sym none) ∙ h.list in
    let w : ◌≡◌ {A = ℕ} 0 1 = cc in omega arith)) in
    let fits : 32 - n ≤ length (drop 1 all) = omega (arith, long, length-drop 1 all, some) in
    let back : (e : KeptRequest) → reverse (drop (32 - n) (drop 1 all ++ (e ∷ []))) ≡ e ∷ reverse (drop (32 - n) (drop 1 all)) =
    λ e. ap reverse (drop-append-le (32 - n) (drop 1 all) (e ∷ []) fits) ∙ reverse_snoc (drop (32 - n) (drop 1 all)) e in
    let e : z ∷ reverse (drop (32 - n) (drop 1 all)) ≡ x ∷ take 31 es =
    sym (back z) ∙ ap (λ (s : List KeptRequest). reverse (drop (32 - n) s)) (sym was) ∙ h.list in
    let rest : reverse (drop (32 - n) (drop 1 all)) ≡ take 31 es = cc in
    record {
      within = h.within;
      few = h.few;
      full = ap length slots ∙ length-set r.slots i y ∙ h.full;
      list =
          ap (λ (s : List KeptRequest). reverse (drop (32 - n) (around-from r.place.next s))) slots
          ∙ ap (λ (s : List KeptRequest). reverse (drop (32 - n) s)) (seen y)
          ∙ back y
          ∙ ap (λ (s : List KeptRequest). y ∷ s) rest;
    }

-- turned oldest first
pub held-list : (r : Requests) (es : List KeptRequest) → Holds r es → oldest_first r ≡ reverse (take 32 es)
held-list r es h = sym (reverse-reverse (oldest_first r)) ∙ ap reverse h.list

-- what is handed out at a place is what stands there
pub held_at : (r : Requests) (es : List KeptRequest) → Holds r es → (i : ℕ) → kept_at r i ≡ at_place (oldest_first r) i
unfolding kept_at oldest_first
held_at r es h i =
    let n = r.place.held in
    let all = turned r in
    let long : length all ≡ 32 = length-around r.slots h.full r.place.next h.within in
    let many : length (drop (32 - n) all) ≡ n = omega (arith, long, length-drop (32 - n) all, h.few) in
    by_cases (under i n)
    (λ g.
    rw (holds-true (under i n) g, holds-true (at_most n 32) h.few, holds-true (under r.place.next 32) h.within)
    (ap Request (sym (get_or-drop (32 - n) all i no_request ∙ getD-around r.slots h.full r.place.next h.within (32 - n + i) (omega (arith, h.few)) no_request))
    ∙ sym (placed (drop (32 - n) all) i (omega (arith, many)))))
    (λ m. rw (fails-false (under i n) m) (sym (unplaced (drop (32 - n) all) i (omega (arith, m, many)))))
