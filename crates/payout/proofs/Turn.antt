-- One turn of the search, and its ends: all of it over the definitions that range over the counts. Assumes nothing.
use Prim.Native.Nat.{ℕ, zero, suc, ◌+◌, ◌*◌, ◌-◌, ◌≤◌, ◌<◌}
use mathlib.Core.Path.{◌≡◌, refl, ap, sym, subst}
use mathlib.Core.Logic.{◌⊎◌, inl, inr}
use mathlib.Core.Bool.{Bool, true, false, cond}
use mathlib.Core.List.{List, [], ◌∷◌}
use native.Mathlib.Nat.{eq-or-lt_of_le, mul-le-mul_right, add-mul, one-mul}
use native.Mathlib.Omega.{arith}
use lib.Dec.{leb, ltb}
use borrow.Author.Tests.{leb-true, leb-false, ltb-true, ltb-false}
use lib.ListN.{length, get_or, take, drop}
use lib.Seq.{take_all}
use Rattle.payout.specs.Counts.{total, worth, Within, Each, MostFirst, Before, Chosen}
use Rattle.payout.specs.Scaffolding.{Job, held, Answer, lesser, with, better, notes_of}
use Rattle.payout.specs.declared.Counts.{Counts}
use Rattle.payout.specs.Found.{Found}
use Rattle.payout.specs.Found.{Nothing, Best}

-- the counts that do a job with fewer than n of the first cassette
abbrev pub Below : List ℕ → List ℕ → ℕ → ℕ → ℕ → ℕ → List ℕ → Type 0
Below vs ss each room amount n ms = Job vs ss each room amount ms × (get_or ms 0 0 < n)

-- ---- which counts come before which

before-cons : (n : ℕ) (ns ms : List ℕ) → Before ns ms → Before (n ∷ ns) (n ∷ ms)
unfolding total MostFirst
before-cons n ns ms (inl h) = inl (omega arith)
before-cons n ns ms (inr p) = inr (ap (λ (x : ℕ). n + x) p.0, inr (refl, p.1))

pub before-total : (ns ms : List ℕ) → Before ns ms → total ns ≤ total ms
before-total ns ms (inl h) = omega arith
before-total ns ms (inr p) = omega (arith, p.0)

-- as few notes as counts that come before ms, and more of the first cassette than ms
before_more : (n m : ℕ) (ns gs ms : List ℕ) → Before gs (m ∷ ms) → total (n ∷ ns) ≤ total gs → m < n → Before (n ∷ ns) (m ∷ ms)
unfolding MostFirst
before_more n m ns gs ms w le lt = by (eq-or-lt_of_le (omega (arith, before-total gs (m ∷ ms) w)))
  where
    by : (total (n ∷ ns) ≡ total (m ∷ ms)) ⊎ (total (n ∷ ns) < total (m ∷ ms)) → Before (n ∷ ns) (m ∷ ms)
    by (inl e) = inr (e, inl lt)
    by (inr h) = inl h

-- an answer of one property is one of any other that the same counts have
pub covers : (P Q : List ℕ → Type 0) (k : ℕ) (r : Found) → ((ms : List ℕ) → P ms → Q ms) → ((ms : List ℕ) → Q ms → P ms) → Answer P k r → Answer Q k r
unfolding Answer
covers P Q k Nothing to from a = λ ms q. a ms (from ms q)
covers P Q k (Best c) to from a = (record { has = to (held k c) a.0.has; before = λ ms q. a.0.before ms (from ms q) }, a.1)

-- ---- one cassette more, and n notes from it

module _ (v s : ℕ) (vs ss : List ℕ) (each room amount left n : ℕ) (worths : left + n * v ≡ amount) where
  -- the rest's counts, behind n of the first
  record Behind (ms : List ℕ) : Type 0 where
    ns : List ℕ
    is : ms ≡ n ∷ ns
    job : Job vs ss each (room - n) left ns

  ahead : n ≤ s → n ≤ each → n ≤ room → (ns : List ℕ) → Job vs ss each (room - n) left ns → Job (v ∷ vs) (s ∷ ss) each room amount (n ∷ ns)
  unfolding total worth Within Each
  ahead h h' h'' ns j =
      record {
        within = (h, j.within);
        limit = (h', j.limit);
        few = omega (arith, j.few, h'');
        exact = omega (arith, j.exact, worths);
      }

  -- the first count is n, so the rest makes what is left
  behind : (m : ℕ) (ms : List ℕ) → m ≡ n → Job (v ∷ vs) (s ∷ ss) each room amount (m ∷ ms) → Behind (m ∷ ms)
  unfolding total worth Within Each
  behind m ms e j =
      record {
        ns = ms;
        is = ap (λ (x : ℕ). x ∷ ms) e;
        job = record {
          within = j.within.1;
          limit = j.limit.1;
          few = omega (arith, j.few, e);
          exact = omega (arith, j.exact, worths, ap (λ (x : ℕ). x * v) e);
        };
      }

  -- fewer than n + 1 of the first: fewer than n, or n
  apart : (ms : List ℕ) → Below (v ∷ vs) (s ∷ ss) each room amount (n + 1) ms → Below (v ∷ vs) (s ∷ ss) each room amount n ms ⊎ Behind ms
  unfolding Within
  apart [] b = absurd b.0.within
  apart (m ∷ ms) b = by (eq-or-lt_of_le (omega (arith, b.1)))
    where
      by : (m ≡ n) ⊎ (m < n) → Below (v ∷ vs) (s ∷ ss) each room amount n (m ∷ ms) ⊎ Behind (m ∷ ms)
      by (inl e) = inr (behind m ms e b.0)
      by (inr h) = inl (b.0, h)

take-three : (k : ℕ) → k ≤ 3 → (a b c d : ℕ) → take k (a ∷ b ∷ c ∷ []) ≡ take k (a ∷ b ∷ c ∷ d ∷ [])
take-three zero h a b c d = refl
take-three (suc zero) h a b c d = refl
take-three (suc (suc zero)) h a b c d = refl
take-three (suc (suc (suc zero))) h a b c d = refl
take-three (suc (suc (suc (suc k)))) h a b c d = absurd (omega arith)

held_with : (k : ℕ) → k ≤ 3 → (n : ℕ) (c : Counts) → held (suc k) (with n c) ≡ n ∷ held k c
held_with k h n c = ap (λ (l : List ℕ). n ∷ l) (take-three k h c.first c.second c.third c.fourth)

module _ (v s : ℕ) (vs ss : List ℕ) (each room amount left n : ℕ) (worths : left + n * v ≡ amount)
    (h : n ≤ s) (h' : n ≤ each) (h'' : n ≤ room) (k : ℕ) (short : k ≤ 3) where
  abbrev P : List ℕ → Type 0
  P = Below (v ∷ vs) (s ∷ ss) each room amount n

  abbrev Q : List ℕ → Type 0
  Q = Below (v ∷ vs) (s ∷ ss) each room amount (n + 1)

  abbrev Rest : List ℕ → Type 0
  Rest = Job vs ss each (room - n) left

  more : (ms : List ℕ) → P ms → Q ms
  more ms p = (p.0, omega (arith, p.1))

  parts : (ms : List ℕ) → Q ms → P ms ⊎ Behind v s vs ss each room amount left n worths ms
  parts = apart v s vs ss each room amount left n worths

  -- n and the rest's counts come before all that was found: they are the answer
  taken : (c : Counts) → Answer Rest k (Best c) → ((ms : List ℕ) → P ms → Before (n ∷ held k c) ms) → Answer Q (suc k) (Best (with n c))
  unfolding Answer total
  taken c a w =
      subst (λ (l : List ℕ). Chosen Q l × (n + c.notes ≡ total l)) (sym (held_with k short n c)) (
        record {
          has = (ahead v s vs ss each room amount left n worths h h' h'' (held k c) a.0.has, omega arith);
          before = λ ms q. by ms (parts ms q);
        },
        ap (λ (x : ℕ). n + x) a.1,
      )
    where
      by : (ms : List ℕ) → P ms ⊎ Behind v s vs ss each room amount left n worths ms → Before (n ∷ held k c) ms
      by ms (inl p) = w ms p
      by ms (inr b) = subst (Before (n ∷ held k c)) (sym b.is) (before-cons n (held k c) b.ns (a.0.before b.ns b.job))

  -- the rest has none: the old answer stands
  none : (old : Found) → Answer P (suc k) old → Answer Rest k Nothing → Answer Q (suc k) old
  unfolding Answer
  none old a a' = covers P Q (suc k) old more (λ ms q. by ms (parts ms q)) a
    where
      by : (ms : List ℕ) → P ms ⊎ Behind v s vs ss each room amount left n worths ms → P ms
      by ms (inl p) = p
      by ms (inr b) = absurd (a' b.ns b.job)

  -- both have some: the new ones where they have no more notes
  both : (o c : Counts) → Answer P (suc k) (Best o) → Answer Rest k (Best c) → (t : Bool) → leb (n + c.notes) o.notes ≡ t
      → Answer Q (suc k) (cond t (Best (with n c)) (Best o))
  unfolding Answer total Within
  both o c a a' true e = taken c a' (λ ms p. by ms p)
    where
      by : (ms : List ℕ) → P ms → Before (n ∷ held k c) ms
      by [] p = absurd p.0.within
      by (m ∷ ms) p =
          before_more n m (held k c) (held (suc k) o) ms (a.0.before (m ∷ ms) p)
          (omega (arith, leb-true (n + c.notes) o.notes e, a.1, a'.1)) p.1
  both o c a a' false e =
      (record { has = more (held (suc k) o) a.0.has; before = λ ms q. by ms (parts ms q) }, a.1)
    where
      by : (ms : List ℕ) → P ms ⊎ Behind v s vs ss each room amount left n worths ms → Before (held (suc k) o) ms
      by ms (inl p) = a.0.before ms p
      by ms (inr b) =
          subst (Before (held (suc k) o)) (sym b.is)
          (inl (omega (arith, leb-false (n + c.notes) o.notes e, a.1, a'.1, before-total (held k c) b.ns (a'.0.before b.ns b.job))))

  turn : (old rest : Found) → Answer P (suc k) old → Answer Rest k rest → Answer Q (suc k) (better old n rest)
  unfolding better Answer
  turn old Nothing a a' = none old a a'
  turn Nothing (Best c) a a' = taken c a' (λ ms p. absurd (a ms p))
  turn (Best o) (Best c) a a' = both o c a a' (leb (n + c.notes) o.notes) refl

-- ---- the most that is tried

pub under-lesser : (m a b : ℕ) → m ≤ a → m ≤ b → m ≤ lesser a b
under-lesser m a b h h' = by (ltb a b)
  where
    by : (t : Bool) → m ≤ cond t a b
    by true = h
    by false = h'

pub lesser-under : (m a b : ℕ) → m ≤ lesser a b → (m ≤ a) × (m ≤ b)
lesser-under m a b = by (ltb a b) refl
  where
    by : (t : Bool) → ltb a b ≡ t → m ≤ cond t a b → (m ≤ a) × (m ≤ b)
    by true e h = (h, omega (arith, ltb-true a b e))
    by false e h = (omega (arith, ltb-false a b e), h)

below_or_not : (m n : ℕ) → (m < n) ⊎ (n ≤ m)
below_or_not m n = by (ltb m n) refl
  where
    by : (t : Bool) → ltb m n ≡ t → (m < n) ⊎ (n ≤ m)
    by true e = inl (ltb-true m n e)
    by false e = inr (ltb-false m n e)

-- ---- over any lists, as the code has them

-- what `&values[1..]` is
abbrev pub tail : List ℕ → List ℕ
tail xs = take (length xs - 1) (drop 1 xs)

tail-is : (x : ℕ) (xs : List ℕ) → tail (x ∷ xs) ≡ xs
tail-is x xs = take_all (length (x ∷ xs) - 1) xs (omega arith)

abbrev pub most : List ℕ → ℕ → ℕ → ℕ
most ss each room = lesser (get_or ss 0 0) (lesser each room)

module _ (vs ss : List ℕ) (some : (length vs ≡ 0) → ⊥) (same : length vs ≡ length ss) (short : length vs ≤ 4) (each room amount : ℕ) where
  pub turns : (left n : ℕ) (old rest : Found) → left + n * get_or vs 0 0 ≡ amount → n ≤ most ss each room
      → Answer (Below vs ss each room amount n) (length vs) old
      → Answer (Job (tail vs) (tail ss) each (room - n) left) (length (tail vs)) rest
      → Answer (Below vs ss each room amount (n + 1)) (length vs) (better old n rest)
  turns left n old rest = by vs ss some same short
    where
      by : (vs ss : List ℕ) → ((length vs ≡ 0) → ⊥) → length vs ≡ length ss → length vs ≤ 4 → left + n * get_or vs 0 0 ≡ amount → n ≤ most ss each room
          → Answer (Below vs ss each room amount n) (length vs) old
          → Answer (Job (tail vs) (tail ss) each (room - n) left) (length (tail vs)) rest
          → Answer (Below vs ss each room amount (n + 1)) (length vs) (better old n rest)
      by [] ss z e l w h a a' = absurd (z refl)
      by (v ∷ vs) [] z e l w h a a' = absurd (z e)
      by (v ∷ vs) (s ∷ ss) z e l w h a a' =
          let p = lesser-under n s (lesser each room) h in
          let q = lesser-under n each room p.1 in
          turn v s vs ss each room amount left n w p.0 q.0 q.1 (length vs) (omega arith) old rest a (rw (tail-is v vs, tail-is s ss) at a')

  -- no count of the first is left to try: what was found is the answer
  ends : (n : ℕ) (r : Found) → ((ms : List ℕ) → Job vs ss each room amount ms → get_or ms 0 0 < n)
      → Answer (Below vs ss each room amount n) (length vs) r → Answer (Job vs ss each room amount) (length vs) r
  ends n r all a = covers (Below vs ss each room amount n) (Job vs ss each room amount) (length vs) r (λ ms p. p.0) (λ ms q. (q, all ms q)) a

  first-within : (ms : List ℕ) → Job vs ss each room amount ms → (get_or ms 0 0 ≤ most ss each room) × (get_or ms 0 0 * get_or vs 0 0 ≤ amount)
  unfolding Within Each total worth
  first-within = by vs ss some same
    where
      by : (vs ss : List ℕ) → ((length vs ≡ 0) → ⊥) → length vs ≡ length ss → (ms : List ℕ) → Job vs ss each room amount ms
          → (get_or ms 0 0 ≤ most ss each room) × (get_or ms 0 0 * get_or vs 0 0 ≤ amount)
      by [] ss z e ms j = absurd (z refl)
      by (v ∷ vs) [] z e ms j = absurd (z e)
      by (v ∷ vs) (s ∷ ss) z e [] j = absurd j.within
      by (v ∷ vs) (s ∷ ss) z e (n ∷ ns) j = (
        under-lesser n s (lesser each room) j.within.0 (under-lesser n each room j.limit.0 (omega (arith, j.few))),
        omega (arith, j.exact),
      )

  pub ends-most : (n : ℕ) (r : Found) → most ss each room < n → Answer (Below vs ss each room amount n) (length vs) r → Answer (Job vs ss each room amount) (length vs) r
  ends-most n r h = ends n r (λ ms j. omega (arith, (first-within ms j).0))

  pub ends-left : (left n : ℕ) (r : Found) → left < get_or vs 0 0 → left + n * get_or vs 0 0 ≡ amount
      → Answer (Below vs ss each room amount (n + 1)) (length vs) r → Answer (Job vs ss each room amount) (length vs) r
  ends-left left n r h w = ends (n + 1) r (λ ms j. by (get_or ms 0 0) (first-within ms j).1 (below_or_not (get_or ms 0 0) (n + 1)))
    where
      by : (m : ℕ) → m * get_or vs 0 0 ≤ amount → (m < n + 1) ⊎ (n + 1 ≤ m) → m < n + 1
      by m le (inl l) = l
      by m le (inr g) = absurd (omega (arith, mul-le-mul_right (get_or vs 0 0) g, add-mul n 1 (get_or vs 0 0), one-mul (get_or vs 0 0)))

-- ---- no cassette is left, or nothing is tried yet

pub base-some : (vs ss : List ℕ) (each room amount : ℕ) → length vs ≡ 0 → length vs ≡ length ss → amount ≡ 0
    → Answer (Job vs ss each room amount) (length vs) (Best (record { notes = 0; first = 0; second = 0; third = 0; fourth = 0 }))
unfolding Answer total worth Within Each MostFirst
base-some [] [] each room amount z e q =
    (record { has = record { within = tt; limit = tt; few = omega arith; exact = sym q }; before = by }, refl)
  where
    by : (ms : List ℕ) → Job [] [] each room amount ms → Before [] ms
    by [] j = inr (refl, tt)
    by (n ∷ ms) j = absurd j.within
base-some [] (s ∷ ss) each room amount z e q = absurd (omega (arith, e))
base-some (v ∷ vs) ss each room amount z e q = absurd (omega (arith, z))

pub base-none : (vs ss : List ℕ) (each room amount : ℕ) → length vs ≡ 0 → ((amount ≡ 0) → ⊥) → Answer (Job vs ss each room amount) (length vs) Nothing
unfolding Answer worth
base-none [] ss each room amount z q = λ ms j. q (sym j.exact)
base-none (v ∷ vs) ss each room amount z q = absurd (omega (arith, z))

pub start : (vs ss : List ℕ) (each room amount : ℕ) → Answer (Below vs ss each room amount 0) (length vs) Nothing
unfolding Answer
start vs ss each room amount ms p = omega (arith, p.1)

pub notes-few : (vs ss : List ℕ) (each room amount k : ℕ) (r : Found) → Answer (Job vs ss each room amount) k r → notes_of r ≤ room
unfolding Answer
notes-few vs ss each room amount k Nothing a = omega arith
notes-few vs ss each room amount k (Best c) a = omega (arith, a.1, a.0.has.few)
