-- Laws of what has come and how long has been waited, of a history. Assumes nothing.
use Prim.Native.Nat.{ℕ, ◌+◌, ◌≤◌}
use mathlib.Core.Path.{◌≡◌, refl, sym, ap, ◌∙◌}
use mathlib.Core.Bool.{Bool, true, false, cond, true≢false}
use mathlib.Core.List.{List, [], ◌∷◌, ◌++◌, append-nil, append_assoc}
use native.Mathlib.Nat.{add-zero}
use native.Mathlib.Omega.{arith}
use lib.Dec.{eqb}
use lib.ListN.{length}
use Rattle.ledger.specs.Events.{Deed, asks, hears, waits, own, Left, declined, done, History, is_frame, taken, bytes, since}
use Rattle.ledger.specs.Account.{last_of}
use Rattle.ledger.specs.Waiting.{some, from, heard, waited}
use Rattle.ledger.specs.Told.{nak_in, naks, begun, turns}
use Rattle.ledger.proofs.Laws.{last-of, OnLine}

-- ---- bytes

pub some_more : (l t : List ℕ) → some l ≡ true → some (l ++ t) ≡ true
some_more [] t e = absurd (true≢false (sym e))
some_more (b ∷ s) t e = refl

pub some-added : (l : List ℕ) (b : ℕ) → some (l ++ (b ∷ [])) ≡ true
some-added [] b = refl
some-added (c ∷ s) b = refl

pub some-long : (l : List ℕ) → 1 ≤ length l → some l ≡ true
some-long [] n = absurd (omega arith)
some-long (b ∷ s) n = refl

-- a frame is something, and no 15h
pub frame-some : (put : List ℕ) → is_frame put ≡ true → some put ≡ true
unfolding is_frame
frame-some [] e = e
frame-some (b ∷ s) e = refl

pub frame-no-nak : (put : List ℕ) → is_frame put ≡ true → nak_in put ≡ 0
unfolding is_frame
frame-no-nak [] e = refl
frame-no-nak (b ∷ []) e = absurd (true≢false (sym e))
frame-no-nak (b ∷ c ∷ s) e = refl

module _ (opening : ℕ) where
  -- before the opening byte has come: the next byte is it, or there is still none
  pub start-next : (s : List ℕ) (b : ℕ) → from opening s ≡ [] → from opening (s ++ (b ∷ [])) ≡ cond (eqb b opening) (b ∷ []) []
  unfolding from
  start-next [] b e = refl
  start-next (a ∷ s) b e = by (start-next s b) (eqb a opening) e
    where
      by : (from opening s ≡ [] → from opening (s ++ (b ∷ [])) ≡ cond (eqb b opening) (b ∷ []) []) → (t : Bool) → cond t (a ∷ s) (from opening s) ≡ []
          → cond t (a ∷ s ++ (b ∷ [])) (from opening (s ++ (b ∷ []))) ≡ cond (eqb b opening) (b ∷ []) []
      by again true f = absurd (true≢false (ap some f))
      by again false f = again f

  -- once it has come, every byte counts
  pub start-more : (s t : List ℕ) → some (from opening s) ≡ true → from opening (s ++ t) ≡ from opening s ++ t
  unfolding from
  start-more [] t e = absurd (true≢false (sym e))
  start-more (a ∷ s) t e = by (start-more s t) (eqb a opening) e
    where
      by : (some (from opening s) ≡ true → from opening (s ++ t) ≡ from opening s ++ t) → (u : Bool) → some (cond u (a ∷ s) (from opening s)) ≡ true
          → cond u (a ∷ s ++ t) (from opening (s ++ t)) ≡ cond u (a ∷ s) (from opening s) ++ t
      by again true f = refl
      by again false f = again f

-- ---- the bytes that have come of an answer are the last accepted

-- l ends in t
record Ends (l t : List ℕ) : Type 0 where
  before : List ℕ
  is : l ≡ before ++ t

ends-nothing : (l : List ℕ) → Ends l []
ends-nothing l = record { before = l; is = sym (append-nil l) }

ends_more : {l t : List ℕ} (s : List ℕ) → Ends l t → Ends (l ++ s) (t ++ s)
ends_more {l} {t} s e = record { before = e.before; is = ap (λ (x : List ℕ). x ++ s) e.is ∙ append_assoc e.before t s }

ends_through : {l t s : List ℕ} → Ends l t → Ends t s → Ends l s
ends_through {l} {t} {s} e f =
    record { before = e.before ++ f.before; is = e.is ∙ ap (λ (x : List ℕ). e.before ++ x) f.is ∙ sym (append_assoc e.before f.before s) }

ends_some : {l t : List ℕ} → Ends l t → some t ≡ true → some l ≡ true
ends_some {l} {t} e f = ap some e.is ∙ by e.before
  where
    by : (p : List ℕ) → some (p ++ t) ≡ true
    by [] = f
    by (b ∷ s) = refl

from-ends : (opening : ℕ) (l : List ℕ) → Ends l (from opening l)
unfolding from
from-ends opening [] = ends-nothing []
from-ends opening (b ∷ s) = by (eqb b opening) (from-ends opening s)
  where
    by : (t : Bool) → Ends s (from opening s) → Ends (b ∷ s) (cond t (b ∷ s) (from opening s))
    by true e = record { before = []; is = refl }
    by false e = record { before = b ∷ e.before; is = ap (λ (x : List ℕ). b ∷ x) e.is }

module _ {R O K : Type 0} where
  -- what came since anything was put, of what came since a frame was; and that, of all that came
  heard-ends : (h : History R O K) → Ends (since h) (heard h)
  unfolding since heard is_frame
  heard-ends [] = ends-nothing []
  heard-ends (declined ∷ h) = heard-ends h
  heard-ends (done d [] left ∷ h) = ends_more (taken d) (heard-ends h)
  heard-ends (done d (b ∷ s) left ∷ h) = ends-nothing _

  since-ends : (h : History R O K) → Ends (bytes h) (since h)
  unfolding bytes since
  since-ends [] = ends-nothing []
  since-ends (declined ∷ h) = since-ends h
  since-ends (done d put left ∷ h) = by (is_frame put) (since-ends h)
    where
      by : (t : Bool) → Ends (bytes h) (since h) → Ends (bytes h ++ taken d) (cond t [] (since h ++ taken d))
      by true e = ends-nothing _
      by false e = ends_more (taken d) e

  begun-ends : (h : History R O K) → Ends (since h) (begun h)
  unfolding begun
  begun-ends h = ends_through (heard-ends h) (from-ends 0x01 (heard h))

  pub begun-came : (h : History R O K) → some (begun h) ≡ true → some (since h) ≡ true
  begun-came h e = ends_some (begun-ends h) e

  pub begun-last : (h : History R O K) (n : ℕ) → n ≡ length (begun h) → last_of n (bytes h) ≡ begun h
  begun-last h n e =
      let x = ends_through (since-ends h) (begun-ends h) in
      ap (last_of n) x.is ∙ last-of x.before (begun h) n e

  -- before any byte has come none has begun an answer
  pub unbegun-first : (h : History R O K) → since h ≡ [] → begun h ≡ []
  unbegun-first h e = by (begun h) (begun-came h)
    where
      by : (l : List ℕ) → (some l ≡ true → some (since h) ≡ true) → l ≡ []
      by [] f = refl
      by (b ∷ s) f = absurd (true≢false (sym (f refl) ∙ ap some e))

-- ---- one call more

module _ {R O K : Type 0} (h : History R O K) (left : Left K) where
  -- something was put
  module _ (put : List ℕ) where
    pub line-naks : (d : Deed R O) → OnLine d → naks (done d put left ∷ h) ≡ naks h + nak_in put
    unfolding naks
    line-naks (asks r) o = absurd o
    line-naks (hears b) o = refl
    line-naks (waits ms) o = refl
    line-naks (own w) o = refl

    pub begun-sent : (d : Deed R O) → some put ≡ true → begun (done d put left ∷ h) ≡ []
    unfolding begun heard from
    begun-sent d e = rw e

    pub waited-sent : (d : Deed R O) → some put ≡ true → waited turns (done d put left ∷ h) ≡ 0
    unfolding waited
    waited-sent d e = rw e

  -- nothing was put, and time passed
  module _ (ms : ℕ) where
    pub begun-tick : begun (done (waits ms) [] left ∷ h) ≡ begun h
    unfolding begun heard
    begun-tick = ap (from 0x01) (append-nil (heard h))

    pub waited-tick : waited turns (done (waits ms) [] left ∷ h) ≡ waited turns h + ms
    unfolding waited
    waited-tick = refl

  -- nothing was put, and a byte came
  module _ (b : ℕ) where
    pub begun-with : begun (done (hears b) [] left ∷ h) ≡ from 0x01 (heard h ++ (b ∷ []))
    unfolding begun heard
    begun-with = refl

    pub begun-next : begun h ≡ [] → begun (done (hears b) [] left ∷ h) ≡ cond (eqb b 0x01) (b ∷ []) []
    unfolding begun heard
    begun-next e = start-next 0x01 (heard h) b e

    pub begun_more : some (begun h) ≡ true → begun (done (hears b) [] left ∷ h) ≡ begun h ++ (b ∷ [])
    unfolding begun heard
    begun_more e = start-more 0x01 (heard h) (b ∷ []) e

    -- it turns the wait: the first byte, and 01h
    pub waited-first : since h ≡ [] → waited turns (done (hears b) [] left ∷ h) ≡ 0
    unfolding waited
    waited-first e = rw e

    pub waited-start : some (since h) ≡ true → begun h ≡ [] → eqb b 0x01 ≡ true → waited turns (done (hears b) [] left ∷ h) ≡ 0
    unfolding waited
    waited-start s e o = rw (s, e, o)

    -- or the wait goes on
    pub waited-skip : some (since h) ≡ true → begun h ≡ [] → eqb b 0x01 ≡ false → waited turns (done (hears b) [] left ∷ h) ≡ waited turns h
    unfolding waited
    waited-skip s e o = rw (s, e, o) (add-zero (waited turns h))

    pub waited-inside : some (begun h) ≡ true → waited turns (done (hears b) [] left ∷ h) ≡ waited turns h
    unfolding waited
    waited-inside e = rw (begun-came h e, e) (add-zero (waited turns h))
