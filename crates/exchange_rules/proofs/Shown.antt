-- What is booked of a cassette is what the history gives, for each way in which a command opens and closes. Assumes nothing.
use Prim.Native.Nat.{ℕ, ◌+◌, ◌-◌, ◌≤◌}
use mathlib.Core.Path.{◌≡◌, refl, sym, ap, ◌∙◌}
use mathlib.Core.List.{List}
use native.Mathlib.Nat.{add-zero}
use native.Mathlib.Omega.{arith}
use borrow.Author.Tests.{le-leb}
use Rattle.refusals.specs.Rules.{at_most}
use Rattle.refusals.proofs.Rules.{pick}
use Rattle.ledger.specs.Account.{Dispenser, Totals, waiting, answered_by, turned_down, in_doubt, with-share}
use Rattle.exchange_rules.specs.Sums.{notes, plus, sums, sums_opened, sums_answered, sums_refused, sums_unknown, sums_rejected}
use Rattle.exchange_rules.specs.Machine.{plain}
use Rattle.exchange_rules.specs.Kept.{Bounded}
use Rattle.exchange_rules.specs.declared.notes.Notes.{Notes}
use Rattle.exchange_rules.specs.declared.notes.Sums.{Sums}

-- a sum that is far from the end of u32 is the plain sum
plus-plain : (a : Notes) (n : ℕ) → a.0 + n ≤ 4_294_967_295 → (plus a n).0 ≡ a.0 + n
unfolding plus
plus-plain a n h = rw (le-leb _ _ h)

-- any sum grows by no more than what is added
pub plus-most : (a : Notes) (n : ℕ) → (plus a n).0 ≤ a.0 + n
unfolding plus
plus-most a n = pick (λ (x : Notes). x.0 ≤ a.0 + n) (at_most (a.0 + n) 4_294_967_295) _ _ (λ h. omega arith) (λ h. omega arith)

-- the sums that the session keeps are these, one by one
pub record Shows (s : Sums) (t : Totals) : Type 0 where
  pub asked : s.asked.0 ≡ t.asked
  pub paid : s.paid.0 ≡ t.paid
  pub short : s.short.0 ≡ t.short
  pub over : s.over.0 ≡ t.over
  pub refused : s.refused.0 ≡ t.refused
  pub unknown : s.unknown.0 ≡ t.unknown
  pub pending : s.pending.0 ≡ t.pending
  pub rejected : s.rejected.0 ≡ t.rejected

pub together : {s : Sums} {t : Totals} → Shows s t → plain s ≡ t
together b = λ i.
    record {
      asked = b.asked i;
      paid = b.paid i;
      short = b.short i;
      over = b.over i;
      refused = b.refused i;
      unknown = b.unknown i;
      pending = b.pending i;
      rejected = b.rejected i;
    }

pub apart : {s : Sums} {t : Totals} → plain s ≡ t → Shows s t
apart e =
    record {
      asked = ap (λ t. t.asked) e;
      paid = ap (λ t. t.paid) e;
      short = ap (λ t. t.short) e;
      over = ap (λ t. t.over) e;
      refused = ap (λ t. t.refused) e;
      unknown = ap (λ t. t.unknown) e;
      pending = ap (λ t. t.pending) e;
      rejected = ap (λ t. t.rejected) e;
    }

-- every sum of a cassette has room for one answer more
abbrev pub Roomy : Sums → Type 0
Roomy s = Bounded 255 255_000_000 255_000_000 s

-- ---- one cassette of one command

module _ {R C : Type 0} (D : Dispenser R C) (s : Sums) (t : Totals) (q : R) (c : C) (roomy : Roomy s) where
  -- a request that is accepted is open
  opened-pending : t.pending ≡ 0 → (sums_opened s (D.wants q c)).pending.0 ≡ (with-share D t waiting q c).pending
  unfolding sums_opened with-share
  opened-pending z = omega arith

  pub shows-opened : Shows s t → t.pending ≡ 0 → D.wants q c ≤ 255 → Shows (sums_opened s (D.wants q c)) (with-share D t waiting q c)
  unfolding sums_opened with-share
  shows-opened b z m =
      record {
        asked = plus-plain s.asked _ (omega (arith, roomy.asked_most)) ∙ ap (λ (n : ℕ). n + D.wants q c) b.asked;
        paid = b.paid;
        short = b.short;
        over = b.over;
        refused = b.refused;
        unknown = b.unknown;
        pending = opened-pending z;
        rejected = b.rejected;
      }

  module _ (b : Shows s (with-share D t waiting q c)) (z : t.pending ≡ 0) where
    pub shows-refused : D.wants q c ≤ 255 → Shows (sums_refused s (D.wants q c)) (with-share D t turned_down q c)
    unfolding sums_refused with-share
    shows-refused m =
        record {
          asked = b.asked;
          paid = b.paid;
          short = b.short;
          over = b.over;
          refused = plus-plain s.refused _ (omega (arith, roomy.refused_most)) ∙ ap (λ (n : ℕ). n + D.wants q c) b.refused;
          unknown = b.unknown;
          pending = sym z;
          rejected = b.rejected;
        }

    pub shows-unknown : D.wants q c ≤ 255 → Shows (sums_unknown s (D.wants q c)) (with-share D t in_doubt q c)
    unfolding sums_unknown with-share
    shows-unknown m =
        record {
          asked = b.asked;
          paid = b.paid;
          short = b.short;
          over = b.over;
          refused = b.refused;
          unknown = plus-plain s.unknown _ (omega (arith, roomy.unknown_most)) ∙ ap (λ (n : ℕ). n + D.wants q c) b.unknown;
          pending = sym z;
          rejected = b.rejected;
        }

    -- an answer by the bytes f, which say e and r of this cassette
    module _ (f : List ℕ) where
      pub shows-answered : (e r : ℕ) → e ≡ D.exit q f c → r ≡ D.rejects q f c → D.wants q c ≤ 255 → e ≤ 255 → r ≤ 255
          → Shows (sums_answered s (D.wants q c) e r) (with-share D t (answered_by f) q c)
      unfolding sums_answered with-share
      shows-answered e r x y m g k =
          record {
            asked = b.asked;
            paid = plus-plain s.paid e (omega (arith, roomy.paid_most)) ∙ rw (b.paid, x);
            short = plus-plain s.short (D.wants q c - e) (omega (arith, roomy.short_most)) ∙ rw (b.short, x);
            over = plus-plain s.over (e - D.wants q c) (omega (arith, roomy.over_most)) ∙ rw (b.over, x);
            refused = b.refused;
            unknown = b.unknown;
            pending = sym z;
            rejected = plus-plain s.rejected r (omega (arith, roomy.rejected_most)) ∙ rw (b.rejected, y);
          }

-- ---- a cassette of which nothing was asked

-- none more is no more
plus_none : (a : Notes) → a ≡ plus a 0
unfolding plus
plus_none a = pick (λ (x : Notes). a ≡ x) (at_most (a.0 + 0) 4_294_967_295) _ _ (λ h. ap notes (sym (add-zero a.0))) (λ h. refl)

module _ (s : Sums) (z : s.pending.0 ≡ 0) where
  -- an answer that says only rejects of it
  pub rejected-answered : (r : ℕ) → sums_rejected s r ≡ sums_answered s 0 0 r
  unfolding sums_rejected sums_answered
  rejected-answered r = λ i.
      sums s.asked (plus_none s.paid i) (plus_none s.short i) (plus_none s.over i) s.refused s.unknown (notes (z i)) (plus s.rejected r)

  -- and one that says nothing of it
  pub left-answered : s ≡ sums_answered s 0 0 0
  unfolding sums_answered
  left-answered = λ i.
      sums s.asked (plus_none s.paid i) (plus_none s.short i) (plus_none s.over i) s.refused s.unknown (notes (z i)) (plus_none s.rejected i)
