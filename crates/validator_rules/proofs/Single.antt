-- After a history one closing at most is due by a call: the bytes and the wait leave no choice. Assumes nothing.
use Prim.Native.Nat.{ℕ, ◌+◌}
use mathlib.Core.Path.{◌≡◌, refl, sym, ap, ◌∙◌, subst}
use mathlib.Core.Bool.{true, false, true≢false}
use mathlib.Core.Logic.{◌⊎◌, inl, inr, ⊎_elim}
use mathlib.Core.List.{List, [], ◌∷◌, ◌++◌}
use native.Mathlib.Omega.{arith}
use lib.Dec.{lit≤}
use lib.ListN.{length, get_or}
use Rattle.ccnet_frame.specs.Frame.{frame, judge_frame, body_of}
use Rattle.ccnet_class.specs.Class.{class_bytes, is_named}
use Rattle.ccnet_frame.specs.Judged.{Good}
use Rattle.ccnet_class.specs.declared.Class.{Class}
use Rattle.ccnet_class.specs.declared.Class.TheVariants.{Ack, Nak, Illegal, State, Busy, Rejecting, Failing, Escrow, Stacked, Returned, Unknown, Table}
use Rattle.ccnet_frame.proofs.Frames.{frame-length, frame-judged, frame-body}
use Rattle.ccnet_class.proofs.Classes.{classes}
use Rattle.ledger.specs.Events.{asks, hears, waits, own, goes_on, closes, since}
use Rattle.ledger.specs.Waiting.{waited}
use Rattle.validator_rules.specs.Calls.{Ending, acknowledged, not_acknowledged, illegal_command, answered, damaged, silent}
use Rattle.validator_rules.specs.Session.{class_to}
use Rattle.validator_rules.specs.History.{last_code, from_start, between, Carries, Unfinished, Says, starts, Lapses, InTime, OneDue}
use Rattle.validator_rules.proofs.Past.{third}
use Rattle.validator_rules.proofs.Telling.{replied, reply-to, plain-to, means_is, other-replied}

-- the closing that a body calls for
abbrev closing : Class → Ending
closing Ack = acknowledged
closing Nak = not_acknowledged
closing Illegal = illegal_command
closing (State b) = answered (State b)
closing (Busy b) = answered (Busy b)
closing (Rejecting b) = answered (Rejecting b)
closing (Failing b) = answered (Failing b)
closing (Escrow y) = answered (Escrow y)
closing (Stacked y) = answered (Stacked y)
closing (Returned y) = answered (Returned y)
closing Unknown = answered Unknown
closing Table = answered Table

-- an answer is none of the three that close without a reply
answers : (c : Class) → replied c ≡ true → answered c ≡ closing c
answers Ack e = absurd (true≢false (sym e))
answers Nak e = absurd (true≢false (sym e))
answers Illegal e = absurd (true≢false (sym e))
answers (State b) e = refl
answers (Busy b) e = refl
answers (Rejecting b) e = refl
answers (Failing b) e = refl
answers (Escrow y) e = refl
answers (Stacked y) e = refl
answers (Returned y) e = refl
answers Unknown e = refl
answers Table e = refl

module _ (code : ℕ) (f : List ℕ) where
  -- a good frame has one body, and is finished
  one-body : (body : List ℕ) → Carries f body → between f ≡ body
  unfolding between
  one-body body is =
      ap between is.0 ∙ sym (by (frame-judged 0x03 body (lit≤ tt, lit≤ tt) is.1.0)) ∙ frame-body 0x03 body (lit≤ tt, lit≤ tt) is.1.0
    where
      by : judge_frame (frame 0x03 body) ≡ Good 0x03 → body_of (frame 0x03 body) ≡ between (frame 0x03 body)
      by e = rw e

  finished : (body : List ℕ) → Carries f body → Unfinished f → ⊥
  finished body is u =
      let n : length f ≡ 5 + length body = ap length is.0 ∙ frame-length 0x03 body in
      let t : get_or f 2 0 ≡ 5 + length body = ap (λ (x : List ℕ). get_or x 2 0) is.0 ∙ third 0x03 body in
      omega (arith, n, t, (u.1 (omega (arith, n))).1)

  -- a byte that closes does not leave the bytes unfinished
  said-finished : (k : Ending) → Says code k f → Unfinished f → ⊥
  said-finished acknowledged is u = finished (0x00 ∷ []) is u
  said-finished not_acknowledged is u = finished (0xFF ∷ []) is u
  said-finished illegal_command is u = finished (0x30 ∷ []) is u
  said-finished (answered c) is u = finished (between f) is.0 u
  said-finished damaged is u = is.0 u
  said-finished silent is u = is

  -- what a byte closes as: damaged, or as the body of a good frame says
  abbrev Told : Ending → Type 0
  Told k = (Says code damaged f × (k ≡ damaged)) ⊎ (Carries f (between f) × (k ≡ closing (class_to code (between f))))

  by-class : (c : Class) → (is_named c).holds → replied c ≡ false → Carries f (class_bytes c) → Told (closing c)
  by-class c named none is =
      let e = one-body (class_bytes c) is in
      let back = classes.back c named in
      let to : class_to code (class_bytes c) ≡ c = plain-to (class_bytes c) code (ap replied back ∙ none) ∙ back in
      inr (subst (Carries f) (sym e) is, sym (ap (λ (x : List ℕ). closing (class_to code x)) e ∙ ap closing to))

  told : (k : Ending) → Says code k f → Told k
  told acknowledged is = by-class Ack tt refl is
  told not_acknowledged is = by-class Nak tt refl is
  told illegal_command is = by-class Illegal tt refl is
  told (answered c) is =
      let gets = other-replied (between f) is.1.0 in
      let to = means_is (between f) code c gets is.1.1 in
      inr (is.0, answers c (ap replied to ∙ reply-to (between f) code ∙ gets) ∙ ap closing to)
  told damaged is = inl (is, refl)
  told silent is = absurd is

  one-said : (k m : Ending) → Says code k f → Says code m f → k ≡ m
  one-said k m p q =
      ⊎_elim
      (λ x. ⊎_elim (λ y. x.1 ∙ sym y.1) (λ y. absurd (x.0.1 (between f) y.0)) (told m q))
      (λ x. ⊎_elim (λ y. absurd (y.0.1 (between f) x.0)) (λ y. x.1 ∙ sym y.1) (told m q))
      (told k p)

  -- a tick closes as damaged or as silent, and not before its time
  module _ (t : ℕ) where
    abbrev Late : Ending → Type 0
    Late k = ((f ≡ [] → ⊥) × (k ≡ damaged)) ⊎ ((f ≡ []) × (k ≡ silent))

    late : (k : Ending) → Lapses k f t → Late k
    late acknowledged is = absurd is
    late not_acknowledged is = absurd is
    late illegal_command is = absurd is
    late (answered c) is = absurd is
    late damaged is = inl (is.0, refl)
    late silent is = inr (is.0, refl)

    one-late : (k m : Ending) → Lapses k f t → Lapses m f t → k ≡ m
    one-late k m p q =
        ⊎_elim
        (λ x. ⊎_elim (λ y. x.1 ∙ sym y.1) (λ y. absurd (x.0 y.0)) (late m q))
        (λ x. ⊎_elim (λ y. absurd (y.0 x.0)) (λ y. x.1 ∙ sym y.1) (late m q))
        (late k p)

    not_late : (k : Ending) → Lapses k f t → InTime f t → ⊥
    not_late acknowledged is u = is
    not_late not_acknowledged is u = is
    not_late illegal_command is u = is
    not_late (answered c) is u = is
    not_late damaged is u = omega (arith, is.1, u.1 is.0)
    not_late silent is u = omega (arith, is.1, u.0 is.0)

pub one-due : OneDue
one-due h (asks r) goes_on goes_on p q = refl
one-due h (asks r) goes_on (closes m) p q = absurd q.1
one-due h (asks r) (closes k) goes_on p q = absurd p.1
one-due h (asks r) (closes k) (closes m) p q = absurd p.1
one-due h (hears b) goes_on goes_on p q = refl
one-due h (hears b) goes_on (closes m) p q = absurd (said-finished (last_code h) (from_start (since h ++ (b ∷ []))) m q.1 (p q.0))
one-due h (hears b) (closes k) goes_on p q = absurd (said-finished (last_code h) (from_start (since h ++ (b ∷ []))) k p.1 (q p.0))
one-due h (hears b) (closes k) (closes m) p q = ap closes (one-said (last_code h) (from_start (since h ++ (b ∷ []))) k m p.1 q.1)
one-due h (waits ms) goes_on goes_on p q = refl
one-due h (waits ms) goes_on (closes m) p q = absurd (not_late (last_code h) (from_start (since h)) (waited starts h + ms) m q.1 (p q.0))
one-due h (waits ms) (closes k) goes_on p q = absurd (not_late (last_code h) (from_start (since h)) (waited starts h + ms) k p.1 (q p.0))
one-due h (waits ms) (closes k) (closes m) p q = ap closes (one-late (last_code h) (from_start (since h)) (waited starts h + ms) k m p.1 q.1)
one-due h (own o) x y p q = absurd o
