-- A session that stands where its history says answers, at every call, what is due by that history: once for every unit. Assumes nothing.
use Prim.Native.Nat.{ℕ, ◌+◌, ◌-◌, ◌≤◌, ◌<◌}
use mathlib.Core.Path.{◌≡◌, refl, sym, ap, ◌∙◌, subst}
use mathlib.Core.Bool.{true, cond}
use mathlib.Core.List.{List, [], ◌∷◌}
use native.Mathlib.Omega.{arith}
use lib.Dec.{eqb, ltb}
use lib.ListN.{length, take, set}
use borrow.Author.Tests.{lt-ltb}
use Rattle.refusals.specs.Rules.{under, at_most, same}
use Rattle.refusals.specs.Put.{over}
use Rattle.refusals.proofs.Rules.{pick, either_way, certain, by_cases, holds-true, fails-false, cond-true}
use Rattle.ledger.specs.Events.{hears, waits as passes, goes_on, done, History, since}
use Rattle.ledger.specs.Account.{Ending}
use Rattle.ledger.specs.Calls.{After}
use Rattle.ledger.specs.Waiting.{some, waited}
use Rattle.ledger.specs.Told.{Closing, by_doubt, Due, due, nothing, naks, begun, turns, due_nak, due_full, due_later, due_byte, wait, due_tick, due_by, Answers}
use Rattle.ledger.proofs.Waiting.{begun-with, begun-next, unbegun-first, begun-came}
use Rattle.ledger.proofs.Follows.{as-open, OpenIn, while-open, while-shut}
use Rattle.exchange_rules.specs.Limits.{first_wait, frame_wait}
use Rattle.exchange_rules.specs.Exchange.{heard_in, heard, expired_in, expired, passed}
use Rattle.exchange_rules.specs.Machine.{Model, Box, Reply, discipline, acted, byte_acted, byte_refusals, tick_refusals, left, heard_step, called-byte, called-tick, Call, request, byte, tick, clear, clear_refusals, called-clear, lent, deed, called}
use Rattle.exchange_rules.specs.Kept.{Sound}
use Rattle.exchange_rules.specs.Owed.{Lawful}
use Rattle.exchange_rules.specs.declared.line.Phase.{Phase}
use Rattle.exchange_rules.specs.declared.line.Phase.TheVariants.{Idle, First, Start, Inside}
use Rattle.exchange_rules.specs.declared.line.Hearing.{Hearing}
use Rattle.exchange_rules.specs.declared.line.Turn.{Turn}
use Rattle.exchange_rules.proofs.Views.{view, rules, Tracks, at, stood, yet, grown, size}
use Rattle.exchange_rules.proofs.Due.{spoken, tells, first-due, start-due, inside-due, first-expires, start-expires, inside-expires, passed-due, Fits, acted-fits, byte_fits, request-fits}

module _ {R X A C O : Type 0} (U : Model R X A C) (K : Lawful U) (s : Box R A) (h : History R O Ending) (k : Sound U s) (t : Tracks U s h) where
  -- ---- a byte

  module _ (b : ℕ) where
    -- the store with it, as far as an answer goes
    abbrev full : List ℕ
    full = take (U.bytes.span s.asks) (set s.store s.line.gathered b)

    -- what is due of the open command
    abbrev open_due : Due X
    open_due = due_byte U.bytes (discipline U) h b (as-open (rules U) (view U s))

    -- what has come of an answer with it
    later : some (since h) ≡ true → (f : List ℕ) → begun (done (hears b) [] goes_on ∷ h) ≡ f
        → open_due ≡ due_later U.bytes (discipline U) (as-open (rules U) (view U s)) f (naks h)
    unfolding due_byte
    later c f e =
        cond-true _ _ c ∙ ap (λ (f : List ℕ). due_later U.bytes (discipline U) (as-open (rules U) (view U s)) f (naks h)) (sym (begun-with h goes_on b) ∙ e)

    first-told : s.line.phase ≡ First → open_due ≡ tells U (heard_in First s.line (U.bytes.span s.asks) b) s.asks full
    unfolding due_byte
    first-told e = rw (at U s h t e).fresh (sym (first-due U s.asks s.line (U.bytes.span s.asks) b full))

    -- before 01h, and with it alone, no answer is full
    start-told : s.line.phase ≡ Start → open_due ≡ tells U (heard_in Start s.line (U.bytes.span s.asks) b) s.asks full
    unfolding due_later
    start-told e =
        let x = at U s h t e in
        let least : 1 < U.bytes.span s.asks = K.least s.asks (stood U s k e).0.sent in
        let few : length (cond (eqb b 0x01) (b ∷ []) []) < U.bytes.span s.asks =
        by_cases (same b 0x01) (λ g. rw (holds-true (same b 0x01) g) (omega arith)) (λ g. rw (fails-false (same b 0x01) g) (omega arith)) in
        later x.came _ (begun-next h goes_on b x.unbegun) ∙ cond-true _ _ (lt-ltb _ _ few)
        ∙ sym (start-due U s.asks s.line (U.bytes.span s.asks) b full)

    inside-told : s.line.phase ≡ Inside → open_due ≡ tells U (heard_in Inside s.line (U.bytes.span s.asks) b) s.asks full
    unfolding due_later
    inside-told e =
        let x = at U s h t e in
        let n = U.bytes.span s.asks in
        let few = (stood U s k e).2 in
        let store = set s.store s.line.gathered b in
        later (begun-came h (yet U K s h k t b e)) _ (grown U K s h k t b e) ∙ rw (size U K s h k t b e, x.is.naks)
        (by_cases (under (s.line.gathered + 1) n)
        (λ g. rw (holds-true (under (s.line.gathered + 1) n) g))
        (λ g.
        let is : n ≡ s.line.gathered + 1 = omega (arith, few) in
        ap (λ (i : ℕ). cond (ltb (s.line.gathered + 1) n) nothing (due_full U.bytes (discipline U) (U.judges s.asks (take i store)) s.line.naks)) (sym is))
        ∙ sym (inside-due U s.asks s.line n b full))

    module _ (r : List ℕ) (long : 16 ≤ length r) where
      abbrev HeardFits : Hearing → Type 0
      HeardFits u = Fits U (due_by U.bytes (discipline U) h (hears b)) r (byte_acted U u.heard u.line s.asks s.store s.line.gathered b r).step

      open-fits : (u : Hearing) → OpenIn (rules U) (view U s) h → (U.sendable s.asks).holds → open_due ≡ tells U u s.asks full → HeardFits u
      open-fits u x sent e =
          subst (λ (w : Due X). Fits U w r (byte_acted U u.heard u.line s.asks s.store s.line.gathered b r).step)
          (sym (while-open (rules U) x (due_byte U.bytes (discipline U) h b) ∙ e))
          (byte_fits U K s.asks r sent long u s.store s.line.gathered b)

      heard-fits : HeardFits (heard s.line (U.bytes.span s.asks) b)
      unfolding heard over
      heard-fits = by s.line.phase refl
        where
          n : ℕ
          n = U.bytes.span s.asks

          by : (p : Phase) → s.line.phase ≡ p → HeardFits (heard_in p s.line (U.bytes.span s.asks) b)
          by Idle e = rw (while-shut (rules U) (at U s h t e) (due_byte U.bytes (discipline U) h b)) (refl, (refl, refl))
          by First e = open-fits (heard_in First s.line n b) (at U s h t e).is (stood U s k e).sent (first-told e)
          by Start e = open-fits (heard_in Start s.line n b) (at U s h t e).is (stood U s k e).0.sent (start-told e)
          by Inside e = open-fits (heard_in Inside s.line n b) (at U s h t e).is (stood U s k e).0.sent (inside-told e)

  -- ---- a tick

  module _ (ms : ℕ) where
    -- what is due of the open command, by the wait that goes on
    open-due : (w : ℕ) → wait U.bytes (discipline U) h ≡ w → s.line.left ≡ w - waited turns h
        → cond (some (begun h)) (due_nak U.bytes (discipline U) (naks h)) (due [] by_doubt) ≡ spoken U (expired s.line).todo s.asks
        → due_tick U.bytes (discipline U) h ms ≡ spoken U (passed s.line ms).todo s.asks
    unfolding due_tick
    open-due w e l z =
        let on = under (waited turns h + ms) (wait U.bytes (discipline U) h) in
        by_cases (under ms s.line.left)
        (λ g. rw (holds-true (under ms s.line.left) g, holds-true on (omega (arith, e, l))))
        (λ g. rw (fails-false (under ms s.line.left) g, fails-false on (λ n. g (omega (arith, e, l)))) z)
        ∙ sym (passed-due U s.asks s.line ms)

    expires : {p : Phase} → s.line.phase ≡ p → spoken U (expired_in p s.line).todo s.asks ≡ spoken U (expired s.line).todo s.asks
    unfolding expired
    expires e = ap (λ (p : Phase). spoken U (expired_in p s.line).todo s.asks) (sym e)

    module _ (r : List ℕ) (long : 16 ≤ length r) where
      abbrev PassedFits : Turn → Type 0
      PassedFits u = Fits U (due_by U.bytes (discipline U) h (passes ms)) r (acted U u.todo u.line s.asks r)

      tick-fits : (U.sendable s.asks).holds → OpenIn (rules U) (view U s) h
          → due_tick U.bytes (discipline U) h ms ≡ spoken U (passed s.line ms).todo s.asks → PassedFits (passed s.line ms)
      tick-fits sent x e =
          let u = passed s.line ms in
          subst (λ (w : Due X). Fits U w r (acted U u.todo u.line s.asks r))
          (sym (while-open (rules U) x (λ k. due_tick U.bytes (discipline U) h ms) ∙ e))
          (acted-fits U K s.asks r sent long u.todo u.line)

      passed-fits : PassedFits (passed s.line ms)
      unfolding passed expired wait over
      passed-fits = by s.line.phase refl
        where
          by : (p : Phase) → s.line.phase ≡ p → PassedFits (passed s.line ms)
          by Idle e =
              let w = while-shut (rules U) (at U s h t e) (λ k. due_tick U.bytes (discipline U) h ms) in
              pick PassedFits (under ms s.line.left) _ _ (λ g. rw w (refl, (refl, refl))) (λ g. rw (w, e) (refl, (refl, refl)))
          by First e =
              let x = at U s h t e in
              let z = ap some (unbegun-first h x.fresh) in
              tick-fits (stood U s k e).sent x.is
              (open-due first_wait (rw (z, ap some x.fresh)) x.wait (rw z (sym (first-expires U s.asks s.line) ∙ expires e)))
          by Start e =
              let x = at U s h t e in
              tick-fits (stood U s k e).0.sent x.is
              (open-due _ (rw (x.unbegun, x.came, x.is.naks)) x.wait (rw x.unbegun (sym (start-expires U s.asks s.line) ∙ expires e)))
          by Inside e =
              let x = at U s h t e in
              let z = yet U K s h k t 0 e in
              tick-fits (stood U s k e).0.sent x.is
              (open-due frame_wait (rw z) x.wait (rw (z, x.is.naks) (sym (inside-expires U s.asks s.line) ∙ expires e)))

  -- ---- the calls

  abbrev Due-of : Call R O → After (Box R A) (Reply X) → Type 0
  Due-of c w = Answers (λ (c : Closing X). c) (due_by U.bytes (discipline U) h (deed c)) (lent c) w.reply w.room

  pub called-told : (c : Call R O) → Due-of c (called U s c)
  unfolding called-byte byte_refusals heard_step called-tick tick_refusals called-clear over
  called-told (request q r) = request-fits U K s q r
  called-told (byte b r) =
      either_way (Due-of (byte b r)) (byte_refusals U r) (left U s r) _ (λ why. refl)
      (λ n. heard-fits b r (certain (at_most 16 (length r)) (λ w. n.0 (omega arith))))
  called-told (tick ms r) =
      either_way (Due-of (tick ms r)) (tick_refusals U ms r) (left U s r) _ (λ why. refl)
      (λ n. passed-fits ms r (certain (at_most 16 (length r)) (λ w. n.0 (omega arith))))
  called-told (clear o) = either_way (Due-of (clear o)) (clear_refusals U s.line) (left U s []) _ (λ why. refl) (λ n. (refl, (refl, refl)))
