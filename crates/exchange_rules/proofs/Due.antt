-- What the rules do is what is due, case by case: of each rule of the line, and of the bytes and the closing of each step. Assumes nothing.
use Prim.Native.Nat.{ℕ, ◌+◌, ◌-◌, ◌≤◌, ◌<◌}
use mathlib.Core.Path.{◌≡◌, refl, ap, subst}
use mathlib.Core.Bool.{cond}
use mathlib.Core.List.{List, [], ◌∷◌}
use native.Mathlib.Omega.{arith}
use lib.Dec.{ltb}
use lib.ListN.{length, take, set}
use borrow.Author.Tests.{lt-ltb}
use Rattle.refusals.specs.Rules.{under, at_most, same}
use Rattle.refusals.specs.Put.{over}
use Rattle.refusals.proofs.Rules.{either_way, certain, by_cases, holds-true, fails-false}
use Rattle.refusals.proofs.Writing.{over_last}
use Rattle.ledger.specs.Account.{waiting}
use Rattle.ledger.specs.Calls.{After}
use Rattle.ledger.specs.Told.{Verdict, bad, good, void, Closing, none, by_refusal, by_doubt, Due, due, nothing, due_nak, due_first, due_full, Answers}
use Rattle.exchange_rules.specs.Limits.{hand_overs, nak_limit}
use Rattle.exchange_rules.specs.Exchange.{first_byte, bad_frame, start_byte, inside_byte, heard_in, expired_in, expired, passed}
use Rattle.exchange_rules.specs.Machine.{Model, Box, Reply, StepAfter, discipline, acted, bad_step, judged_step, judge_step, byte_acted, request_refusals, left, called-request}
use Rattle.exchange_rules.specs.Owed.{Lawful}
use Rattle.exchange_rules.specs.declared.line.Phase.TheVariants.{First, Start, Inside}
use Rattle.exchange_rules.specs.declared.line.Line.{Line}
use Rattle.exchange_rules.specs.declared.line.Todo.{Todo}
use Rattle.exchange_rules.specs.declared.line.Todo.TheVariants.{Nothing, HandOver, Nak, LastNak, CloseRefused, CloseUnknown}
use Rattle.exchange_rules.specs.declared.line.Heard.{Heard}
use Rattle.exchange_rules.specs.declared.line.Heard.TheVariants.{Keep, Judge, Do}
use Rattle.exchange_rules.specs.declared.line.Hearing.{Hearing}

-- one byte at the start of a room that is long enough
one-over : (r : List ℕ) (b : ℕ) → 0 < length r → set r 0 b ≡ over (b ∷ []) r
one-over r b h = over_last (b ∷ []) b r 0 refl h

module _ {R X A C : Type 0} (U : Model R X A C) where
  -- what is to be done, as what is due
  abbrev pub spoken : Todo → R → Due X
  spoken Nothing q = nothing
  spoken HandOver q = due (U.layout q) none
  spoken Nak q = due (0x15 ∷ []) none
  spoken LastNak q = due (0x15 ∷ []) by_doubt
  spoken CloseRefused q = due [] by_refusal
  spoken CloseUnknown q = due [] by_doubt

  -- and what a byte is; f is the frame that it fills
  abbrev spoken_by : Heard → Line → R → List ℕ → Due X
  spoken_by Keep l q f = nothing
  spoken_by Judge l q f = due_full U.bytes (discipline U) (U.judges q f) l.naks
  spoken_by (Do t) l q f = spoken t q

  abbrev pub tells : Hearing → R → List ℕ → Due X
  tells u q f = spoken_by u.heard u.line q f

  -- ---- the rules of the line

  module _ (q : R) (l : Line) where
    -- a frame that is bad, or late
    pub bad-due : spoken (bad_frame l).todo q ≡ due_nak U.bytes (discipline U) l.naks
    unfolding bad_frame due_nak
    bad-due =
        by_cases (under l.naks (nak_limit - 1))
        (λ h. rw (holds-true (under l.naks (nak_limit - 1)) h, lt-ltb (l.naks + 1) nak_limit (omega arith)))
        (λ h. rw (fails-false (under l.naks (nak_limit - 1)) h, fails-false (under (l.naks + 1) nak_limit) (λ w. h (omega arith))))

    -- a byte, by where the line stands
    module _ (n b : ℕ) (f : List ℕ) where
      pub first-due : tells (heard_in First l n b) q f
          ≡ due_first U.bytes (discipline U) (record { asks = q; frame = U.layout q; handed = l.handed; fate = waiting }) b
      unfolding first_byte due_first
      first-due =
          by_cases (same b 0x06)
          (λ g. rw (holds-true (same b 0x06) g))
          (λ g. by_cases (same b 0x15)
          (λ h. by_cases (under l.handed hand_overs)
          (λ m. rw (fails-false (same b 0x06) g, holds-true (same b 0x15) h, holds-true (under l.handed hand_overs) m))
          (λ m. rw (fails-false (same b 0x06) g, holds-true (same b 0x15) h, fails-false (under l.handed hand_overs) m)))
          (λ h. rw (fails-false (same b 0x06) g, fails-false (same b 0x15) h)))

      pub start-due : tells (heard_in Start l n b) q f ≡ nothing
      unfolding start_byte
      start-due = by_cases (same b 0x01) (λ g. rw (holds-true (same b 0x01) g)) (λ g. rw (fails-false (same b 0x01) g))

      pub inside-due : tells (heard_in Inside l n b) q f
          ≡ cond (ltb (l.gathered + 1) n) nothing (due_full U.bytes (discipline U) (U.judges q f) l.naks)
      unfolding inside_byte
      inside-due =
          by_cases (under (l.gathered + 1) n) (λ g. rw (holds-true (under (l.gathered + 1) n) g)) (λ g. rw (fails-false (under (l.gathered + 1) n) g))

    -- a wait that has ended, and a tick
    pub first-expires : spoken (expired_in First l).todo q ≡ due [] by_doubt
    first-expires = refl

    pub start-expires : spoken (expired_in Start l).todo q ≡ due [] by_doubt
    start-expires = refl

    pub inside-expires : spoken (expired_in Inside l).todo q ≡ due_nak U.bytes (discipline U) l.naks
    inside-expires = bad-due

    pub passed-due : (ms : ℕ) → spoken (passed l ms).todo q ≡ cond (ltb ms l.left) nothing (spoken (expired l).todo q)
    unfolding passed
    passed-due ms = by_cases (under ms l.left) (λ g. rw (holds-true (under ms l.left) g)) (λ g. rw (fails-false (under ms l.left) g))

  -- ---- what a step answers

  abbrev pub Fits : Due X → List ℕ → StepAfter X → Type 0
  Fits w r v = Answers (λ (c : Closing X). c) w r v.reply v.room

  module _ (K : Lawful U) (q : R) (r : List ℕ) (sent : (U.sendable q).holds) (long : 16 ≤ length r) where
    pub acted-fits : (t : Todo) (l : Line) → Fits (spoken t q) r (acted U t l q r)
    unfolding over
    acted-fits Nothing l = (refl, (refl, refl))
    acted-fits HandOver l = let e = K.laid q r sent long in (ap (λ w. w.put) e, (refl, ap (λ w. w.room) e))
    acted-fits Nak l = (refl, (refl, one-over r 0x15 (omega arith)))
    acted-fits LastNak l = (refl, (refl, one-over r 0x15 (omega arith)))
    acted-fits CloseRefused l = (refl, (refl, refl))
    acted-fits CloseUnknown l = (refl, (refl, refl))

    judged-fits : (v : Verdict X) (l : Line) → Fits (due_full U.bytes (discipline U) v l.naks) r (judged_step U v l q r)
    unfolding bad_step
    judged-fits bad l = subst (λ (w : Due X). Fits w r (bad_step U l q r)) (bad-due q l) (acted-fits (bad_frame l).todo (bad_frame l).line)
    judged-fits (good x) l = (refl, (refl, one-over r 0x06 (omega arith)))
    judged-fits void l = (refl, (refl, one-over r 0x06 (omega arith)))

    pub byte_fits : (u : Hearing) (store : List ℕ) (at b : ℕ)
        → Fits (tells u q (take (U.bytes.span q) (set store at b))) r (byte_acted U u.heard u.line q store at b r).step
    unfolding judge_step over
    byte_fits u store at b = by u.heard
      where
        by : (t : Heard) → Fits (spoken_by t u.line q (take (U.bytes.span q) (set store at b))) r (byte_acted U t u.line q store at b r).step
        by Keep = (refl, (refl, refl))
        by Judge = judged-fits (U.judges q (take (U.bytes.span q) (set store at b))) u.line
        by (Do t) = acted-fits t u.line

  -- a request, refused or accepted
  module _ (K : Lawful U) (s : Box R A) (q : R) (r : List ℕ) where
    abbrev Requested : After (Box R A) (Reply X) → Type 0
    Requested w = Answers (λ (c : Closing X). c) (due (U.layout q) none) r w.reply w.room

    pub request-fits : Requested (called-request U s q r)
    unfolding called-request request_refusals
    request-fits =
        either_way Requested (request_refusals U s.line q r) (left U s r) _ (λ why. refl)
        (λ n.
        let e = K.laid q r (certain (U.sendable q) n.1.0) (certain (at_most 16 (length r)) (λ w. n.0 (omega arith))) in
        (ap (λ w. w.put) e, (refl, ap (λ w. w.room) e)))
