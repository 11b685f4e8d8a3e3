-- What a writer makes of its plan: a frame that is refused leaves the room, and one that is not is laid there. Assumes nothing.
use Prim.Native.Nat.{ℕ, ◌+◌, ◌≤◌}
use mathlib.Core.Bool.{Bool}
use mathlib.Core.Path.{◌≡◌, refl, sym, ap, ap₂, ◌∙◌}
use mathlib.Core.List.{List, [], ◌∷◌}
use mathlib.Core.Logic.{⊎_elim}
use native.Mathlib.Omega.{arith}
use lib.ListN.{length}
use Rattle.refusals.specs.Rules.{Condition, Rule, within, judged}
use Rattle.refusals.specs.Put.{Written, written, writing, refused, laid, over}
use Rattle.refusals.specs.Put.{Bytes, Refused}
use Rattle.refusals.specs.declared.Refusal.{Refusal}
use Rattle.refusals.proofs.Rules.{certain, exactly, first-judged, none-judged, first_or_none}
use Rattle.ccnet_frame.specs.Frame.{closed, framed, frame, writer_refusals, frame_refusals, write_frame}
use Rattle.ccnet_frame.specs.Parts.{planned}
use Rattle.ccnet_frame.proofs.Frames.{frame-length}

-- f is a frame of n bytes, and sized says whether a frame may have them
module _ (sized : Condition) (n address : ℕ) (f room : List ℕ) where
  abbrev rules : List (Rule Refusal)
  rules = writer_refusals sized n address (length room)

  -- what a writer leaves
  abbrev outcome : Written
  outcome = judged rules (λ why. refused why room) (laid f room)

  pub planned-refused : (t : Bool) (why : Refusal) → t ≡ sized.test → planned t n address (length room) ≡ Refused why → refused why room ≡ outcome
  unfolding planned
  planned-refused t why e p =
      let differs : (x : Refusal) → Refused x ≡ Bytes n → ⊥ = λ x q. let z : ◌≡◌ {A = ℕ} 0 1 = cc in omega arith in
      let first = ((exactly rules Refused (Bytes n) (λ x y q. cc) differs).refused why).0 (rw e at p) in
      sym (first-judged (λ (w : Refusal). refused w room) (laid f room) rules why first)

  -- a frame of k bytes is to be written: it has a right length, the room holds it, and once it is laid it is written
  pub record Fit (k : ℕ) : Type 0 where
    pub long : k ≡ n
    pub right : sized.holds
    pub holds : n ≤ length room
    pub writes : (left : List ℕ) → length f ≡ n → left ≡ over f room → written (Bytes k) left ≡ outcome

  pub planned-fit : (t : Bool) (k : ℕ) → t ≡ sized.test → planned t n address (length room) ≡ Bytes k → Fit k
  unfolding planned
  planned-fit t k e p =
      let q = rw e at p in
      ⊎_elim
      (λ f.
      let r : Refused f.0 ≡ Bytes k = sym (first-judged Refused (Bytes n) rules f.0 f.1) ∙ q in
      absurd (let z : ◌≡◌ {A = ℕ} 0 1 = cc in omega arith))
      (λ none.
      let r : Bytes n ≡ Bytes k = sym (none-judged Refused (Bytes n) rules none) ∙ q in
      let long : k ≡ n = cc in
      record {
        long = long;
        right = certain sized none.0;
        holds = omega (arith, none.1.0);
        writes = λ left l e.
            ap₂ (λ (i : ℕ) (r : List ℕ). written (Bytes i) r) (long ∙ sym l) e
            ∙ sym (none-judged (λ (w : Refusal). refused w room) (laid f room) rules none);
      })
      (first_or_none rules)

-- the frame of a body
module _ (address : ℕ) (body room : List ℕ) where
  pub body_refused : (size : ℕ) (t : Bool) (why : Refusal) → size ≡ length body → t ≡ (within 1 250 size).test
      → planned t (5 + size) address (length room) ≡ Refused why → refused why room ≡ write_frame address body room
  unfolding write_frame frame_refusals
  body_refused size t why l e p =
      planned-refused (within 1 250 (length body)) (5 + length body) address (frame address body) room t why (rw l at e) (rw l at p)

  pub record BodyFit (n : ℕ) : Type 0 where
    pub long : n ≡ 5 + length body
    pub most : n ≤ 255
    pub holds : n ≤ length room
    pub writes : (left : List ℕ) → left ≡ over (framed address n body) room → written (Bytes n) left ≡ write_frame address body room

  pub body-fit : (size n : ℕ) (t : Bool) → size ≡ length body → t ≡ (within 1 250 size).test
      → planned t (5 + size) address (length room) ≡ Bytes n → BodyFit n
  unfolding write_frame frame_refusals frame
  body-fit size n t l e p =
      let fit = planned-fit (within 1 250 (length body)) (5 + length body) address (frame address body) room t n (rw l at e) (rw l at p) in
      record {
        long = fit.long;
        most = omega (arith, fit.long, fit.right.1);
        holds = omega (arith, fit.long, fit.holds);
        writes = λ left q.
            fit.writes left (frame-length address body) (q ∙ ap (λ (k : ℕ). over (framed address k body) room) fit.long);
      }

-- ACK and NAK: nothing but the room is asked
pub one-byte-written : (b : ℕ) (room : List ℕ) → write_frame 0x03 (b ∷ []) room ≡ writing (frame 0x03 (b ∷ [])) room
unfolding write_frame frame_refusals writing frame closed
one-byte-written b room = refl
