-- What a plain writer leaves, from what its code does: a room too short is refused, and bytes laid one by one or all at once are laid.
-- Assumes nothing.
use mathlib.Core.Path.{◌≡◌, refl, sym, ap, ap₂, ◌∙◌}
use mathlib.Core.Logic.{inl, ⊎_elim}
use mathlib.Core.List.{List, [], ◌∷◌, ◌++◌}
use Prim.Native.Nat.{ℕ, suc, ◌≤◌, ◌<◌}
use native.Mathlib.Nat.{le_refl}
use native.Mathlib.Numerals.{add-one}
use native.Mathlib.Omega.{arith}
use lib.ListN.{length, take, drop, set, length-append, take-append-drop}
use lib.Seq.{drop-cons, take-suc-set, drop-set-lt, append_snoc, set-append_seam, take-append_seam}
use borrow.Author.Tests.{lt-ltb, le-ltb}
use Rattle.refusals.specs.Put.{Bytes}
use Rattle.refusals.specs.declared.Refusal.TheVariants.{Room}
use Rattle.refusals.specs.declared.Refusal.{Refusal}
use Rattle.refusals.specs.Rules.{Rule, at_most, judged, NoneOf, Exactly}
use Rattle.refusals.specs.Put.{written, refused, laid, over, writing_refusals, writing}
use Rattle.refusals.specs.Promises.{WritingExactly}
use Rattle.refusals.proofs.Rules.{first-judged, none-judged, first_or_none, exactly, certain}

pub writing-refused : (bytes room : List ℕ) → length room < length bytes → refused Room room ≡ writing bytes room
unfolding writing
writing-refused bytes room h = rw (lt-ltb _ _ h)

pub writing-laid : (bytes room : List ℕ) (k : ℕ) (left : List ℕ) → length bytes ≤ length room → k ≡ length bytes → left ≡ over bytes room
    → written (Bytes k) left ≡ writing bytes room
unfolding writing
writing-laid bytes room k left h e f = rw (le-ltb _ _ h) (ap₂ (λ j l. written (Bytes j) l) e f)

-- the first of the bytes to be laid from i on is laid
pub over-one : (bytes : List ℕ) (b : ℕ) (rest room : List ℕ) (i : ℕ) → bytes ≡ b ∷ rest → i < length room
    → take (suc i) (set room i b) ++ over rest (drop (suc i) (set room i b)) ≡ take i room ++ over bytes (drop i room)
unfolding over
over-one bytes b rest room i e h =
    rw (e, take-suc-set room i b h, drop-set-lt (suc i) room i b (le_refl (suc i)), append_snoc, drop-cons room i 0 h)

-- and it is the last
pub over_last : (bytes : List ℕ) (b : ℕ) (room : List ℕ) (i : ℕ) → bytes ≡ b ∷ [] → i < length room
    → set room i b ≡ take i room ++ over bytes (drop i room)
unfolding over
over_last bytes b room i e h = sym (take-append-drop (suc i) (set room i b)) ∙ over-one bytes b [] room i e h

-- and where the bytes before it were laid all at once, the last is set behind them
pub over-closed : (b j : ℕ) (front bytes room : List ℕ) → length front ≡ j → j < length room → front ++ (b ∷ []) ≡ bytes
    → set (front ++ drop j room) j b ≡ over bytes room
unfolding over
over-closed b j front bytes room l h e =
    rw (drop-cons room j 0 h, ← l, set-append_seam, ← e, append_snoc, length-append, add-one)

-- a writer that put bytes met no refusal, and put the bytes that it lays
pub record Done (rs : List (Rule Refusal)) (bytes room : List ℕ) (n : ℕ) (after : List ℕ) : Type 1 where
  pub none : NoneOf rs
  pub put : n ≡ length bytes
  pub left : after ≡ over bytes room

pub done-laid : (rs : List (Rule Refusal)) (bytes room : List ℕ) (n : ℕ) (after : List ℕ)
    → judged rs (λ why. refused why room) (laid bytes room) ≡ written (Bytes n) after → Done rs bytes room n after
done-laid rs bytes room n after e =
    ⊎_elim
    (λ f.
    let r : refused f.0 room ≡ written (Bytes n) after = sym (first-judged (λ why. refused why room) (laid bytes room) rs f.0 f.1) ∙ e in
    absurd (let a = ap (λ w. w.answer) r in let z : ◌≡◌ {A = ℕ} 0 1 = cc in omega arith))
    (λ none.
    let r : laid bytes room ≡ written (Bytes n) after = sym (none-judged (λ why. refused why room) (laid bytes room) rs none) ∙ e in
    record { none = none; put = (let a = ap (λ w. w.answer) r in cc); left = sym (ap (λ w. w.room) r) })
    (first_or_none rs)

-- the bytes that were laid stand at the room's start
pub take-over : (bytes room : List ℕ) → take (length bytes) (over bytes room) ≡ bytes
unfolding over
take-over bytes room = take-append_seam bytes (drop (length bytes) room)

-- ---- each number exactly when it is due

-- of a writer that lays bytes or leaves the room
pub writes : (rs : List (Rule Refusal)) (bytes room : List ℕ)
    → Exactly rs (λ why. refused why room) (laid bytes room) (judged rs (λ why. refused why room) (laid bytes room))
writes rs bytes room =
    exactly rs (λ why. refused why room) (laid bytes room)
    (λ x y e. let a = ap (λ w. w.answer) e in cc)
    (λ x e. let a = ap (λ w. w.answer) e in let z : ◌≡◌ {A = ℕ} 0 1 = cc in omega arith)

pub writing-exactly : WritingExactly
unfolding writing
writing-exactly =
    record {
      short = λ bytes room.
          let w = (writes (writing_refusals bytes room) bytes room).refused Room in (
            λ e. ⊎_elim (λ h. h.0) (λ h. absurd h.1) (w.0 e),
            λ h. w.1 (inl (h, refl)),
          );
      long = λ bytes room.
          let w = (writes (writing_refusals bytes room) bytes room).accepted in (
            λ e. certain (at_most (length bytes) (length room)) (λ n. (w.0 e).0 (omega arith)),
            λ h. w.1 ((λ k. omega (arith, h, k)), tt),
          );
      number = refl;
    }
