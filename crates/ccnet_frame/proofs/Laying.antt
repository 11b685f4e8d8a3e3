-- AllBytes laid one after another at the start of a room are all of them laid there. Assumes nothing.
use Prim.Native.Nat.{ℕ, ◌+◌, ◌-◌, ◌/◌, ◌%◌, ◌≤◌, ◌<◌}
use mathlib.Core.Path.{◌≡◌, sym, ap, ◌∙◌}
use mathlib.Core.List.{List, [], ◌∷◌, ◌++◌, append_assoc, append-nil}
use native.Mathlib.Numerals.{add-one}
use native.Mathlib.Omega.{arith}
use lib.ListN.{length, take, drop, set, length-append, take-append-drop}
use lib.Seq.{drop-cons, drop-drop, drop-length, take-length, append_snoc, set-append_seam, take-append_seam, drop-append_seam}
use Rattle.refusals.specs.Put.{over}
use Rattle.ccnet_check.specs.Check.{check}
use Rattle.ccnet_frame.specs.Frame.{closed}

-- with no byte left to lay, all are laid
pub over-end : (s room all : List ℕ) (i : ℕ) → i ≡ length s → take i room ++ over (drop i s) (drop i room) ≡ all → room ≡ all
unfolding over
over-end s room all i e h = rw (e, drop-length s, take-append-drop) at h

-- bytes laid, and then more of them in what is left of the room
pub over-more : (s t room first rest : List ℕ) → first ≡ over s room
    → rest ≡ over t (take (length first - length s) (drop (length s) first))
    → take (length s) first ++ (rest ++ drop (length first - length s) (drop (length s) first)) ≡ over (s ++ t) room
unfolding over
over-more s t room first rest e f =
    let left = drop (length s) room in
    let k : length (s ++ left) - length s ≡ length left = simp length-append (omega arith) in
    rw (f, e)
    (simp (k, take-append_seam, drop-append_seam, take-length, drop-length, append-nil)
    (simp (drop-drop, length-append, append_assoc)))

-- one byte behind those laid
pub over-next : (s room : List ℕ) (b : ℕ) → length s < length room → set (over s room) (length s) b ≡ over (s ++ (b ∷ [])) room
unfolding over
over-next s room b h = rw (drop-cons room (length s) 0 h, set-append_seam, length-append, append_snoc, add-one)

-- a head, a body, and their two check bytes
pub closed-laid : (head body room : List ℕ) (c : ℕ) → length head + length body + 2 ≤ length room → c ≡ check (head ++ body)
    → set (set (over (head ++ body) room) (length head + length body) (c % 256)) (length head + length body + 1) (c / 256)
    ≡ over (closed (head ++ body)) room
unfolding closed
closed-laid head body room c h e =
    let s = head ++ body in
    let low = check s % 256 in
    let high = check s / 256 in
    let n : length head + length body ≡ length s = sym (length-append head body) in
    rw (n, e)
    (ap (λ (r : List ℕ). set r (length s + 1) high) (over-next s room low (omega arith))
    ∙ ap (λ (i : ℕ). set (over (s ++ (low ∷ [])) room) i high) (sym (length-append s (low ∷ [])))
    ∙ over-next (s ++ (low ∷ [])) room high (rw length-append (omega arith))
    ∙ ap (λ (f : List ℕ). over f room) (append_assoc s (low ∷ []) (high ∷ [])))
