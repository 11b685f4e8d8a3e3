-- How many bytes a number has, how those of a record follow each other, and what laying one behind the other leaves. Assumes nothing.
use Prim.Native.Nat.{ℕ, suc, ◌+◌, ◌-◌, ◌/◌, ◌≤◌, ◌<◌}
use mathlib.Core.Path.{◌≡◌, sym, ap, ap₂, ◌∙◌}
use mathlib.Core.List.{List, [], ◌∷◌, ◌++◌, append_assoc, append-nil}
use native.Mathlib.Omega.{arith}
use lib.ListN.{length, take, drop, length-append, length-drop, drop_of_length-le}
use lib.Seq.{drop-drop, drop-append_seam, take-append_seam, take_all}
use Rattle.refusals.specs.Put.{written, over, writing}
use Rattle.refusals.specs.Put.{Put}
use Rattle.refusals.specs.Put.{Bytes}
use Rattle.refusals.proofs.Writing.{writing-exactly}
use Rattle.numbers.specs.Seven.{groups}
use Rattle.numbers.proofs.Groups.{groups-small, groups-large}
use Rattle.recording.specs.Record.{kind_of, numbers_of, laid_numbers, record_bytes}
use Rattle.recording.specs.declared.Record.{Record}
use Rattle.recording.specs.declared.Record.TheVariants.{Request, Clear}
use Rattle.recording.proofs.Trips.{laid_more, laid_none}

-- ---- the groups of a number

pub one-group : (n : ℕ) → n < 128 → 1 ≡ length (groups n)
one-group n h = sym (ap length (groups-small n h))

pub group-more : (m n : ℕ) → 128 ≤ n → m ≡ length (groups (n / 128)) → suc m ≡ length (groups n)
group-more m n h e = ap suc e ∙ sym (ap length (groups-large n h))

-- ---- the bytes of a record

pub record-one : (x : Record) (n : ℕ) → numbers_of x ≡ n ∷ [] → record_bytes x ≡ kind_of x ∷ groups n
unfolding record_bytes
record-one x n e =
    ap (λ (l : List ℕ). kind_of x ∷ l)
    (ap laid_numbers e ∙ laid_more n [] ∙ ap (λ (l : List ℕ). groups n ++ l) laid_none ∙ append-nil (groups n))

pub record-request : (c u l : ℕ) → record_bytes (Request c u l) ≡ 0 ∷ (groups c ++ (groups u ++ groups l))
unfolding record_bytes
record-request c u l =
    ap (λ (y : List ℕ). 0 ∷ y)
    (laid_more c (u ∷ l ∷ [])
    ∙ ap (λ (y : List ℕ). groups c ++ y)
    (laid_more u (l ∷ [])
    ∙ ap (λ (y : List ℕ). groups u ++ y) (laid_more l [] ∙ ap (λ (y : List ℕ). groups l ++ y) laid_none ∙ append-nil (groups l))))

pub record-clear : record_bytes Clear ≡ 5 ∷ []
unfolding record_bytes
record-clear = ap (λ (l : List ℕ). 5 ∷ l) laid_none

-- how many they are
abbrev pub bytes_of : Record → ℕ
bytes_of x = length (record_bytes x)

pub length-one : (x : Record) (n : ℕ) → numbers_of x ≡ n ∷ [] → length (record_bytes x) ≡ 1 + length (groups n)
length-one x n e = ap length (record-one x n e) ∙ omega arith

pub length-request : (c u l : ℕ) → length (record_bytes (Request c u l)) ≡ 1 + length (groups c) + length (groups u) + length (groups l)
length-request c u l = omega (arith, ap length (record-request c u l), length-append (groups c) (groups u ++ groups l), length-append (groups u) (groups l))

-- ---- laid

-- a writer of bytes for which there is room has laid them
pub laid_as : (bytes room left : List ℕ) (p : Put) → length bytes ≤ length room → written p left ≡ writing bytes room
    → (p ≡ Bytes (length bytes)) × (left ≡ over bytes room)
laid_as bytes room left p h e =
    let q = e ∙ (writing-exactly.long bytes room).1 h in
    (ap (λ w. w.answer) q, ap (λ w. w.room) q)

-- a number laid from a place on: the room's first bytes keep their value
pub laid-number : (n at : ℕ) (room part : List ℕ) (p : Put) → at + length (groups n) ≤ length room
    → written p part ≡ writing (groups n) (take (length room - at) (drop at room))
    → (p ≡ Bytes (length (groups n))) × (take at room ++ (part ++ drop (length room - at) (drop at room)) ≡ take at room ++ over (groups n) (drop at room))
laid-number n at room part p h e =
    let size = length-drop at room in
    let w = laid_as (groups n) (drop at room) part p (omega (arith, size)) (e ∙ ap (writing (groups n)) (take_all (length room - at) (drop at room) (omega (arith, size)))) in (
      w.0,
      ap (λ (l : List ℕ). take at room ++ l)
          (ap (λ (l : List ℕ). part ++ l) (drop_of_length-le (drop at room) {i = length room - at} (omega (arith, size))) ∙ append-nil part ∙ w.1),
    )

pub length_over : (bytes room : List ℕ) → length bytes ≤ length room → length (over bytes room) ≡ length room
unfolding over
length_over bytes room h = omega (arith, length-append bytes (drop (length bytes) room), length-drop (length bytes) room)

-- behind bytes that were laid
over-behind : (a b room : List ℕ) → take (length a) (over a room) ++ over b (drop (length a) (over a room)) ≡ over (a ++ b) room
unfolding over
over-behind a b room =
    ap₂ (λ (x y : List ℕ). x ++ (b ++ drop (length b) y)) (take-append_seam a (drop (length a) room)) (drop-append_seam a (drop (length a) room))
    ∙ sym (append_assoc a b (drop (length b) (drop (length a) room)))
    ∙ ap (λ (l : List ℕ). (a ++ b) ++ l)
    (drop-drop (length b) (length a) room ∙ ap (λ (k : ℕ). drop k room) (sym (length-append a b)))

pub laid-behind : (a b room now after : List ℕ) (at : ℕ) → at ≡ length a → now ≡ over a room → after ≡ take at now ++ over b (drop at now) → after ≡ over (a ++ b) room
laid-behind a b room now after at e f g =
    g ∙ ap₂ (λ (k : ℕ) (l : List ℕ). take k l ++ over b (drop k l)) e f ∙ over-behind a b room

-- a record whose bytes were laid
pub laid-whole : (x : Record) (bytes room after : List ℕ) (n : ℕ) → record_bytes x ≡ bytes → n ≡ length bytes → after ≡ over bytes room
    → (n ≡ length (record_bytes x)) × (after ≡ over (record_bytes x) room)
laid-whole x bytes room after n q e f = (e ∙ ap length (sym q), f ∙ ap (λ (l : List ℕ). over l room) (sym q))
