-- `numbers::write_groups` meets its contract. The invariant: the bytes put so far, and the groups of the rest after them, are the groups
-- of n. Assumes nothing.
use mathlib.Core.Path.{◌≡◌, sym, ap, ◌∙◌}
use mathlib.Core.List.{List, [], ◌∷◌, ◌++◌}
use Prim.Native.Nat.{ℕ, ◌+◌, ◌-◌, ◌/◌, ◌%◌, ◌≤◌, ◌<◌}
use native.Mathlib.Nat.{mod-eq_of_lt}
use lib.ListN.{length, length-append, length-drop, take, set}
use lib.Seq.{append_snoc, length-take-le}
use Rattle.numbers.specs.Seven.{groups}
use Rattle.std.proofs.lemmas.List.{take_all, take_more_set}
use Rattle.numbers.proofs.Groups.{groups-small, groups-large, groups-some, length-groups}
use Rattle.refusals.proofs.Writing.{writing-refused, writing-laid, over-closed}
use Rattle.refusals.specs.Rules.{under, at_most}
use Rattle.refusals.proofs.Rules.{certain}
use native.Mathlib.Omega.{arith}
use Rattle.numbers.proofs.write_groups.Goals as goal

-- the bytes that the code puts
more-groups : (n : ℕ) → 128 ≤ n → groups n ≡ (128 + n % 128) ∷ groups (n / 128)
more-groups n h = groups-large n h ∙ ap (λ b. b ∷ groups (n / 128)) (omega arith)

last-group : (n : ℕ) → n < 128 → groups n ≡ n % 128 ∷ []
last-group n h = groups-small n h ∙ ap (λ b. b ∷ []) (sym (mod-eq_of_lt h))

pub returns-then-room-k : goal.returns-then-room-k
returns-then-room-k c =
    writing-refused (groups c.args.n) c.args.room.now
    (omega (arith, length-groups c.args.n, c.places_of-k.ensures))

pub slice_bounds-b-items-count : goal.slice_bounds-b-items-count
slice_bounds-b-items-count c = omega (arith, groups-some c.args.n, length-groups c.args.n, c.places_of-k.ensures)

-- one byte more is put
put_one : (i b : ℕ) (left : List ℕ) (items bytes : List ℕ) → i < length items → bytes ≡ b ∷ left
    → take (i + 1) (set items i b) ++ left ≡ take i items ++ bytes
put_one i b left items bytes h e = rw (take_more_set items i b h, append_snoc, e)

-- the rest has one group where it is small, and more where it is not
small : (n : ℕ) → length (groups n) ≤ 1 → n < 128
small n h = certain (under n 128) (λ k. omega (arith, ap length (groups-large n (omega arith)), groups-some (n / 128)))

large : (n : ℕ) → 2 ≤ length (groups n) → 128 ≤ n
large n h = certain (at_most 128 n) (λ k. omega (arith, ap length (groups-small n (omega arith))))

pub loop-b-preserved : goal.loop-b-preserved
loop-b-preserved c =
    let turn = c.loop-b in
    let k = c.places_of-k.ensures ∙ sym (length-groups c.args.n) in
    let room = length-take-le (c.places_of-k.result - 1) c.args.room.now (omega arith) in
    let h : turn.b-index < length turn.b-items = omega arith in
    let g = more-groups turn.rest (large turn.rest (omega arith)) in (
      omega (arith, ap length g),
      put_one turn.b-index _ _ _ _ h g ∙ turn.invariant.1,
    )

pub overflow_sub-room : goal.overflow_sub-room
overflow_sub-room c = omega (arith, groups-some c.args.n, length-groups c.args.n, c.places_of-k.ensures)

pub bounds-room-k : goal.bounds-room-k
bounds-room-k c =
    let some = groups-some c.args.n in
    let k = c.places_of-k.ensures ∙ sym (length-groups c.args.n) in
    let room = length-take-le (c.places_of-k.result - 1) c.args.room.now (omega arith) in
    simp (length-append, length-drop) (omega arith)

pub returns : goal.returns
returns c =
    let end = c.loop-b in
    let args = c.args in
    let some = groups-some args.n in
    let k = c.places_of-k.ensures ∙ sym (length-groups args.n) in
    let room = length-take-le (c.places_of-k.result - 1) args.room.now (omega arith) in
    let all : length end.b-items ≤ end.b-index = omega arith in
    let g = last-group end.rest (small end.rest (omega arith)) in
    let put : end.b-items ++ (end.rest % 128 ∷ []) ≡ groups args.n = rw (← g, ← take_all end.b-index end.b-items all) end.invariant.1 in
    writing-laid (groups args.n) args.room.now _ _ (omega arith) k (over-closed _ _ _ _ args.room.now (omega arith) (omega arith) put)
