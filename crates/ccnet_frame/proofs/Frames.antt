-- A frame laid out passes every test, and bytes that pass every test are laid out so: of every frame, by its address, its length byte and what stands behind
-- that; and of the frame of a body. Assumes nothing.
use Prim.Native.Nat.{ℕ, suc, ◌+◌, ◌-◌, ◌*◌, ◌/◌, ◌%◌, ◌≤◌}
use mathlib.Core.Path.{◌≡◌, refl, sym, ap, ap₂, ◌∙◌, subst}
use mathlib.Core.List.{List, [], ◌∷◌, ◌++◌}
use mathlib.Core.Logic.{⊎_elim}
use native.Mathlib.Omega.{arith}
use lib.ListN.{length, take, drop, get_or, length-append, length-drop}
use lib.Seq.{take_at, get_or-append-add, drop-cons, drop-length, split_at, length-take-le}
use mathlib.Core.Bool.{Bool}
use Rattle.refusals.specs.Rules.{Condition, says, same, both}
use Rattle.numbers.specs.Promises.{AllBytes}
use Rattle.refusals.proofs.Rules.{certain, first-judged, none-judged, first_or_none}
use Rattle.ccnet_check.specs.Check.{check}
use Rattle.ccnet_frame.specs.Frame.{closed, framed, frame, is_address, reader_faults, judge_sized, is_sized, judge_frame, body_of}
use Rattle.ccnet_frame.specs.Judged.{Good, Refused}

-- ---- bytes and their check

closed-length : (s : List ℕ) → length (closed s) ≡ length s + 2
unfolding closed
closed-length s = length-append s (check s % 256 ∷ check s / 256 ∷ [])

-- the last two bytes say the check of those before them
closed-says : (s : List ℕ)
    → check (take (length (closed s) - 2) (closed s))
    ≡ get_or (closed s) (length (closed s) - 2) 0 + 256 * get_or (closed s) (length (closed s) - 1) 0
unfolding closed
closed-says s =
    let ends = check s % 256 ∷ check s / 256 ∷ [] in
    let l : length (closed s) - 2 ≡ length s + 0 = omega (arith, closed-length s) in
    let h : length (closed s) - 1 ≡ length s + 1 = omega (arith, closed-length s) in
    rw (h, l, get_or-append-add s ends 0 0, get_or-append-add s ends 1 0, take_at s ends (length s + 0) (omega arith))
    (omega arith)

last-two : (s : List ℕ) → 2 ≤ length s
    → take (length s - 2) s ++ (get_or s (length s - 2) 0 ∷ get_or s (length s - 1) 0 ∷ []) ≡ s
last-two s h =
    let i = length s - 2 in
    let e : suc i ≡ length s - 1 = omega arith in
    let f : suc (suc i) ≡ length s = omega arith in
    let end : drop (suc i) s ≡ get_or s (length s - 1) 0 ∷ [] =
    drop-cons s (suc i) 0 (omega arith) ∙ rw (f, e, drop-length s) in
    sym (split_at s i 0 (omega arith) ∙ rw end)

-- and where the last two bytes say it, they are its two bytes
closed-again : (s : List ℕ) → AllBytes s → 2 ≤ length s
    → check (take (length s - 2) s) ≡ get_or s (length s - 2) 0 + 256 * get_or s (length s - 1) 0 → closed (take (length s - 2) s) ≡ s
unfolding closed
closed-again s bytes h e =
    let low = get_or s (length s - 2) 0 in
    let high = get_or s (length s - 1) 0 in
    let l : (low + 256 * high) % 256 ≡ low = omega (arith, bytes (length s - 2)) in
    let g : (low + 256 * high) / 256 ≡ high = omega (arith, bytes (length s - 2)) in
    rw (e, l, g) (last-two s h)

-- ---- every frame, by its address, its length byte and what stands behind that

-- what stands between the length byte and the check
abbrev pub between : List ℕ → List ℕ
between s = take (length s - 5) (drop 3 s)

module _ (address byte : ℕ) (rest : List ℕ) where
  -- the bytes before the check
  abbrev before : List ℕ
  before = 0x02 ∷ address ∷ byte ∷ rest

  abbrev whole : List ℕ
  whole = framed address byte rest

  pub framed-length : length whole ≡ 5 + length rest
  framed-length = omega (arith, closed-length before)

  pub framed-between : between whole ≡ rest
  unfolding closed
  framed-between =
      take_at rest (check before % 256 ∷ check before / 256 ∷ []) (length whole - 5) (omega (arith, framed-length))

  -- laid out, it passes every test where its length is right
  pub framed-judged : (sized : Condition) → (is_address address).holds → 1 ≤ length rest → sized.holds → judge_sized sized whole ≡ Good address
  unfolding closed judge_sized
  framed-judged sized named some right =
      none-judged Refused (Good address) (reader_faults sized whole) (
        (λ u. omega (arith, framed-length)),
        ((λ n. n (refl, named)), ((λ n. n right), ((λ n. n (closed-says before)), tt))),
      )

-- the three bytes before what stands behind the length byte
three-bytes : (s : List ℕ) → 3 ≤ length s → s ≡ get_or s 0 0 ∷ get_or s 1 0 ∷ get_or s 2 0 ∷ drop 3 s
three-bytes [] h = absurd (omega arith)
three-bytes (a ∷ []) h = absurd (omega arith)
three-bytes (a ∷ b ∷ []) h = absurd (omega arith)
three-bytes (a ∷ b ∷ c ∷ s) h = refl

-- one that is good passed every test, and is laid out so
pub record Passed (sized : Condition) (s : List ℕ) (address : ℕ) : Type 0 where
  pub long : 6 ≤ length s
  pub at : get_or s 1 0 ≡ address
  pub named : (is_address address).holds
  pub right : sized.holds
  pub checked : check (take (length s - 2) s) ≡ get_or s (length s - 2) 0 + 256 * get_or s (length s - 1) 0
  pub again : AllBytes s → framed address (get_or s 2 0) (between s) ≡ s

pub between-length : (s : List ℕ) → 6 ≤ length s → length (between s) ≡ length s - 5
between-length s h = length-take-le (length s - 5) (drop 3 s) (simp length-drop (omega arith))

pub passed : (sized : Condition) (s : List ℕ) (address : ℕ) → judge_sized sized s ≡ Good address → Passed sized s address
unfolding judge_sized
passed sized s address e =
    ⊎_elim
    (λ f.
    let r : Refused f.0 ≡ Good address = sym (first-judged Refused (Good (get_or s 1 0)) (reader_faults sized s) f.0 f.1) ∙ e in
    absurd (let z : ◌≡◌ {A = ℕ} 0 1 = cc in omega arith))
    (λ none.
    let r : Good (get_or s 1 0) ≡ Good address = sym (none-judged Refused (Good (get_or s 1 0)) (reader_faults sized s) none) ∙ e in
    let at : get_or s 1 0 ≡ address = cc in
    let long : 6 ≤ length s = omega (arith, none.0) in
    let opening = certain (both (same (get_or s 0 0) 0x02) (is_address (get_or s 1 0))) none.1.0 in
    let low = get_or s (length s - 2) 0 in
    let high = get_or s (length s - 1) 0 in
    let said = certain (same (check (take (length s - 2) s)) (low + 256 * high)) none.1.1.1.0 in
    let i : length s - 2 ≡ suc (suc (suc (length s - 5))) = omega arith in
    let front : take (length s - 2) s ≡ 0x02 ∷ address ∷ get_or s 2 0 ∷ between s
    = ap₂ take i (three-bytes s (omega arith)) ∙ rw (opening.0, at) in
    record {
      long = long;
      at = at;
      named = subst (λ (a : ℕ). (is_address a).holds) at opening.1;
      right = certain sized none.1.1.0;
      checked = said;
      again = λ bytes. ap closed (sym front) ∙ closed-again s bytes (omega arith) said;
    })
    (first_or_none (reader_faults sized s))

-- a length is right or not by what a test says
pub sized-by : (sized : Condition) (s : List ℕ) (t : Bool) → t ≡ sized.test → judge_sized (says t) s ≡ judge_sized sized s
unfolding judge_sized
sized-by sized s t e = rw e

-- ---- the frame of a body

module _ (address : ℕ) (body : List ℕ) where
  pub frame-length : length (frame address body) ≡ 5 + length body
  unfolding frame
  frame-length = framed-length address (5 + length body) body

  module _ (named : (is_address address).holds) (some : 1 ≤ length body) where
    pub frame-judged : judge_frame (frame address body) ≡ Good address
    unfolding frame closed judge_frame
    frame-judged = framed-judged address (5 + length body) body (is_sized (frame address body)) named some (sym frame-length)

    pub frame-body : body_of (frame address body) ≡ body
    unfolding frame
    frame-body = rw frame-judged (framed-between address (5 + length body) body)

module _ (s : List ℕ) (address : ℕ) (good : judge_frame s ≡ Good address) where
  good-passed : Passed (is_sized s) s address
  unfolding judge_frame
  good-passed = passed (is_sized s) s address good

  pub good-long : 6 ≤ length s
  good-long = good-passed.long

  pub good-address : (is_address address).holds
  good-address = good-passed.named

  pub good-sized : get_or s 2 0 ≡ length s
  good-sized = good-passed.right

  pub good-most : AllBytes s → length s ≤ 255
  good-most bytes = omega (arith, good-sized, bytes 2)

  body_is : body_of s ≡ between s
  body_is = rw good

  pub good-size : length (body_of s) ≡ length s - 5
  good-size = ap length body_is ∙ between-length s good-long

  pub good-frame : AllBytes s → frame address (body_of s) ≡ s
  unfolding frame
  good-frame bytes =
      let n : 5 + length (body_of s) ≡ get_or s 2 0 = omega (arith, good-long, good-size, good-sized) in
      rw (n, body_is) (good-passed.again bytes)
