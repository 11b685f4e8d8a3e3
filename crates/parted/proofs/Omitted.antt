-- Equal whole records are passed over, and leaving them out of both shifts place and count, and changes nothing else. Assumes nothing.
use Prim.Native.Nat.{ℕ, zero, suc, ◌+◌}
use mathlib.Core.Path.{◌≡◌, refl, sym, ap, ap₂, ◌∙◌}
use mathlib.Core.List.{List, [], ◌∷◌, ◌++◌, append_assoc}
use native.Mathlib.Omega.{arith}
use lib.ListN.{length, take, drop, length-append}
use lib.Seq.{drop-drop, drop-append_seam, drop-append-add}
use Rattle.numbers.specs.Promises.{AllBytes}
use Rattle.recording.specs.Record.{record_bytes, laid, AllInRange}
use Rattle.recording.specs.declared.Record.{Record}
use Rattle.recording.proofs.Exact.{none-laid, more-laid, bytes-behind}
use Rattle.parted.specs.declared.Turn.{Turn}
use Rattle.parted.specs.declared.Turn.TheVariants.{On, Ends}
use Rattle.parted.specs.Parting.{turn_at, turned, parting_in, parting_from}
use Rattle.parted.specs.Promises.{shifted, LeavingOut}
use Rattle.parted.proofs.Turns.{from_in, from_on, from_start}
use Rattle.parted.proofs.Standing.{due-same}
use Rattle.parted.proofs.Turning.{turn-same, on-from}

pub length-laid : (x : Record) (xs : List Record) → length (laid (x ∷ xs)) ≡ length (record_bytes x) + length (laid xs)
length-laid x xs = ap length (more-laid x xs) ∙ length-append (record_bytes x) (laid xs)

-- the bytes from a place on are a record's, and then u
module _ (x : Record) (xs : List Record) (s u : List ℕ) (at : ℕ) (e : drop at s ≡ laid (x ∷ xs) ++ u) where
  first-are : drop at s ≡ record_bytes x ++ (laid xs ++ u)
  first-are = e ∙ ap (λ (l : List ℕ). l ++ u) (more-laid x xs) ∙ append_assoc (record_bytes x) (laid xs) u

  rest-are : drop (at + length (record_bytes x)) s ≡ laid xs ++ u
  rest-are =
      sym (drop-drop (length (record_bytes x)) at s) ∙ ap (drop (length (record_bytes x))) first-are ∙ drop-append_seam (record_bytes x) (laid xs ++ u)

-- records that stand in both are passed over
pub passed : (xs : List Record) (s t u v : List ℕ) (at n : ℕ) → AllBytes s → AllBytes t → AllInRange xs
    → drop at s ≡ laid xs ++ u → drop at t ≡ laid xs ++ v
    → parting_from s t at n ≡ parting_from s t (at + length (laid xs)) (n + length xs)
passed [] s t u v at n h k i e f =
    ap₂ (λ (p q : ℕ). parting_from s t p q) (omega (arith, ap length none-laid)) (omega arith)
passed (x ∷ xs) s t u v at n h k i e f =
    from_on s t at n (length (record_bytes x))
    (on-from s t at h k x
    (record { fit = i.0; rest = laid xs ++ u; are = first-are x xs s u at e })
    (record { fit = i.0; rest = laid xs ++ v; are = first-are x xs t v at f }))
    ∙ passed xs s t u v (at + length (record_bytes x)) (suc n) h k i.1 (rest-are x xs s u at e) (rest-are x xs t v at f)
    ∙ ap₂ (λ (p q : ℕ). parting_from s t p q) (omega (arith, length-laid x xs)) (omega arith)

-- behind bytes a that both begin with, everything is as without them
module _ (a s t : List ℕ) (m : ℕ) (h : AllBytes (a ++ s)) (k : AllBytes (a ++ t)) (i : AllBytes s) (j : AllBytes t) where
  turn-behind : (at : ℕ) → turn_at (a ++ s) (a ++ t) (length a + at) ≡ turn_at s t at
  turn-behind at =
      let e = drop-append-add a s at in
      let f = drop-append-add a t at in
      turn-same (a ++ s) (a ++ t) s t (length a + at) at
      (due-same (a ++ s) s (length a + at) at h i e)
      (due-same (a ++ t) t (length a + at) at k j f)
      (λ n q. ap (take n) e)
      (λ n q. ap (take n) f)

  behind-in : (f at n : ℕ) → parting_in f (a ++ s) (a ++ t) (length a + at) (m + n) ≡ shifted (length a) m (parting_in f s t at n)
  unfolding parting_in
  behind-in zero at n = refl
  behind-in (suc f) at n =
      ap (λ (u : Turn). turned u (length a + at) (m + n) (λ k. parting_in f (a ++ s) (a ++ t) (length a + at + k) (suc (m + n)))) (turn-behind at)
      ∙ by (λ k. behind-in f (at + k) (suc n)) (turn_at s t at)
    where
      by : ((k : ℕ) → parting_in f (a ++ s) (a ++ t) (length a + (at + k)) (m + suc n) ≡ shifted (length a) m (parting_in f s t (at + k) (suc n)))
          → (u : Turn)
          → turned u (length a + at) (m + n) (λ k. parting_in f (a ++ s) (a ++ t) (length a + at + k) (suc (m + n)))
          ≡ shifted (length a) m (turned u at n (λ k. parting_in f s t (at + k) (suc n)))
      by go (On k) = ap₂ (λ (p q : ℕ). parting_in f (a ++ s) (a ++ t) p q) (omega arith) (omega arith) ∙ go k
      by go (Ends next) = refl

  behind-from : parting_from (a ++ s) (a ++ t) (length a) m ≡ shifted (length a) m (parting_from s t 0 0)
  behind-from =
      let f = suc (length (a ++ s)) in
      let l = length-append a s in
      sym (from_in f (a ++ s) (a ++ t) (length a) m (omega (arith, l)) (omega arith))
      ∙ ap₂ (λ (p q : ℕ). parting_in f (a ++ s) (a ++ t) p q) (omega arith) (omega arith)
      ∙ behind-in f 0 0
      ∙ ap (shifted (length a) m) (from_in f s t 0 0 (omega arith) (omega (arith, l)))

pub leaving-out : LeavingOut
leaving-out xs s t i h k =
    sym (from_start (laid xs ++ s) (laid xs ++ t))
    ∙ passed xs (laid xs ++ s) (laid xs ++ t) s t 0 0 h k i refl refl
    ∙ ap₂ (λ (p q : ℕ). parting_from (laid xs ++ s) (laid xs ++ t) p q) (omega arith) (omega arith)
    ∙ behind-from (laid xs) s t (length xs) h k (bytes-behind (laid xs) s h) (bytes-behind (laid xs) t k)
    ∙ ap (shifted (length (laid xs)) (length xs)) (from_start s t)
