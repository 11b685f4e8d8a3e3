-- The first 16 bytes of two recordings, or more, show how they begin. Assumes nothing.
use Prim.Native.Nat.{ℕ, zero, suc, ◌+◌, ◌*◌, ◌/◌, ◌≤◌, ◌<◌}
use mathlib.Core.Path.{◌≡◌, refl, sym, ap, ◌∙◌, subst}
use mathlib.Core.List.{List, [], ◌∷◌, ◌++◌, append_assoc}
use native.Mathlib.Omega.{arith}
use lib.ListN.{length, take, drop, length-append, take-append-drop}
use lib.Seq.{length-take-le, take_all, take-take}
use Rattle.refusals.specs.Rules.{under, at_most}
use Rattle.refusals.proofs.Rules.{by_cases}
use Rattle.numbers.specs.Promises.{AllBytes}
use Rattle.numbers.specs.Seven.{number_end, groups, after_group, group_after, read_from, read_groups}
use Rattle.numbers.specs.Grouped.{Group}
use Rattle.numbers.specs.Grouped.{More, Last, Wrong}
use Rattle.numbers.specs.Sevens.{Bad as NoNumber}
use Rattle.numbers.proofs.Groups.{groups-small, groups-large, group-trips, read-nil, read-cons}
use Rattle.recording.specs.Record.{how_many, AllBelow, laid_numbers, record_bytes}
use Rattle.recording.specs.Promises.{Faulty as Fault-in, kind, value, number, cut}
use Rattle.recording.specs.declared.Fault.{Fault}
use Rattle.recording.proofs.Trips.{laid_none, laid_more}
use Rattle.recording.proofs.Exact.{bytes_take}
use Rattle.parted.specs.Next.{Next}
use Rattle.parted.specs.declared.Parted.{Parted}
use Rattle.parted.specs.Due.{Due}
use Rattle.parted.specs.Due.{Whole}
use Rattle.parted.specs.declared.Turn.{Turn}
use Rattle.parted.specs.declared.Turn.TheVariants.{On, Ends}
use Rattle.parted.specs.Parting.{due_at, turn_at, parted, parting_from, parting_of}
use Rattle.parted.specs.Promises.{most_of_record, Window}
use Rattle.parted.proofs.Turns.{due-fits, turn_on, from_on, from-ends, from_start, from-later}
use Rattle.parted.proofs.Standing.{Stands, nothing, one, none, due-stands, stands-due}
use Rattle.parted.proofs.Turning.{turn-same}

-- ---- how long a record can be

one-group : (n : ℕ) → n < 128 → length (groups n) ≤ 1
one-group n h = omega (arith, ap length (groups-small n h))

-- numbers up to 128 times as large have one group more
grown : (b m : ℕ) → ((i : ℕ) → i < b → length (groups i) ≤ m) → (n : ℕ) → n < 128 * b → length (groups n) ≤ suc m
grown b m f n h =
    by_cases (under n 128)
    (λ l. omega (arith, one-group n l))
    (λ l. omega (arith, ap length (groups-large n (omega arith)), f (n / 128) (omega arith)))

five-groups : (n : ℕ) → n < number_end → length (groups n) ≤ 5
five-groups n h = grown 268_435_456 4 (grown 2_097_152 3 (grown 16_384 2 (grown 128 1 one-group))) n (omega arith)

few_bytes : (ns : List ℕ) → AllBelow ns → length (laid_numbers ns) ≤ 5 * length ns
few_bytes [] b = omega (arith, ap length laid_none)
few_bytes (n ∷ ns) b = omega (arith, ap length (laid_more n ns), length-append (groups n) (laid_numbers ns), five-groups n b.0, few_bytes ns b.1)

three-numbers : (k : ℕ) → how_many k ≤ 3
three-numbers zero = omega arith
three-numbers (suc zero) = omega arith
three-numbers (suc (suc zero)) = omega arith
three-numbers (suc (suc (suc zero))) = omega arith
three-numbers (suc (suc (suc (suc zero)))) = omega arith
three-numbers (suc (suc (suc (suc (suc zero))))) = omega arith
three-numbers (suc (suc (suc (suc (suc (suc k)))))) = omega arith

-- ---- no number stays none

no_number : (k acc w : ℕ) (t u : List ℕ) → read_from k acc w t ≡ NoNumber → read_from k acc w (t ++ u) ≡ NoNumber
no_number k acc w [] u e = let q = sym (read-nil k acc w) ∙ e in let z : ◌≡◌ {A = ℕ} 0 1 = cc in absurd (omega arith)
no_number k acc w (b ∷ t) u e =
    read-cons k acc w b (t ++ u) ∙ by (λ a v. no_number (suc k) a v t u) (group_after acc w b) (sym (read-cons k acc w b t) ∙ e)
  where
    by : ((a v : ℕ) → read_from (suc k) a v t ≡ NoNumber → read_from (suc k) a v (t ++ u) ≡ NoNumber) → (g : Group)
        → after_group (λ a v. read_from (suc k) a v t) (suc k) g ≡ NoNumber
        → after_group (λ a v. read_from (suc k) a v (t ++ u)) (suc k) g ≡ NoNumber
    by go (More a v) q = go a v q
    by go (Last n) q = let z : ◌≡◌ {A = ℕ} 0 1 = cc in absurd (omega arith)
    by go Wrong q = refl

groups_none : (t u : List ℕ) → read_groups t ≡ NoNumber → read_groups (t ++ u) ≡ NoNumber
unfolding read_groups
groups_none t u e = no_number 0 0 1 t u e

-- ---- what stands at the start of 16 bytes or more stands there whatever follows

-- behind a kind and numbers
longer : (k : ℕ) (ns t u : List ℕ) → k ∷ laid_numbers ns ++ (t ++ u) ≡ (k ∷ laid_numbers ns ++ t) ++ u
longer k ns t u = ap (λ (l : List ℕ). k ∷ l) (sym (append_assoc (laid_numbers ns) t u))

fault-longer : {why : Fault} {w : List ℕ} (u : List ℕ) → most_of_record ≤ length w → Fault-in why w → Fault-in why (w ++ u)
fault-longer u h (kind k t n) = kind k (t ++ u) n
fault-longer {why} u h (value k ns t i l b n) = subst (Fault-in why) (longer k ns t u) (value k ns (t ++ u) i l b n)
fault-longer {why} u h (number k ns t i l b e) = subst (Fault-in why) (longer k ns t u) (number k ns (t ++ u) i l b (groups_none t u e))
fault-longer u h (cut k ns t i l b e) =
    absurd (omega (arith, h, length-append (laid_numbers ns) t, few_bytes ns b, three-numbers k, l, ((group-trips.cut t).0 e).0))

stands-longer : (w u : List ℕ) (d : Due) → most_of_record ≤ length w → Stands w d → Stands (w ++ u) d
stands-longer w u d h (nothing l) = absurd (omega arith)
stands-longer w u d h (one x p) =
    one x (record { fit = p.fit; rest = p.rest ++ u; are = ap (λ (l : List ℕ). l ++ u) p.are ∙ append_assoc (record_bytes x) p.rest u })
stands-longer w u d h (none why f) = none why (fault-longer u h f)

window-due : (k : ℕ) (s : List ℕ) → most_of_record ≤ k → AllBytes s → due_at (take k s) 0 ≡ due_at s 0
window-due k s m h =
    by_cases (at_most (length s) k)
    (λ l. ap (λ (u : List ℕ). due_at u 0) (take_all k s l))
    (λ n.
    let l : length (take k s) ≡ k = length-take-le k s (omega arith) in
    let d = due_at (take k s) 0 in
    sym (stands-due s 0 h d
    (subst (λ (u : List ℕ). Stands u d) (take-append-drop k s)
    (stands-longer (take k s) (drop k s) d (omega arith) (due-stands (take k s) 0 (bytes_take k s h))))))

-- and its bytes are those of the whole
window_bytes : (k : ℕ) (s : List ℕ) (n : ℕ) → due_at (take k s) 0 ≡ Whole n → take n (take k s) ≡ take n s
window_bytes k s n e =
    by_cases (at_most (length s) k)
    (λ l. ap (take n) (take_all k s l))
    (λ h. take-take n k s (omega (arith, (due-fits (take k s) 0 n e).fits, length-take-le k s (omega arith))))

pub window : Window
window k s t m h j e = by (turn_at (take k s) (take k t) 0) refl
  where
    same : turn_at (take k s) (take k t) 0 ≡ turn_at s t 0
    same = turn-same (take k s) (take k t) s t 0 0 (window-due k s m h) (window-due k t m j) (window_bytes k s) (window_bytes k t)

    ends : (a b : List ℕ) (next : Next) → turn_at a b 0 ≡ Ends next → parting_of a b ≡ parted 0 0 next
    ends a b next q = sym (from_start a b) ∙ from-ends a b 0 0 next q

    by : (u : Turn) → turn_at (take k s) (take k t) 0 ≡ u → parting_of s t ≡ parting_of (take k s) (take k t)
    by (On n) q =
        let p : parting_of (take k s) (take k t) ≡ parting_from (take k s) (take k t) (0 + n) 1
        = sym (from_start _ _) ∙ from_on (take k s) (take k t) 0 0 n q in
        absurd
        (omega (
          arith,
          (due-fits (take k s) 0 n (turn_on (take k s) (take k t) 0 n q).student).some,
          from-later (take k s) (take k t) (0 + n) 1,
          e,
          ap (λ (x : Parted). x.at) p,
        ))
    by (Ends next) q = ends s t next (sym same ∙ q) ∙ sym (ends (take k s) (take k t) next q)
