-- From what is laid to what is said: records in range are read again, and bytes that are no record are refused as they should. Assumes nothing.
use Prim.Native.Nat.{ℕ, zero, suc, ◌+◌, ◌≤◌, ◌<◌}
use mathlib.Core.Path.{◌≡◌, refl, sym, ap, ap₂, ◌∙◌, subst}
use mathlib.Core.List.{List, [], ◌∷◌, ◌++◌, append_assoc, append-nil}
use native.Mathlib.Omega.{arith}
use lib.ListN.{length, get_or, length-append}
use lib.Seq.{drop-append_seam}
use Rattle.numbers.specs.Seven.{number_end, groups}
use Rattle.numbers.proofs.Groups.{group-trips}
use Rattle.recording.specs.Record.{kind_of, numbers_of, is_kind, how_many, takes, AllBelow, laid_numbers, record_bytes, laid, AllInRange}
use Rattle.recording.specs.Reading.{Reading, records, bad, fresh_reader, also, went, reading_from}
use Rattle.recording.specs.Promises.{Faulty, kind, value, number, cut, ReadsBack}
use Rattle.recording.specs.declared.Fault.{Fault}
use Rattle.recording.specs.declared.Fault.TheVariants.{Unknown}
use Rattle.recording.specs.declared.Record.{Record}
use Rattle.recording.specs.declared.Record.TheVariants.{Request, DispenserByte, Tick, ValidatorByte, Command, Clear}
use Rattle.recording.specs.declared.Reader.{Reader}
use Rattle.recording.specs.declared.Step.{Step}
use Rattle.recording.proofs.Folds.{reading-cons}
use Rattle.recording.proofs.Numbers.{Stage, stage-kind}
use Rattle.recording.proofs.Trips.{laid_more, laid_none, below-snoc, how-many, kind-turn, kind-other, After, goes, ends, fails, after_turn, comes-number, comes-bad, comes-cut}

-- ---- numbers that are laid

module _ {at k : ℕ} {ns : List ℕ} {r : Reader} (s : Stage at k ns r) (a : r.acc ≡ 0) (w : r.weight ≡ 1) (b : AllBelow ns) (p n : ℕ) (t : List ℕ) (h : n < number_end) where
  passes : After at k (ns ++ (n ∷ [])) (p + length (groups n)) t (reading_from r p (groups n ++ t))
  passes =
      subst (λ (l : List ℕ). After at k (ns ++ (n ∷ [])) (p + length (groups n)) l (reading_from r p (groups n ++ t))) (drop-append_seam (groups n) t)
      (comes-number s a w p (groups n ++ t) n (length (groups n)) (group-trips.back n t h) b)

-- numbers ms that are laid behind those read
laid-behind : (ms : List ℕ) {at k : ℕ} {ns : List ℕ} {o : Reading} → AllBelow ns → AllBelow ms → length (ns ++ ms) ≤ how_many k → (p : ℕ) (t : List ℕ)
    → After at k ns p (laid_numbers ms ++ t) o → After at k (ns ++ ms) (p + length (laid_numbers ms)) t o
laid-behind [] {at} {k} {ns} {o} b c l p t x =
    rw (append-nil, laid_none)
    (subst (λ (q : ℕ). After at k ns q t o) (omega arith) (subst (λ (y : List ℕ). After at k ns p (y ++ t) o) laid_none x))
laid-behind (n ∷ ms) {at} {k} {ns} {o} b c l p t (goes r s a w e) =
    subst (λ (q : ℕ). After at k (ns ++ (n ∷ ms)) q t o) (omega (arith, simp length-append at (ap length (laid_more n ms))))
    (subst (λ (y : List ℕ). After at k y (p + length (groups n) + length (laid_numbers ms)) t o) (append_assoc ns (n ∷ []) ms)
    (laid-behind ms (below-snoc ns n b c.0) c.1 (rw append_assoc l) (p + length (groups n)) t
    (subst (After at k (ns ++ (n ∷ [])) (p + length (groups n)) (laid_numbers ms ++ t))
    (sym (e ∙ ap (reading_from r p) (ap (λ (y : List ℕ). y ++ t) (laid_more n ms) ∙ append_assoc (groups n) (laid_numbers ms) t)))
    (passes s a w b p n (laid_numbers ms ++ t) c.0))))
laid-behind (n ∷ ms) b c l p t (ends x kx nx tk e) = absurd (omega (arith, simp length-append at l, ap length nx, how-many x, ap how_many kx))
laid-behind (n ∷ ms) b c l p t (fails f nt e) = absurd (omega (arith, simp length-append at l, f))

-- ---- a record

-- by its kind and its numbers
made : ℕ → List ℕ → Record
made zero ns = Request (get_or ns 0 0) (get_or ns 1 0) (get_or ns 2 0)
made (suc zero) ns = DispenserByte (get_or ns 0 0)
made (suc (suc zero)) ns = Tick (get_or ns 0 0)
made (suc (suc (suc zero))) ns = ValidatorByte (get_or ns 0 0)
made (suc (suc (suc (suc zero)))) ns = Command (get_or ns 0 0)
made (suc (suc (suc (suc (suc k))))) ns = Clear

made_again : (x : Record) → made (kind_of x) (numbers_of x) ≡ x
unfolding made
made_again (Request c u l) = refl
made_again (DispenserByte b) = refl
made_again (Tick ms) = refl
made_again (ValidatorByte b) = refl
made_again (Command c) = refl
made_again Clear = refl

same-record : (x y : Record) → kind_of x ≡ kind_of y → numbers_of x ≡ numbers_of y → x ≡ y
same-record x y k n = sym (made_again x) ∙ ap₂ made k n ∙ made_again y

-- a kind byte, and then numbers
kind-numbers : (at k : ℕ) (ns t : List ℕ) → (is_kind k).holds → length ns ≤ how_many k → AllBelow ns
    → After at k ns (suc at + length (laid_numbers ns)) t (reading_from fresh_reader at (k ∷ laid_numbers ns ++ t))
kind-numbers at k ns t h l b =
    laid-behind ns tt b l (suc at) t (after_turn (suc at) (laid_numbers ns ++ t) _ (kind-turn at k h) (reading-cons fresh_reader at k (laid_numbers ns ++ t)))

few : (x : Record) → (is_kind (kind_of x)).holds
few (Request c u l) = omega arith
few (DispenserByte b) = omega arith
few (Tick ms) = omega arith
few (ValidatorByte b) = omega arith
few (Command c) = omega arith
few Clear = omega arith

pub length-record : (x : Record) → length (record_bytes x) ≡ suc (length (laid_numbers (numbers_of x)))
unfolding record_bytes
length-record x = refl

pub bytes-record : (x : Record) (t : List ℕ) → record_bytes x ++ t ≡ kind_of x ∷ laid_numbers (numbers_of x) ++ t
unfolding record_bytes
bytes-record x t = refl

pub reads-back : ReadsBack
reads-back x i at t =
    ap (reading_from fresh_reader at) (bytes-record x t)
    ∙ by (kind-numbers at (kind_of x) (numbers_of x) t (few x) (omega (arith, how-many x)) i.0)
    ∙ ap (λ (q : ℕ). also x (reading_from fresh_reader q t)) (omega (arith, length-record x))
  where
    by : {q : ℕ} {o : Reading} → After at (kind_of x) (numbers_of x) q t o → o ≡ also x (reading_from fresh_reader q t)
    by (goes r s a w e) = absurd (omega (arith, (stage-kind s).1, how-many x))
    by {q} (ends y ky ny tk e) = e ∙ ap (λ (z : Record). also z (reading_from fresh_reader q t)) (same-record y x ky ny)
    by (fails l nt e) = absurd (nt i.1)

-- ---- no record

faulty-value : {at k q : ℕ} {ns t : List ℕ} {o : Reading} → length ns ≡ how_many k → ((takes k ns).holds → ⊥) → After at k ns q t o → o ≡ bad Unknown at
faulty-value l n (goes r s a w e) = absurd (omega (arith, (stage-kind s).1))
faulty-value l n (ends x kx nx tk e) = absurd (n tk)
faulty-value l n (fails m nt e) = e

-- where a number is still due, what the next bytes say is said
faulty-number : {at k q : ℕ} {ns t : List ℕ} {o : Reading} (y : Reading) → length ns < how_many k → After at k ns q t o
    → ((r : Reader) → Stage at k ns r → r.acc ≡ 0 → r.weight ≡ 1 → reading_from r q t ≡ y) → o ≡ y
faulty-number y l (goes r s a w e) f = e ∙ f r s a w
faulty-number y l (ends x kx nx tk e) f = absurd (omega (arith, ap length nx, how-many x, ap how_many kx))
faulty-number y l (fails m nt e) f = absurd (omega arith)

pub faulty-back : {why : Fault} {s : List ℕ} → Faulty why s → (at : ℕ) → reading_from fresh_reader at s ≡ bad why at
faulty-back (kind k t h) at =
    reading-cons fresh_reader at k t ∙ ap (λ (x : Step). went x.outcome (reading_from x.reader (suc at) t)) (kind-other at k h)
faulty-back (value k ns t h l b n) at = faulty-value l n (kind-numbers at k ns t h (omega arith) b)
faulty-back (number k ns t h l b e) at =
    faulty-number _ l (kind-numbers at k ns t h (omega arith) b) (λ r s a w. comes-bad s a w _ t e)
faulty-back (cut k ns t h l b e) at =
    faulty-number _ l (kind-numbers at k ns t h (omega arith) b) (λ r s a w. comes-cut s a w _ t e)

-- ---- records, one behind the other

abbrev pub alsos : List Record → Reading → Reading
alsos [] g = g
alsos (x ∷ xs) g = also x (alsos xs g)

pub alsos-bad : (xs : List Record) (why : Fault) (at : ℕ) → alsos xs (bad why at) ≡ bad why at
alsos-bad [] why at = refl
alsos-bad (x ∷ xs) why at = ap (also x) (alsos-bad xs why at)

pub alsos-none : (xs : List Record) → alsos xs (records []) ≡ records xs
alsos-none [] = refl
alsos-none (x ∷ xs) = ap (also x) (alsos-none xs)

pub records-back : (xs : List Record) → AllInRange xs → (at : ℕ) (t : List ℕ)
    → reading_from fresh_reader at (laid xs ++ t) ≡ alsos xs (reading_from fresh_reader (at + length (laid xs)) t)
unfolding laid
records-back [] i at t = ap (λ (q : ℕ). reading_from fresh_reader q t) (omega arith)
records-back (x ∷ xs) i at t =
    ap (reading_from fresh_reader at) (append_assoc (record_bytes x) (laid xs) t)
    ∙ reads-back x i.0 at (laid xs ++ t)
    ∙ ap (also x) (records-back xs i.1 (at + length (record_bytes x)) t ∙ ap (λ (q : ℕ). alsos xs (reading_from fresh_reader q t)) (simp length-append (omega arith)))
