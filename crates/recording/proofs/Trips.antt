-- A record's numbers: what they bring once they are read, both ways, one behind the other. Assumes nothing.
use Rattle.std.specs.Prelude.{Ok}
use Prim.Native.Nat.{ℕ, zero, suc, ◌+◌, ◌<◌}
use mathlib.Core.Path.{◌≡◌, refl, sym, ap, ap₂, ◌∙◌, subst}
use mathlib.Core.List.{List, [], ◌∷◌, ◌++◌, append_assoc, append-nil}
use native.Mathlib.Omega.{arith}
use lib.ListN.{length, drop, length-append, take-append-drop}
use Rattle.numbers.specs.Promises.{AllBytes}
use Rattle.std.proofs.lemmas.Result.{IfOk-at_ok}
use Rattle.numbers.specs.Seven.{number_end, groups, read_from, read_groups}
use Rattle.numbers.specs.Sevens.{Seven}
use Rattle.numbers.specs.Sevens.{Value, Bad as NoNumber, Cut as NoEnd}
use Rattle.numbers.proofs.Groups.{Weight, first-weight, group-trips}
use Rattle.recording.specs.Record.{kind_of, numbers_of, is_kind, how_many, takes, AllBelow, laid_numbers, InRange}
use Rattle.recording.specs.Reading.{Reading, bad, fresh_reader, refused_at, kind_byte, read_byte, also, went, reading_from}
use Rattle.recording.specs.Promises.{Faulty, value, number, cut}
use Rattle.recording.specs.declared.Fault.{Fault}
use Rattle.recording.specs.declared.Fault.TheVariants.{BadNumber, Cut, Unknown}
use Rattle.recording.specs.declared.Record.{Record}
use Rattle.recording.specs.declared.Record.TheVariants.{Request, DispenserByte, Tick, ValidatorByte, Command, Clear}
use Rattle.recording.specs.declared.Reader.{Reader}
use Rattle.recording.specs.declared.Step.{Step}
use Rattle.recording.specs.Outcome.{Outcome}
use Rattle.recording.proofs.Places.{other-kind}
use Rattle.recording.proofs.Numbers.{Stage, code, from-dispenser, milliseconds, from-validator, to-validator, stage-kind, Turn, next, done, other, turn, Ends, Comes, number-law}

-- ---- numbers laid

pub laid_more : (n : ℕ) (ns : List ℕ) → laid_numbers (n ∷ ns) ≡ groups n ++ laid_numbers ns
unfolding laid_numbers
laid_more n ns = refl

pub laid_none : laid_numbers [] ≡ []
unfolding laid_numbers
laid_none = refl

-- one more behind them
laid-snoc : (ns : List ℕ) (n : ℕ) (t : List ℕ) → laid_numbers (ns ++ (n ∷ [])) ++ t ≡ laid_numbers ns ++ (groups n ++ t)
laid-snoc [] n t = ap (λ (l : List ℕ). l ++ t) (laid_more n []) ∙ append_assoc (groups n) (laid_numbers []) t ∙ ap (λ (l : List ℕ). groups n ++ (l ++ t)) laid_none ∙ sym (ap (λ (l : List ℕ). l ++ (groups n ++ t)) laid_none)
laid-snoc (m ∷ ns) n t =
    ap (λ (l : List ℕ). l ++ t) (laid_more m (ns ++ (n ∷ [])))
    ∙ append_assoc (groups m) (laid_numbers (ns ++ (n ∷ []))) t
    ∙ ap (λ (l : List ℕ). groups m ++ l) (laid-snoc ns n t)
    ∙ sym (append_assoc (groups m) (laid_numbers ns) (groups n ++ t))
    ∙ ap (λ (l : List ℕ). l ++ (groups n ++ t)) (sym (laid_more m ns))

pub below-snoc : (ns : List ℕ) (n : ℕ) → AllBelow ns → n < number_end → AllBelow (ns ++ (n ∷ []))
below-snoc [] n b h = (h, tt)
below-snoc (m ∷ ns) n b h = (b.0, below-snoc ns n b.1 h)

-- a record is its kind and its numbers, as many as its kind has
pub how-many : (x : Record) → length (numbers_of x) ≡ how_many (kind_of x)
how-many (Request c u l) = refl
how-many (DispenserByte b) = refl
how-many (Tick ms) = refl
how-many (ValidatorByte b) = refl
how-many (Command c) = refl
how-many Clear = refl

-- ---- the kind byte: what it brings, before any number

pub kind-turn : (at k : ℕ) → (is_kind k).holds → Turn at k [] (read_byte fresh_reader at k)
unfolding read_byte kind_byte
kind-turn at zero h = next _ (code 0 1 0 0) refl refl
kind-turn at (suc zero) h = next _ (from-dispenser 0 1 0 0) refl refl
kind-turn at (suc (suc zero)) h = next _ (milliseconds 0 1 0 0) refl refl
kind-turn at (suc (suc (suc zero))) h = next _ (from-validator 0 1 0 0) refl refl
kind-turn at (suc (suc (suc (suc zero)))) h = next _ (to-validator 0 1 0 0) refl refl
kind-turn at (suc (suc (suc (suc (suc zero))))) h = done Clear refl refl tt
kind-turn at (suc (suc (suc (suc (suc (suc k)))))) h = absurd (omega arith)

pub kind-other : (at k : ℕ) → ((is_kind k).holds → ⊥) → read_byte fresh_reader at k ≡ refused_at at Unknown
unfolding read_byte
kind-other at k h = other-kind at k h

-- ---- a number is read, after which the numbers are ms: o is what is said from its first byte on, and the rest stands at q

pub data After (at k : ℕ) (ms : List ℕ) (q : ℕ) (rest : List ℕ) (o : Reading) : Type 0 where
  goes : (r : Reader) → Stage at k ms r → r.acc ≡ 0 → r.weight ≡ 1 → o ≡ reading_from r q rest → After at k ms q rest o
  ends : (x : Record) → kind_of x ≡ k → numbers_of x ≡ ms → (takes k ms).holds → o ≡ also x (reading_from fresh_reader q rest) → After at k ms q rest o
  fails : length ms ≡ how_many k → ((takes k ms).holds → ⊥) → o ≡ bad Unknown at → After at k ms q rest o

pub after_turn : {at k : ℕ} {ms : List ℕ} {t : Step} (q : ℕ) (rest : List ℕ) (o : Reading) → Turn at k ms t
    → o ≡ went t.outcome (reading_from t.reader q rest) → After at k ms q rest o
after_turn q rest o (next r s a w) e = goes r s a w e
after_turn q rest o (done x k n h) e = ends x k n h e
after_turn q rest o (other t l n h) e = fails l n (e ∙ ap (λ (x : Outcome). went x (reading_from t.reader q rest)) h)

module _ {at k : ℕ} {ns : List ℕ} {r : Reader} (s : Stage at k ns r) (a : r.acc ≡ 0) (w : r.weight ≡ 1) (p : ℕ) (u : List ℕ) where
  comes : Comes at k ns 0 p u (read_groups u) (reading_from r p u)
  unfolding read_groups
  comes =
      subst (λ (v : Seven). Comes at k ns 0 p u v (reading_from r p u)) (ap₂ (λ x y. read_from 0 x y u) a w)
      (number-law at k ns u r s (omega (arith, a, w)) 0 (subst (Weight 0) (sym w) first-weight) p)

  pub comes-bad : read_groups u ≡ NoNumber → reading_from r p u ≡ bad BadNumber at
  comes-bad e = subst (λ (v : Seven). Comes at k ns 0 p u v (reading_from r p u)) e comes

  pub comes-cut : read_groups u ≡ NoEnd → reading_from r p u ≡ bad Cut at
  comes-cut e = subst (λ (v : Seven). Comes at k ns 0 p u v (reading_from r p u)) e comes

  pub comes-number : (n used : ℕ) → read_groups u ≡ Value n used → AllBelow ns → After at k (ns ++ (n ∷ [])) (p + used) (drop used u) (reading_from r p u)
  comes-number n used e b =
      let c : Ends at k ns 0 p u n used (reading_from r p u) = subst (λ (v : Seven). Comes at k ns 0 p u v (reading_from r p u)) e comes in
      let f : used ≡ c.i = omega (arith, c.took) in
      rw f (after_turn (p + c.i) (drop c.i u) (reading_from r p u) (turn c.stage b n) c.is)

-- ---- from the bytes: what u says, after the numbers ns of a record

pub data Rest (at k : ℕ) (ns : List ℕ) (p : ℕ) (u : List ℕ) (o : Reading) : Type 0 where
  whole : (x : Record) (ms rest : List ℕ) → kind_of x ≡ k → numbers_of x ≡ ns ++ ms → InRange x → u ≡ laid_numbers ms ++ rest
      → o ≡ also x (reading_from fresh_reader (p + length (laid_numbers ms)) rest) → Rest at k ns p u o
  fault : (why : Fault) → Faulty why (k ∷ laid_numbers ns ++ u) → o ≡ bad why at → Rest at k ns p u o

-- the groups of a number that was read, and what stands behind them
record Split (u : List ℕ) (n used : ℕ) : Type 0 where
  below : n < number_end
  are : u ≡ groups n ++ drop used u
  long : used ≡ length (groups n)

split : (u : List ℕ) (n used : ℕ) → AllBytes u → read_groups u ≡ Value n used → Split u n used
split u n used h e =
    let g = group-trips.again u n used h e in
    let are : u ≡ groups n ++ drop used u = sym (take-append-drop used u) ∙ ap (λ (l : List ℕ). l ++ drop used u) g.1 in
    let v : Value n used ≡ Value n (length (groups n)) = sym e ∙ ap read_groups are ∙ group-trips.back n (drop used u) g.0 in
    record { below = g.0; are = are; long = IfOk-at_ok (λ x. used ≡ x.used) v refl }

pub bytes_drop : (i : ℕ) (u : List ℕ) → AllBytes u → AllBytes (drop i u)
bytes_drop zero u h = h
bytes_drop (suc i) [] h = h
bytes_drop (suc i) (b ∷ u) h = bytes_drop i u (λ j. h (suc j))

in-range : {k : ℕ} {ms : List ℕ} (x : Record) → kind_of x ≡ k → numbers_of x ≡ ms → AllBelow ms → (takes k ms).holds → InRange x
in-range {k} {ms} x e f b t =
    (subst AllBelow (sym f) b, subst (λ (j : ℕ). (takes j (numbers_of x)).holds) (sym e) (subst (λ (l : List ℕ). (takes k l).holds) (sym f) t))

-- what is said of the rest after one number is said of the number and the rest
rest_more : {at k : ℕ} (ns : List ℕ) (n p : ℕ) (u t : List ℕ) {o : Reading} → u ≡ groups n ++ t → Rest at k (ns ++ (n ∷ [])) (p + length (groups n)) t o
    → Rest at k ns p u o
rest_more {k} ns n p u t e (whole x ms rest kx nx i f g) =
    let l : laid_numbers (n ∷ ms) ≡ groups n ++ laid_numbers ms = laid_more n ms in
    whole x (n ∷ ms) rest kx (nx ∙ append_assoc ns (n ∷ []) ms) i
    (e ∙ ap (λ (y : List ℕ). groups n ++ y) f ∙ sym (append_assoc (groups n) (laid_numbers ms) rest) ∙ ap (λ (y : List ℕ). y ++ rest) (sym l))
    (g ∙ ap (λ (q : ℕ). also x (reading_from fresh_reader q rest)) (omega (arith, simp length-append at (ap length l))))
rest_more {k} ns n p u t e (fault why f g) =
    fault why (subst (λ (l : List ℕ). Faulty why (k ∷ l)) (laid-snoc ns n t ∙ ap (λ (y : List ℕ). laid_numbers ns ++ y) (sym e)) f) g

-- what is said after any numbers, of which m are left
abbrev Later : ℕ → ℕ → ℕ → Type 0
Later m at k = (ms : List ℕ) (q : ℕ) (t : List ℕ) (o : Reading) → length ms + m ≡ how_many k → AllBelow ms → AllBytes t → After at k ms q t o → Rest at k ms q t o

one_more : {at k : ℕ} {ns : List ℕ} {r : Reader} (m : ℕ) → Stage at k ns r → r.acc ≡ 0 → r.weight ≡ 1 → length ns + suc m ≡ how_many k → AllBelow ns
    → (p : ℕ) (u : List ℕ) → AllBytes u → Later m at k → (v : Seven) → read_groups u ≡ v → Rest at k ns p u (reading_from r p u)
one_more {at} {k} {ns} {r} m s a w l b p u h later (Ok v) e =
    let y = split u v.value v.used h e in
    rest_more ns v.value p u (drop v.used u) y.are
    (later (ns ++ (v.value ∷ [])) (p + length (groups v.value)) (drop v.used u) (reading_from r p u) (simp length-append (omega (arith, l))) (below-snoc ns v.value b y.below) (bytes_drop v.used u h)
    (subst (λ (j : ℕ). After at k (ns ++ (v.value ∷ [])) (p + j) (drop v.used u) (reading_from r p u)) y.long (comes-number s a w p u v.value v.used e b)))
one_more {at} {k} {ns} m s a w l b p u h later NoNumber e = fault BadNumber (number k ns u (stage-kind s).0 (stage-kind s).1 b e) (comes-bad s a w p u e)
one_more {at} {k} {ns} m s a w l b p u h later NoEnd e = fault Cut (cut k ns u (stage-kind s).0 (stage-kind s).1 b e) (comes-cut s a w p u e)

-- where a number is still due, what is said is left to it
rest_of : {at k : ℕ} {ns : List ℕ} {p : ℕ} {u : List ℕ} {o : Reading} → (is_kind k).holds → AllBelow ns → After at k ns p u o
    → ((r : Reader) → Stage at k ns r → r.acc ≡ 0 → r.weight ≡ 1 → o ≡ reading_from r p u → Rest at k ns p u o) → Rest at k ns p u o
rest_of i b (goes r s a w e) due = due r s a w e
rest_of {ns = ns} {u = u} i b (ends x kx nx tk e) due =
    whole x [] u kx (nx ∙ sym (append-nil ns)) (in-range x kx nx b tk) (sym (ap (λ (y : List ℕ). y ++ u) laid_none))
    (e ∙ ap (λ (q : ℕ). also x (reading_from fresh_reader q u)) (omega (arith, ap length laid_none)))
rest_of {k = k} {ns = ns} {u = u} i b (fails f nt e) due = fault Unknown (value k ns u i f b nt) e

pub rests : (m : ℕ) {at k : ℕ} {ns : List ℕ} {p : ℕ} {u : List ℕ} {o : Reading} → length ns + m ≡ how_many k → (is_kind k).holds → AllBelow ns → AllBytes u
    → After at k ns p u o → Rest at k ns p u o
rests zero l i b h x = rest_of i b x (λ r s a w e. absurd (omega (arith, (stage-kind s).1)))
rests (suc m) {at} {k} {ns} {p} {u} l i b h x =
    rest_of i b x
    (λ r s a w e. subst (Rest at k ns p u) (sym e) (one_more m s a w l b p u h (λ ms q t o l' b' h' y. rests m l' i b' h' y) (read_groups u) refl))
