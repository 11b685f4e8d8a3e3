-- The numbers of a record, read one behind the other: where the reader stands after some of them, and what the next one brings. Assumes nothing.
use Rattle.std.specs.Prelude.{Ok}
use Prim.Native.Nat.{ℕ, suc, ◌+◌, ◌%◌, ◌<◌}
use mathlib.Core.Path.{◌≡◌, refl, ap, ◌∙◌}
use mathlib.Core.List.{List, [], ◌∷◌, ◌++◌}
use native.Mathlib.Nat.{mod-eq_of_lt}
use native.Mathlib.Omega.{arith}
use lib.ListN.{length, drop}
use types.Run.{hit}
use borrow.Author.Tests.{lt-ltb, le-ltb}
use Rattle.refusals.specs.Rules.{at_most}
use Rattle.numbers.specs.Seven.{number_end, group_after, after_group, read_from}
use Rattle.numbers.specs.Grouped.{Group}
use Rattle.numbers.specs.Grouped.{More as OneMore, Last, Wrong}
use Rattle.numbers.specs.Sevens.{Seven}
use Rattle.numbers.specs.Sevens.{Bad as NoNumber, Cut as NoEnd}
use Rattle.refusals.proofs.Rules.{by_cases, holds-true, fails-false}
use Rattle.numbers.proofs.Groups.{Weight, weight-most, Found, found, found-more, next-begun, read-cons, read-nil}
use Rattle.dispenser_frame_rules.specs.Table.{known}
use Rattle.recording.specs.Record.{in_list, kind_of, numbers_of, is_kind, how_many, takes, AllBelow}
use Rattle.recording.specs.Reading.{Reading, bad, grown, more, whole, numbered, request_read, byte_read, command_read, group_read, grouped, went, closing, reading_from}
use Rattle.recording.specs.declared.Fault.TheVariants.{BadNumber, Cut, Unknown}
use Rattle.recording.specs.declared.Record.{Record}
use Rattle.recording.specs.declared.Record.TheVariants.{Request, DispenserByte, Tick, ValidatorByte, Command}
use Rattle.recording.specs.declared.Place.{Place}
use Rattle.recording.specs.declared.Place.TheVariants.{Code, Upper, Lower, FromDispenser, Milliseconds, FromValidator, ToValidator}
use Rattle.recording.specs.declared.Reader.{Reader}
use Rattle.recording.specs.declared.Step.{Step}
use Rattle.recording.specs.Outcome.{Bad}
use Rattle.recording.proofs.Places.{within, Inside, begun-byte, begun-ended}
use Rattle.recording.proofs.Folds.{reading-nil, reading-cons}

-- a reader inside a record that starts at an offset
abbrev pub inside : ℕ → ℕ → ℕ → ℕ → ℕ → Place → Reader
inside at a w c u p = record { start = at; acc = a; weight = w; code = c; upper = u; place = p }

-- where the reader stands in a record of kind k after the numbers ns, whatever it has of the next one
pub data Stage (at : ℕ) : ℕ → List ℕ → Reader → Type 0 where
  code : (a w c u : ℕ) → Stage at 0 [] (inside at a w c u Code)
  upper : (a w c u : ℕ) → Stage at 0 (c ∷ []) (inside at a w c u Upper)
  lower : (a w c u : ℕ) → Stage at 0 (c ∷ u ∷ []) (inside at a w c u Lower)
  from-dispenser : (a w c u : ℕ) → Stage at 1 [] (inside at a w c u FromDispenser)
  milliseconds : (a w c u : ℕ) → Stage at 2 [] (inside at a w c u Milliseconds)
  from-validator : (a w c u : ℕ) → Stage at 3 [] (inside at a w c u FromValidator)
  to-validator : (a w c u : ℕ) → Stage at 4 [] (inside at a w c u ToValidator)

stage-grown : {at k : ℕ} {ns : List ℕ} {r : Reader} → Stage at k ns r → (a w : ℕ) → Stage at k ns (grown r a w)
stage-grown (code a w c u) b v = code b v c u
stage-grown (upper a w c u) b v = upper b v c u
stage-grown (lower a w c u) b v = lower b v c u
stage-grown (from-dispenser a w c u) b v = from-dispenser b v c u
stage-grown (milliseconds a w c u) b v = milliseconds b v c u
stage-grown (from-validator a w c u) b v = from-validator b v c u
stage-grown (to-validator a w c u) b v = to-validator b v c u

stage-inside : {at k : ℕ} {ns : List ℕ} {r : Reader} → Stage at k ns r → Inside r.place
stage-inside (code a w c u) = hit within 1 tt
stage-inside (upper a w c u) = hit within 2 tt
stage-inside (lower a w c u) = hit within 3 tt
stage-inside (from-dispenser a w c u) = hit within 4 tt
stage-inside (milliseconds a w c u) = hit within 5 tt
stage-inside (from-validator a w c u) = hit within 6 tt
stage-inside (to-validator a w c u) = hit within 7 tt

stage-start : {at k : ℕ} {ns : List ℕ} {r : Reader} → Stage at k ns r → r.start ≡ at
stage-start (code a w c u) = refl
stage-start (upper a w c u) = refl
stage-start (lower a w c u) = refl
stage-start (from-dispenser a w c u) = refl
stage-start (milliseconds a w c u) = refl
stage-start (from-validator a w c u) = refl
stage-start (to-validator a w c u) = refl

-- a kind that is listed, with fewer numbers than it has
pub stage-kind : {at k : ℕ} {ns : List ℕ} {r : Reader} → Stage at k ns r → (is_kind k).holds × (length ns < how_many k)
stage-kind (code a w c u) = (omega arith, omega arith)
stage-kind (upper a w c u) = (omega arith, omega arith)
stage-kind (lower a w c u) = (omega arith, omega arith)
stage-kind (from-dispenser a w c u) = (omega arith, omega arith)
stage-kind (milliseconds a w c u) = (omega arith, omega arith)
stage-kind (from-validator a w c u) = (omega arith, omega arith)
stage-kind (to-validator a w c u) = (omega arith, omega arith)

-- ---- what a number brings, after which the numbers are ms

pub data Turn (at k : ℕ) (ms : List ℕ) : Step → Type 0 where
  next : (r : Reader) → Stage at k ms r → r.acc ≡ 0 → r.weight ≡ 1 → Turn at k ms (more r)
  done : (x : Record) → kind_of x ≡ k → numbers_of x ≡ ms → (takes k ms).holds → Turn at k ms (whole x)
  other : (t : Step) → length ms ≡ how_many k → ((takes k ms).holds → ⊥) → t.outcome ≡ Bad Unknown at → Turn at k ms t

-- a count that is kept is what was read
kept : (u : ℕ) → u < number_end → u % number_end ≡ u
kept u h = mod-eq_of_lt h

pub turn : {at k : ℕ} {ns : List ℕ} {r : Reader} → Stage at k ns r → AllBelow ns → (n : ℕ) → Turn at k (ns ++ (n ∷ [])) (numbered r.place r n)
unfolding request_read byte_read command_read
turn (code a w c u) b n = next _ (upper 0 1 n u) refl refl
turn (upper a w c u) b n = next _ (lower 0 1 c n) refl refl
turn {at} (lower a w c u) b n =
    by_cases (known c)
    (λ h. rw (holds-true (known c) h, kept u b.1.0) (done (Request c u n) refl refl h))
    (λ h. rw (fails-false (known c) h) (other _ refl h refl))
turn (from-dispenser a w c u) b n =
    by_cases (at_most n 255)
    (λ h. rw (le-ltb 255 n h) (done (DispenserByte n) refl refl h))
    (λ h. rw (lt-ltb 255 n (omega arith)) (other _ refl h refl))
turn (milliseconds a w c u) b n = done (Tick n) refl refl tt
turn (from-validator a w c u) b n =
    by_cases (at_most n 255)
    (λ h. rw (le-ltb 255 n h) (done (ValidatorByte n) refl refl h))
    (λ h. rw (lt-ltb 255 n (omega arith)) (other _ refl h refl))
turn (to-validator a w c u) b n =
    by_cases (in_list n)
    (λ h. rw (holds-true (in_list n) h) (done (Command n) refl refl h))
    (λ h. rw (fails-false (in_list n) h) (other _ refl h refl))

-- ---- what reading a number comes to, from its bytes u on, the first of which stands at p; j groups of it were read

module _ (at k : ℕ) (ns : List ℕ) where
  -- the number's last byte is the i-th of u
  pub record Ends (j : ℕ) (p : ℕ) (u : List ℕ) (n used : ℕ) (o : Reading) : Type 0 where
    pub r : Reader
    pub stage : Stage at k ns r
    pub i : ℕ
    pub took : used ≡ j + i
    pub is : o ≡ went (numbered r.place r n).outcome (reading_from (numbered r.place r n).reader (p + i) (drop i u))

  abbrev pub Comes : ℕ → ℕ → List ℕ → Seven → Reading → Type 0
  Comes j p u (Ok v) o = Ends j p u v.value v.used o
  Comes j p u NoNumber o = o ≡ bad BadNumber at
  Comes j p u NoEnd o = o ≡ bad Cut at

  comes-later : (j p b : ℕ) (u : List ℕ) (v : Seven) (o : Reading) → Comes (suc j) (suc p) u v o → Comes j p (b ∷ u) v o
  comes-later j p b u (Ok v) o e =
      record { r = e.r; stage = e.stage; i = suc e.i; took = omega (arith, e.took); is = e.is ∙ ap (λ (q : ℕ). went (numbered e.r.place e.r v.value).outcome (reading_from (numbered e.r.place e.r v.value).reader q (drop e.i u))) (omega arith) }
  comes-later j p b u NoNumber o e = e
  comes-later j p b u NoEnd o e = e

  -- a byte of the number is a group
  one-group : (r : Reader) → Stage at k ns r → r.acc < r.weight → (j : ℕ) → Weight j r.weight → (p b : ℕ) (u : List ℕ)
      → reading_from r p (b ∷ u)
      ≡ went (group_read (group_after r.acc r.weight b) r).outcome (reading_from (group_read (group_after r.acc r.weight b) r).reader (suc p) u)
  unfolding grouped
  one-group r s l j v p b u =
      reading-cons r p b u
      ∙ ap (λ (t : Step). went t.outcome (reading_from t.reader (suc p) u))
      (begun-byte r p b (stage-inside s) ∙ ap (λ (g : Group). group_read g r) (next-begun r.acc r.weight b l (weight-most v)))

  pub number-law : (u : List ℕ) (r : Reader) → Stage at k ns r → r.acc < r.weight → (j : ℕ) → Weight j r.weight → (p : ℕ)
      → Comes j p u (read_from j r.acc r.weight u) (reading_from r p u)
  number-law [] r s l j v p =
      rw read-nil (reading-nil r p ∙ ap closing (begun-ended r (stage-inside s)) ∙ ap (bad Cut) (stage-start s))
  number-law (b ∷ u) r s l j v p =
      rw (read-cons, one-group r s l j v p b u) (by (number-law u) (group_after r.acc r.weight b) (found r.acc r.weight b))
    where
      by : ((r : Reader) → Stage at k ns r → r.acc < r.weight → (j : ℕ) → Weight j r.weight → (p : ℕ)
          → Comes j p u (read_from j r.acc r.weight u) (reading_from r p u))
          → (g : Group) → Found r.acc r.weight b g
          → Comes j p (b ∷ u) (after_group (λ a w. read_from (suc j) a w u) (suc j) g) (went (group_read g r).outcome (reading_from (group_read g r).reader (suc p) u))
      by rest (OneMore a w) f =
          let m = found-more l v f in
          comes-later j p b u (read_from (suc j) a w u) (reading_from (grown r a w) (suc p) u) (rest (grown r a w) (stage-grown s a w) m.0 (suc j) m.1 (suc p))
      by rest (Last n) f =
          record { r = r; stage = s; i = 1; took = omega arith; is = ap (λ (q : ℕ). went (numbered r.place r n).outcome (reading_from (numbered r.place r n).reader q u)) (omega arith) }
      by rest Wrong f = ap (bad BadNumber) (stage-start s)
