-- A turn by the bytes that are left of the two: it goes on exactly where both begin with the same record, and ends exactly as it should. Assumes nothing.
use Rattle.std.specs.Prelude.{Err}
use Prim.Native.Nat.{ℕ, ◌<◌}
use mathlib.Core.Path.{◌≡◌, refl, sym, ap, ap₂, ◌∙◌, subst}
use mathlib.Core.Bool.{Bool, true, false, cond}
use mathlib.Core.List.{List, ◌++◌}
use native.Mathlib.Omega.{arith}
use lib.ListN.{length, take, drop, length-drop, take-append-drop}
use lib.Seq.{take-append_seam}
use Rattle.numbers.specs.Promises.{AllBytes}
use Rattle.recording.specs.Record.{record_bytes}
use Rattle.recording.specs.Promises.{Faulty as Fault-in}
use Rattle.recording.specs.declared.Fault.{Fault}
use Rattle.recording.specs.declared.Record.{Record}
use Rattle.parted.specs.declared.Whose.{Whose}
use Rattle.parted.specs.declared.Whose.TheVariants.{Student, Reference}
use Rattle.parted.specs.Next.{Next}
use Rattle.parted.specs.Next.{Rest, Malformed}
use Rattle.parted.specs.Due.{Due}
use Rattle.parted.specs.Due.{End, Whole, Faulty}
use Rattle.parted.specs.declared.Turn.TheVariants.{On, Ends}
use Rattle.parted.specs.Parting.{equal, due_at, beside_record, beside_end, turn_by, turn_at}
use Rattle.parted.specs.Promises.{Starts, FaultShows, Follows}
use Rattle.parted.proofs.Equal.{equal-true, equal-shown, equal-denied}
use Rattle.parted.proofs.Turns.{due-fits, turn_on, turn_by_lem}
use Rattle.parted.proofs.Standing.{Stands, nothing, one, none, due-stands, stands-due, sound-end, sound-whole}

-- the bytes of a record that starts there
record-taken : (x : Record) (u : List ℕ) → Starts x u → take (length (record_bytes x)) u ≡ record_bytes x
record-taken x u w = ap (take (length (record_bytes x))) w.are ∙ take-append_seam (record_bytes x) w.rest

-- ---- the same in other recordings, or elsewhere

pub turn-same : (s t s' t' : List ℕ) (at i : ℕ) → due_at s at ≡ due_at s' i → due_at t at ≡ due_at t' i
    → ((n : ℕ) → due_at s at ≡ Whole n → take n (drop at s) ≡ take n (drop i s'))
    → ((n : ℕ) → due_at t at ≡ Whole n → take n (drop at t) ≡ take n (drop i t'))
    → turn_at s t at ≡ turn_at s' t' i
unfolding turn_at
turn-same s t s' t' at i ds dt bs bt = by (due_at s at) refl ∙ ap (turn_by s' t' i) ds
  where
    beside : (n : ℕ) → due_at s at ≡ Whole n → (e : Due) → due_at t at ≡ e → beside_record s t at n e ≡ beside_record s' t' i n e
    beside n p End q = refl
    beside n p (Whole m) q = ap₂ (λ (a b : List ℕ). cond (equal a b).test (On n) (Ends (Rest Student))) (bs n p) (bt m q)
    beside n p (Faulty why) q = refl

    by : (d : Due) → due_at s at ≡ d → turn_by s t at d ≡ turn_by s' t' i d
    by End p = ap beside_end dt
    by (Whole n) p = beside n p (due_at t at) refl ∙ ap (beside_record s' t' i n) dt
    by (Faulty why) p = refl

module _ (s t : List ℕ) (at : ℕ) (h : AllBytes s) (k : AllBytes t) where
  by_turn : (d : Due) → due_at s at ≡ d → turn_at s t at ≡ turn_by s t at d
  by_turn d p = sym (turn_by_lem s t at d p)

  -- ---- it goes on

  pub on-to : (n : ℕ) → turn_at s t at ≡ On n → (x : Record) × ((n ≡ length (record_bytes x)) × (Starts x (drop at s) × Starts x (drop at t)))
  on-to n e = by (turn_on s t at n e).student (due-stands s at h) refl
    where
      by : {d : Due} → due_at s at ≡ Whole n → Stands (drop at s) d → d ≡ due_at s at
          → (x : Record) × ((n ≡ length (record_bytes x)) × (Starts x (drop at s) × Starts x (drop at t)))
      by p (nothing l) q = let z : ◌≡◌ {A = ℕ} 0 1 = cc in absurd (omega arith)
      by p (one x w) q =
          let size : length (record_bytes x) ≡ n = cc in
          let same = turn_on s t at n e in
          let bytes : take n (drop at t) ≡ record_bytes x
          = sym same.bytes ∙ ap (λ (j : ℕ). take j (drop at s)) (sym size) ∙ record-taken x (drop at s) w in (
            x,
            (
              sym size,
              (
                w,
                record {
                  fit = w.fit;
                  rest = drop n (drop at t);
                  are = sym (take-append-drop n (drop at t)) ∙ ap (λ (l : List ℕ). l ++ drop n (drop at t)) bytes;
                },
              ),
            ),
          )
      by p (none why f) q = let z : ◌≡◌ {A = ℕ} 0 1 = cc in absurd (omega arith)

  pub on-from : (x : Record) → Starts x (drop at s) → Starts x (drop at t) → turn_at s t at ≡ On (length (record_bytes x))
  on-from x v w =
      let n = length (record_bytes x) in
      by_turn (Whole n) (stands-due s at h _ (one x v))
      ∙ ap (beside_record s t at n) (stands-due t at k _ (one x w))
      ∙ ap (λ (b : Bool). cond b (On n) (Ends (Rest Student)))
      (equal-true _ _ (record-taken x (drop at s) v ∙ sym (record-taken x (drop at t) w)))

  -- ---- it ends

  -- the same record starts both, and yet their bytes are not the same
  not_same : (n m : ℕ) → due_at s at ≡ Whole n → due_at t at ≡ Whole m → (equal (take n (drop at s)) (take m (drop at t))).test ≡ false
      → (x : Record) → Starts x (drop at s) → Starts x (drop at t) → ⊥
  not_same n m p q b x v w =
      let i : n ≡ length (record_bytes x) = let e = sym p ∙ stands-due s at h _ (one x v) in cc in
      let j : m ≡ length (record_bytes x) = let e = sym q ∙ stands-due t at k _ (one x w) in cc in
      equal-denied _ _ b
      (ap (λ (l : ℕ). take l (drop at s)) i ∙ record-taken x (drop at s) v ∙ sym (ap (λ (l : ℕ). take l (drop at t)) j ∙ record-taken x (drop at t) w))

  nothing-there : (x : Record) → due_at t at ≡ End → Starts x (drop at t) → ⊥
  nothing-there x q w = let e = sym q ∙ stands-due t at k _ (one x w) in let z : ◌≡◌ {A = ℕ} 0 1 = cc in omega arith

  some-there : (n : ℕ) → due_at s at ≡ Whole n → 0 < length (drop at s)
  some-there n p = let f = due-fits s at n p in simp length-drop (omega (arith, f.some, f.fits))

  none_left : due_at s at ≡ End → length (drop at s) ≡ 0
  none_left p = by (due-stands s at h) refl
    where
      by : {d : Due} → Stands (drop at s) d → d ≡ due_at s at → length (drop at s) ≡ 0
      by (nothing l) q = l
      by (one x w) q = let e = q ∙ p in let z : ◌≡◌ {A = ℕ} 0 1 = cc in absurd (omega arith)
      by (none why f) q = let e = q ∙ p in let z : ◌≡◌ {A = ℕ} 0 1 = cc in absurd (omega arith)

  fault-there : (u : List ℕ) (i : ℕ) → AllBytes u → (why : Fault) → due_at u i ≡ Faulty why → Fault-in why (drop i u)
  fault-there u i a why p = by (due-stands u i a) refl
    where
      by : {d : Due} → Stands (drop i u) d → d ≡ due_at u i → Fault-in why (drop i u)
      by (nothing l) q = let e = q ∙ p in let z : ◌≡◌ {A = ℕ} 0 1 = cc in absurd (omega arith)
      by (one x w) q = let e = q ∙ p in let z : ◌≡◌ {A = ℕ} 0 1 = cc in absurd (omega arith)
      by (none other f) q = let e : other ≡ why = (let r = q ∙ p in cc) in subst (λ (y : Fault). Fault-in y (drop i u)) e f

  -- what follows, by what stands in each
  follows-as : {next : Next} (r : Next) → Follows (drop at s) (drop at t) r → Ends r ≡ Ends next → Follows (drop at s) (drop at t) next
  follows-as {next} r f e = let q : r ≡ next = cc in subst (Follows (drop at s) (drop at t)) q f

  pub ends-to : (next : Next) → turn_at s t at ≡ Ends next → Follows (drop at s) (drop at t) next
  ends-to next w = by (due_at s at) refl (due_at t at) refl
    where
      on-is-no-end : {n : ℕ} → On n ≡ Ends next → {A : Type 0} → A
      on-is-no-end e = let z : ◌≡◌ {A = ℕ} 0 1 = cc in absurd (omega arith)

      differ : (n m : ℕ) → due_at s at ≡ Whole n → due_at t at ≡ Whole m → (b : Bool) → (equal (take n (drop at s)) (take m (drop at t))).test ≡ b
          → cond b (On n) (Ends (Rest Student)) ≡ Ends next → Follows (drop at s) (drop at t) next
      differ n m p q true b e = on-is-no-end e
      differ n m p q false b e =
          follows-as (Rest Student) (some-there n p, sound-whole s at h p, sound-whole t at k q, not_same n m p q b) e

      by : (d : Due) → due_at s at ≡ d → (e : Due) → due_at t at ≡ e → Follows (drop at s) (drop at t) next
      by (Faulty why) p e q = follows-as (Malformed Student why) (fault-there s at h why p) (turn_by_lem s t at _ p ∙ w)
      by End p End q = follows-as (Rest Reference) (none_left p, sound-end t at k q) (sym (ap beside_end q) ∙ turn_by_lem s t at _ p ∙ w)
      by End p (Whole m) q = follows-as (Rest Reference) (none_left p, sound-whole t at k q) (sym (ap beside_end q) ∙ turn_by_lem s t at _ p ∙ w)
      by End p (Faulty why) q = follows-as (Malformed Reference why) (sound-end s at h p, fault-there t at k why q) (sym (ap beside_end q) ∙ turn_by_lem s t at _ p ∙ w)
      by (Whole n) p End q =
          follows-as (Rest Student) (some-there n p, sound-whole s at h p, sound-end t at k q, λ x v y. nothing-there x q y)
          (sym (ap (beside_record s t at n) q) ∙ turn_by_lem s t at _ p ∙ w)
      by (Whole n) p (Whole m) q = differ n m p q _ refl (sym (ap (beside_record s t at n) q) ∙ turn_by_lem s t at _ p ∙ w)
      by (Whole n) p (Faulty why) q =
          follows-as (Malformed Reference why) (sound-whole s at h p, fault-there t at k why q) (sym (ap (beside_record s t at n) q) ∙ turn_by_lem s t at _ p ∙ w)

  fault-from : (why : Fault) (whose : Whose) → FaultShows (drop at s) (drop at t) why whose → turn_at s t at ≡ Ends (Malformed whose why)
  fault-from why Student f = by_turn _ (stands-due s at h _ (none why f))
  fault-from why Reference f = by (due_at s at) refl (due-stands s at h)
    where
      q : due_at t at ≡ Faulty why
      q = stands-due t at k _ (none why f.1)

      by : (d : Due) → due_at s at ≡ d → Stands (drop at s) d → turn_at s t at ≡ Ends (Malformed Reference why)
      by d p (nothing l) = by_turn d p ∙ ap beside_end q
      by d p (one x w) = by_turn d p ∙ ap (beside_record s t at (length (record_bytes x))) q
      by d p (none other g) = absurd (f.0 other g)

  pub ends-from : (next : Next) → Follows (drop at s) (drop at t) next → turn_at s t at ≡ Ends next
  ends-from (Err x) f = fault-from x.why x.whose f
  ends-from (Rest Student) f = by (due_at s at) refl (due-stands s at h) (due_at t at) refl (due-stands t at k)
    where
      differ : (x y : Record) → Starts x (drop at s) → Starts y (drop at t) → (b : Bool)
          → (equal (take (length (record_bytes x)) (drop at s)) (take (length (record_bytes y)) (drop at t))).test ≡ b
          → cond b (On (length (record_bytes x))) (Ends (Rest Student)) ≡ Ends (Rest Student)
      differ x y v w true e =
          let same : record_bytes y ≡ record_bytes x
          = sym (record-taken y (drop at t) w) ∙ sym (equal-shown _ _ e) ∙ record-taken x (drop at s) v in
          absurd (f.3 x v (record { fit = v.fit; rest = w.rest; are = w.are ∙ ap (λ (l : List ℕ). l ++ w.rest) same }))
      differ x y v w false e = refl

      by : (d : Due) → due_at s at ≡ d → Stands (drop at s) d → (e : Due) → due_at t at ≡ e → Stands (drop at t) e → turn_at s t at ≡ Ends (Rest Student)
      by d p (nothing l) e q r = absurd (omega (arith, f.0, l))
      by d p (none why g) e q r = absurd (f.1 why g)
      by d p (one x v) e q (nothing l) = by_turn d p ∙ ap (beside_record s t at (length (record_bytes x))) q
      by d p (one x v) e q (one y w) = by_turn d p ∙ ap (beside_record s t at (length (record_bytes x))) q ∙ differ x y v w _ refl
      by d p (one x v) e q (none why g) = absurd (f.2 why g)
  ends-from (Rest Reference) f = by_turn _ (stands-due s at h _ (nothing f.0)) ∙ by (due_at t at) refl (due-stands t at k)
    where
      by : (e : Due) → due_at t at ≡ e → Stands (drop at t) e → beside_end (due_at t at) ≡ Ends (Rest Reference)
      by e q (nothing l) = ap beside_end q
      by e q (one x w) = ap beside_end q
      by e q (none why g) = absurd (f.1 why g)
