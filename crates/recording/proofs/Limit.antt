-- A recording past the limit: what the bytes before the limit say, unless they are good or cut short, and then 24. Assumes nothing.
use Prim.Native.Nat.{ℕ, suc, ◌+◌, ◌≤◌, ◌<◌}
use mathlib.Core.Path.{◌≡◌, refl, sym, ap, ◌∙◌, subst}
use mathlib.Core.List.{List, [], ◌∷◌, ◌++◌}
use mathlib.Core.Logic.{◌⊎◌, inl, inr}
use native.Mathlib.Omega.{arith}
use lib.ListN.{length, take, drop, length-drop, take-append-drop}
use lib.Seq.{length-take-le}
use Rattle.refusals.specs.Rules.{at_most}
use Rattle.refusals.proofs.Rules.{by_cases}
use Rattle.recording.specs.Record.{most_bytes, fault_number}
use Rattle.recording.specs.Reading.{Reading, records, bad, fresh_reader, more, whole, refused_at, read_byte, ended, past_in, taken_byte, also, went, closing, reading_from, taking_from, read_recording}
use Rattle.recording.specs.Promises.{AtOnce, bad-number, unknown}
use Rattle.recording.specs.declared.Fault.{Fault}
use Rattle.recording.specs.declared.Fault.TheVariants.{BadNumber, Cut, Unknown, Long}
use Rattle.recording.specs.declared.Record.{Record}
use Rattle.recording.specs.declared.Place.{Place}
use Rattle.recording.specs.declared.Place.TheVariants.{Kind, Code, Upper, Lower, FromDispenser, Milliseconds, FromValidator, ToValidator, Broken}
use Rattle.recording.specs.declared.Reader.{Reader}
use Rattle.recording.specs.declared.Step.{Step}
use Rattle.recording.proofs.Places.{Inside, Sound, past-sound, begun-ended}
use Rattle.recording.proofs.Folds.{reading-nil, reading-cons, taken-before, taken-past, taking-cons}
use Rattle.recording.proofs.Starts.{Held, begun, complete, faulty, held-byte, held-kind}

-- what bytes up to the limit say, where another byte follows
abbrev pub passed : Reading → Reading
passed (records xs) = bad Long most_bytes
passed (bad BadNumber at) = bad BadNumber at
passed (bad Cut at) = bad Long most_bytes
passed (bad Unknown at) = bad Unknown at
passed (bad Long at) = bad Long at

passed-also : (x : Record) (g : Reading) → passed (also x g) ≡ also x (passed g)
passed-also x (records xs) = refl
passed-also x (bad BadNumber at) = refl
passed-also x (bad Cut at) = refl
passed-also x (bad Unknown at) = refl
passed-also x (bad Long at) = refl

pub passed-at-once : {why : Fault} → AtOnce why → (at : ℕ) → passed (bad why at) ≡ bad why at
passed-at-once bad-number at = refl
passed-at-once unknown at = refl

-- the byte at the limit
at-limit : (r : Reader) → Sound r.place → (at b : ℕ) (t : List ℕ) → at ≡ most_bytes → taking_from r at (b ∷ t) ≡ bad Long most_bytes
at-limit r i at b t e =
    taking-cons r at b t
    ∙ ap (λ (x : Step). went x.outcome (taking_from x.reader (suc at) t)) (taken-past r at b (omega (arith, e)) ∙ past-sound r.place i r at)
    ∙ ap (bad Long) e

limit-inside : (r : Reader) → Inside r.place → (at b : ℕ) (t : List ℕ) → at ≡ most_bytes → taking_from r at (b ∷ t) ≡ passed (reading_from r at [])
limit-inside r i at b t e = at-limit r (inr i) at b t e ∙ sym (ap passed (reading-nil r at ∙ ap closing (begun-ended r i)))

limit-due : (at b : ℕ) (t : List ℕ) → at ≡ most_bytes → taking_from fresh_reader at (b ∷ t) ≡ passed (reading_from fresh_reader at [])
unfolding ended
limit-due at b t e = at-limit fresh_reader (inl refl) at b t e ∙ sym (ap passed (reading-nil fresh_reader at))

-- a byte before it, whose step is x; later bytes say what is said of them
module _ (at c : ℕ) (p u : List ℕ) where
  on : {o : ℕ} (x : Step) → Held o x
      → ((r : Reader) → Inside r.place → taking_from r (suc at) u ≡ passed (reading_from r (suc at) p))
      → taking_from fresh_reader (suc at) u ≡ passed (reading_from fresh_reader (suc at) p)
      → went x.outcome (taking_from x.reader (suc at) u) ≡ passed (went x.outcome (reading_from x.reader (suc at) p))
  on x (begun r i e) f g = f r i
  on x (complete y) f g = ap (also y) g ∙ sym (passed-also y (reading_from fresh_reader (suc at) p))
  on {o} x (faulty a) f g = sym (passed-at-once a o)

  one : (r : Reader) → at < most_bytes
      → went (read_byte r at c).outcome (taking_from (read_byte r at c).reader (suc at) u)
      ≡ passed (went (read_byte r at c).outcome (reading_from (read_byte r at c).reader (suc at) p))
      → taking_from r at (c ∷ u) ≡ passed (reading_from r at (c ∷ p))
  one r h e =
      taking-cons r at c u
      ∙ ap (λ (x : Step). went x.outcome (taking_from x.reader (suc at) u)) (taken-before r at c h)
      ∙ e
      ∙ sym (ap passed (reading-cons r at c p))

-- bytes up to the limit, of which the first stands at an offset: in a record, and where one is due
past-says : (p : List ℕ) (at b : ℕ) (t : List ℕ) → at + length p ≡ most_bytes
    → ((r : Reader) → Inside r.place → taking_from r at (p ++ (b ∷ t)) ≡ passed (reading_from r at p))
    × (taking_from fresh_reader at (p ++ (b ∷ t)) ≡ passed (reading_from fresh_reader at p))
past-says [] at b t e = (λ r i. limit-inside r i at b t (omega (arith, e)), limit-due at b t (omega (arith, e)))
past-says (c ∷ p) at b t e =
    let later = past-says p (suc at) b t (omega (arith, e)) in (
      λ r i.
          one at c p (p ++ (b ∷ t)) r (omega (arith, e)) (on at c p (p ++ (b ∷ t)) (read_byte r at c) (held-byte r at c i refl) later.0 later.1),
      one at c p (p ++ (b ∷ t)) fresh_reader (omega (arith, e)) (on at c p (p ++ (b ∷ t)) (read_byte fresh_reader at c) (held-kind at c) later.0 later.1),
    )

-- a recording that is too long
pub reading-long : (s : List ℕ) → most_bytes < length s → read_recording s ≡ passed (reading_from fresh_reader 0 (take most_bytes s))
unfolding read_recording
reading-long s h = by (drop most_bytes s) refl
  where
    n : length (take most_bytes s) ≡ most_bytes
    n = length-take-le most_bytes s (omega (arith, h))

    by : (u : List ℕ) → u ≡ drop most_bytes s → taking_from fresh_reader 0 s ≡ passed (reading_from fresh_reader 0 (take most_bytes s))
    by [] e = absurd (omega (arith, h, ap length e, length-drop most_bytes s))
    by (b ∷ t) e =
        ap (taking_from fresh_reader 0) (sym (take-append-drop most_bytes s) ∙ ap (λ (u : List ℕ). take most_bytes s ++ u) (sym e))
        ∙ (past-says (take most_bytes s) 0 b t (omega (arith, n))).1

-- ---- what a byte of a recording leaves of a reader that has met no fault

-- between records, or inside one
abbrev pub Ready : Reader → Type 0
Ready r = (r ≡ fresh_reader) ⊎ Inside r.place

pub data Leaves : Step → Type 0 where
  goes : (q : Reader) → Inside q.place → Leaves (more q)
  ends : (x : Record) → Leaves (whole x)
  breaks : (o : ℕ) (why : Fault) → (why ≡ Cut → ⊥) → Leaves (refused_at o why)

not-cut : {why : Fault} → AtOnce why → why ≡ Cut → ⊥
not-cut bad-number e = omega (arith, ap fault_number e)
not-cut unknown e = omega (arith, ap fault_number e)

leaves-held : {o : ℕ} {t : Step} → Held o t → Leaves t
leaves-held (begun q i e) = goes q i
leaves-held (complete x) = ends x
leaves-held {o} (faulty {why} a) = breaks o why (not-cut a)

leaves-byte : (r : Reader) → Ready r → (at b : ℕ) → Leaves (read_byte r at b)
leaves-byte r (inl e) at b = subst (λ (q : Reader). Leaves (read_byte q at b)) (sym e) (leaves-held (held-kind at b))
leaves-byte r (inr i) at b = leaves-held (held-byte r at b i refl)

ready-sound : (r : Reader) → Ready r → Sound r.place
ready-sound r (inl e) = subst (λ (q : Reader). Sound q.place) (sym e) (inl refl)
ready-sound r (inr i) = inr i

pub past-ready : (r : Reader) → Ready r → (at b : ℕ) → most_bytes ≤ at → taken_byte r at b ≡ refused_at at Long
past-ready r h at b l = taken-past r at b l ∙ past-sound r.place (ready-sound r h) r at

pub leaves : (r : Reader) → Ready r → (at b : ℕ) → Leaves (taken_byte r at b)
leaves r h at b =
    by_cases (at_most most_bytes at)
    (λ l. subst Leaves (sym (past-ready r h at b l)) (breaks at Long (λ e. omega (arith, ap fault_number e))))
    (λ n. subst Leaves (sym (taken-before r at b (omega arith))) (leaves-byte r h at b))

-- whatever was met, a byte past the limit brings a fault
past_is : (p : Place) (r : Reader) (at : ℕ) → (o : ℕ) × ((why : Fault) × (past_in p r at ≡ refused_at o why))
past_is Kind r at = (at, (Long, refl))
past_is Code r at = (at, (Long, refl))
past_is Upper r at = (at, (Long, refl))
past_is Lower r at = (at, (Long, refl))
past_is FromDispenser r at = (at, (Long, refl))
past_is Milliseconds r at = (at, (Long, refl))
past_is FromValidator r at = (at, (Long, refl))
past_is ToValidator r at = (at, (Long, refl))
past_is (Broken why) r at = (r.start, (why, refl))

pub past-faulty : (r : Reader) (at b : ℕ) → most_bytes ≤ at → (o : ℕ) × ((why : Fault) × (taken_byte r at b ≡ refused_at o why))
past-faulty r at b l = let x = past_is r.place r at in (x.0, (x.1.0, taken-past r at b l ∙ x.1.1))
