-- A reader that has met a fault stays at it: what a byte leaves is one of three, and a fault is left in one way alone. Assumes nothing.
use Prim.Native.Nat.{ℕ, zero, suc, ◌+◌, ◌≤◌}
use mathlib.Core.Path.{◌≡◌, refl, ap, ◌∙◌, subst}
use mathlib.Core.Bool.{Bool, true, false, cond}
use mathlib.Core.List.{List, [], ◌∷◌}
use native.Mathlib.Omega.{arith}
use lib.Dec.{leb}
use Rattle.std.proofs.lemmas.Result.{IfErr-at_err}
use Rattle.refusals.specs.Rules.{Condition, under, isnt, judged, ◌gives◌}
use Rattle.numbers.specs.Seven.{next_group}
use Rattle.numbers.specs.Grouped.{Group}
use Rattle.numbers.specs.Grouped.{More as OneMore, Last, Wrong}
use Rattle.dispenser_frame_rules.specs.Table.{known}
use Rattle.recording.specs.Record.{most_bytes, in_list}
use Rattle.recording.specs.Reading.{awaiting, grown, next_number, more, whole, refused_at, refused, kind_byte, request_read, byte_read, command_read, numbered, group_read, grouped, byte_in, read_byte, ended, past_in, taken_byte, reader_after}
use Rattle.recording.specs.Promises.{Stays, FaultStays}
use Rattle.recording.specs.declared.Fault.{Fault}
use Rattle.recording.specs.declared.Fault.TheVariants.{Unknown}
use Rattle.recording.specs.declared.Record.{Record}
use Rattle.recording.specs.declared.Place.{Place}
use Rattle.recording.specs.declared.Place.TheVariants.{Kind, Code, Upper, Lower, FromDispenser, Milliseconds, FromValidator, ToValidator, Broken}
use Rattle.recording.specs.declared.Reader.{Reader}
use Rattle.recording.specs.declared.Step.{Step}
use Rattle.recording.specs.Outcome.{Bad}

-- ---- what a byte leaves: no offset but that of its record, or its own

data Left (m : ℕ) : Step → Type 0 where
  going : (r : Reader) → r.start ≤ m → Left m (more r)
  complete : (x : Record) → Left m (whole x)
  faulty : (at : ℕ) (why : Fault) → at ≤ m → Left m (refused_at at why)

left-either : {m : ℕ} (t : Bool) {x y : Step} → Left m x → Left m y → Left m (cond t x y)
left-either true a b = a
left-either false a b = b

left-value : {m : ℕ} (c : Condition) (r : Reader) (x : Record) → r.start ≤ m → Left m (judged (c gives Unknown ∷ []) (refused r) (whole x))
left-value c r x h = left-either c.test (faulty _ Unknown h) (complete x)

left-number : {m : ℕ} (p : Place) (r : Reader) (n : ℕ) → r.start ≤ m → Left m (numbered p r n)
unfolding request_read byte_read command_read
left-number Kind r n h = going r h
left-number Code r n h = going (next_number r n r.upper Upper) h
left-number Upper r n h = going (next_number r r.code n Lower) h
left-number Lower r n h = left-value (isnt (known r.code)) r _ h
left-number FromDispenser r n h = left-value (under 255 n) r _ h
left-number Milliseconds r n h = complete _
left-number FromValidator r n h = left-value (under 255 n) r _ h
left-number ToValidator r n h = left-value (isnt (in_list n)) r _ h
left-number (Broken why) r n h = faulty _ why h

left-group : {m : ℕ} (g : Group) (r : Reader) → r.start ≤ m → Left m (group_read g r)
left-group (OneMore a w) r h = going (grown r a w) h
left-group (Last n) r h = left-number r.place r n h
left-group Wrong r h = faulty _ _ h

left-grouped : {m : ℕ} (r : Reader) (b : ℕ) → r.start ≤ m → Left m (grouped r b)
unfolding grouped
left-grouped r b h = left-group (next_group r.acc r.weight b) r h

left-kind : {m : ℕ} (at k : ℕ) → at ≤ m → Left m (kind_byte at k)
unfolding kind_byte
left-kind at zero h = going (awaiting at Code) h
left-kind at (suc zero) h = going (awaiting at FromDispenser) h
left-kind at (suc (suc zero)) h = going (awaiting at Milliseconds) h
left-kind at (suc (suc (suc zero))) h = going (awaiting at FromValidator) h
left-kind at (suc (suc (suc (suc zero)))) h = going (awaiting at ToValidator) h
left-kind at (suc (suc (suc (suc (suc zero))))) h = complete _
left-kind at (suc (suc (suc (suc (suc (suc k)))))) h = faulty at Unknown h

left_in : {m : ℕ} (p : Place) (r : Reader) (at b : ℕ) → r.start ≤ m → at ≤ m → Left m (byte_in p r at b)
left_in Kind r at b h l = left-kind at b l
left_in Code r at b h l = left-grouped r b h
left_in Upper r at b h l = left-grouped r b h
left_in Lower r at b h l = left-grouped r b h
left_in FromDispenser r at b h l = left-grouped r b h
left_in Milliseconds r at b h l = left-grouped r b h
left_in FromValidator r at b h l = left-grouped r b h
left_in ToValidator r at b h l = left-grouped r b h
left_in (Broken why) r at b h l = faulty _ why h

left-past : {m : ℕ} (p : Place) (r : Reader) (at : ℕ) → r.start ≤ m → at ≤ m → Left m (past_in p r at)
left-past Kind r at h l = faulty _ _ l
left-past Code r at h l = faulty _ _ l
left-past Upper r at h l = faulty _ _ l
left-past Lower r at h l = faulty _ _ l
left-past FromDispenser r at h l = faulty _ _ l
left-past Milliseconds r at h l = faulty _ _ l
left-past FromValidator r at h l = faulty _ _ l
left-past ToValidator r at h l = faulty _ _ l
left-past (Broken why) r at h l = faulty _ _ h

left-taken : {m : ℕ} (r : Reader) (at b : ℕ) → r.start ≤ m → at ≤ m → Left m (taken_byte r at b)
unfolding taken_byte read_byte
left-taken r at b h l = left-either (leb most_bytes at) (left-past r.place r at h l) (left_in r.place r at b h l)

-- no offset is beyond m, if none was
pub record Low (m : ℕ) (t : Step) : Type 0 where
  pub begun : t.reader.start ≤ m
  pub bad : (why : Fault) (at : ℕ) → t.outcome ≡ Bad why at → at ≤ m

low-left : {m : ℕ} {t : Step} → Left m t → Low m t
low-left (going r h) = record { begun = h; bad = λ why at e. let z : ◌≡◌ {A = ℕ} 0 1 = cc in absurd (omega arith) }
low-left (complete x) = record { begun = omega arith; bad = λ why at e. let z : ◌≡◌ {A = ℕ} 0 1 = cc in absurd (omega arith) }
low-left (faulty o w h) = record { begun = h; bad = λ why at e. let z : o ≡ at = IfErr-at_err (λ x. o ≡ x.at) e refl in omega (arith, z, h) }

pub taken-low : {m : ℕ} (r : Reader) (at b : ℕ) → r.start ≤ m → at ≤ m → Low m (taken_byte r at b)
taken-low r at b h l = low-left (left-taken r at b h l)

-- ---- after a fault

pub broken-byte : (at p b : ℕ) (why : Fault) → taken_byte (awaiting at (Broken why)) p b ≡ refused_at at why
unfolding taken_byte read_byte
broken-byte at p b why = by (leb most_bytes p)
  where
    by : (t : Bool) → cond t (refused_at at why) (refused_at at why) ≡ refused_at at why
    by true = refl
    by false = refl

broken-after : (at : ℕ) (why : Fault) (p : ℕ) (s : List ℕ) → reader_after (awaiting at (Broken why)) p s ≡ awaiting at (Broken why)
unfolding reader_after
broken-after at why p [] = refl
broken-after at why p (b ∷ s) = ap (λ (t : Step). reader_after t.reader (suc p) s) (broken-byte at p b why) ∙ broken-after at why (suc p) s

stays : (at : ℕ) (why : Fault) → Stays why at (awaiting at (Broken why))
unfolding ended
stays at why = record { unchanged = broken-after at why; byte = λ p b. ap (λ (t : Step). t.outcome) (broken-byte at p b why); end = refl }

stays-left : {m : ℕ} {t : Step} → Left m t → (why : Fault) (at : ℕ) → t.outcome ≡ Bad why at → Stays why at t.reader
stays-left (going r h) why at e = let z : ◌≡◌ {A = ℕ} 0 1 = cc in absurd (omega arith)
stays-left (complete x) why at e = let z : ◌≡◌ {A = ℕ} 0 1 = cc in absurd (omega arith)
stays-left (faulty o w h) why at e =
    let same : w ≡ why = IfErr-at_err (λ x. w ≡ x.fault) e refl in
    let place : o ≡ at = IfErr-at_err (λ x. o ≡ x.at) e refl in
    subst (λ (v : Fault). Stays v at (awaiting o (Broken w))) same (subst (λ (q : ℕ). Stays w q (awaiting o (Broken w))) place (stays o w))

pub fault-stays : FaultStays
fault-stays r p b why at e = stays-left (left-taken {m = r.start + p} r p b (omega arith) (omega arith)) why at e
