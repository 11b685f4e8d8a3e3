-- What a full frame is, exactly; which answers alter a sum; and the quiet that a closing asks. Assumes nothing.
use Prim.Native.Nat.{ℕ, ◌≤◌}
use mathlib.Core.Path.{◌≡◌, refl, sym, ap, ◌∙◌}
use mathlib.Core.List.{List}
use native.Mathlib.Omega.{arith}
use lib.Dec.{lit≤}
use lib.ListN.{get_or}
use borrow.Author.Tests.{eq-eqb, ne_eqb}
use Rattle.refusals.specs.Rules.{same}
use Rattle.refusals.proofs.Rules.{pick, none-judged, cond-true, cond-false}
use Rattle.xor_frame.specs.Layout.{all_values}
use Rattle.xor_frame.specs.Frame.{code_of}
use Rattle.vcdm_frame_rules.specs.Table.{table, line_in, line, answer_fields}
use Rattle.vcdm_frame_rules.specs.Answer.{answer_code, answer_in, answer_faults, read_answer}
use Rattle.vcdm_frame_rules.specs.declared.command.Counts.{Counts}
use Rattle.vcdm_frame_rules.specs.declared.answer.Answer.{Answer}
use Rattle.vcdm_frame_rules.specs.declared.answer.Answer.TheVariants.{Reset, Status, Purged, Dispensed, Last}
use Rattle.vcdm_frame_rules.specs.AnswerRead.{AnswerRead}
use Rattle.vcdm_frame_rules.specs.AnswerRead.{Read, Refused as NotRead}
use Rattle.vcdm_frame_rules.proofs.Trips.{answer-passed, read-code}
use Rattle.ledger.specs.Told.{bad, void}
use Rattle.vcdm_rules.specs.Account.{account_answered}
use Rattle.vcdm_rules.specs.Session.{more_quiet, dispense_found, found_by, finding}
use Rattle.vcdm_rules.specs.Calls.{Request}
use Rattle.vcdm_rules.specs.Unit.{plain_finding, verdict}
use Rattle.vcdm_rules.specs.Promises.{Repeats, Judged, AltersNone, Quiets}
use Rattle.vcdm_rules.specs.declared.account.Account.{Account}
use Rattle.vcdm_rules.specs.declared.session.Finding.{Finding}
use Rattle.vcdm_rules.specs.declared.session.Finding.TheVariants.{Bad, Good, Void}
use Rattle.vcdm_rules.proofs.Shown.{says, answers_by}

-- ---- acknowledged and refused

-- an answer that is found void is to a dispense, with its serial and 3Dh
record Voids (own : ℕ) (x : Answer) (f : List ℕ) : Type 0 where
  dispense : answer_code x ≡ 0x52
  serial : get_or f 5 0 ≡ own
  error : get_or f 4 0 ≡ 0x3D

not_good : {A : Type 0} (x : Answer) → plain_finding Good x ≡ void → A
not_good x e = absurd (let z : ◌≡◌ {A = ℕ} 0 1 = cc in omega arith)

void-by : (own : ℕ) (x : Answer) (f : List ℕ) → read_answer f ≡ Read x → plain_finding (found_by own x) x ≡ void → Voids own x f
void-by own (Reset e) f r = not_good _
void-by own (Status e d0 d1 p) f r = not_good _
void-by own (Purged e m c s) f r = not_good _
void-by own (Dispensed e s c z) f r =
    let y = (says f (Dispensed e s c z) r).0 in
    pick (λ (v : Finding). plain_finding v (Dispensed e s c z) ≡ void → Voids own (Dispensed e s c z) f) (same s own) _ _
    (λ h. pick (λ (v : Finding). plain_finding v (Dispensed e s c z) ≡ void → Voids own (Dispensed e s c z) f) (same e 0x3D) _ _
    (λ g k. record { dispense = refl; serial = sym y.serial ∙ h; error = sym y.error ∙ g })
    (λ n. not_good _))
    (λ n k. absurd (let z : ◌≡◌ {A = ℕ} 0 1 = cc in omega arith))
void-by own (Last l e s c z) f r = not_good _

void-repeats : (q : Request) (f : List ℕ) (y : AnswerRead) → read_answer f ≡ y → verdict q y ≡ void → Repeats q f
unfolding finding
void-repeats q f (Read x) r =
    pick (λ (v : Finding). plain_finding v x ≡ void → Repeats q f) (same (answer_code x) q.code) _ _
    (λ h g.
    let v = void-by q.serial x f r g in
    record { none = (answer-passed f x r).none; asked = sym (read-code f x r) ∙ h; dispense = sym h ∙ v.dispense; serial = v.serial; error = v.error })
    (λ n g. absurd (let z : ◌≡◌ {A = ℕ} 0 1 = cc in omega arith))
void-repeats q f (NotRead fault) r = λ e. absurd (let z : ◌≡◌ {A = ℕ} 0 1 = cc in omega arith)

-- what a frame with the code 52h holds
dispensed-in : (f : List ℕ) (code : ℕ) → code ≡ 0x52 → (own : ℕ)
    → found_by own ((line code).makes (all_values (answer_fields code) 4 f)) ≡ dispense_found own (get_or f 4 0) (get_or f 5 0)
unfolding table line_in all_values
dispensed-in f code e own = rw e

made_code : (f : List ℕ) (code : ℕ) → code ≡ 0x52 → answer_code ((line code).makes (all_values (answer_fields code) 4 f)) ≡ 0x52
unfolding table line_in all_values
made_code f code e = rw e

-- an answer with the code asked is what is found of it
found-asked : (code own : ℕ) (x : Answer) → answer_code x ≡ code → finding code own x ≡ found_by own x
unfolding finding
found-asked code own x e = cond-true _ _ (eq-eqb (answer_code x) code e)

found-other : (code own : ℕ) (x : Answer) → (answer_code x ≡ code → ⊥) → finding code own x ≡ Bad
unfolding finding
found-other code own x n = cond-false _ _ (ne_eqb (answer_code x) code n)

repeated-found : (own e s : ℕ) → s ≡ own → e ≡ 0x3D → dispense_found own e s ≡ Void
repeated-found own e s h g = rw (eq-eqb s own h, eq-eqb e 0x3D g)

repeats-void : (q : Request) (f : List ℕ) → Repeats q f → verdict q (read_answer f) ≡ void
unfolding read_answer
repeats-void q f k =
    let x = answer_in f in
    let c : code_of f ≡ 0x52 = k.asked ∙ k.dispense in
    let v : finding q.code q.serial x ≡ Void =
    found-asked q.code q.serial x (made_code f (code_of f) c ∙ sym k.dispense)
    ∙ dispensed-in f (code_of f) c q.serial
    ∙ repeated-found q.serial (get_or f 4 0) (get_or f 5 0) k.serial k.error in
    ap (verdict q) (none-judged NotRead (Read x) (answer_faults f) k.none) ∙ ap (λ (w : Finding). plain_finding w x) v

-- ---- bad

other-serial : (own : ℕ) (x : Answer) (f : List ℕ) → read_answer f ≡ Read x → answer_code x ≡ 0x52 → (get_or f 5 0 ≡ own → ⊥) → found_by own x ≡ Bad
other-serial own (Reset e) f r c n = absurd (omega (arith, c))
other-serial own (Status e d0 d1 p) f r c n = absurd (omega (arith, c))
other-serial own (Purged e m p s) f r c n = absurd (omega (arith, c))
other-serial own (Dispensed e s p z) f r c n = rw (ne_eqb s own (λ h. n (sym (says f (Dispensed e s p z) r).0.serial ∙ h)))
other-serial own (Last l e s p z) f r c n = absurd (omega (arith, c))

bad-serial : (q : Request) (f : List ℕ) (y : AnswerRead) → read_answer f ≡ y → q.code ≡ 0x52 → (get_or f 5 0 ≡ q.serial → ⊥) → verdict q y ≡ bad
unfolding finding
bad-serial q f (Read x) r c n =
    pick (λ (v : Finding). plain_finding v x ≡ bad) (same (answer_code x) q.code) _ _
    (λ h. ap (λ (v : Finding). plain_finding v x) (other-serial q.serial x f r (h ∙ c) n)) (λ m. refl)
bad-serial q f (NotRead fault) r c n = refl

bad-code : (q : Request) (f : List ℕ) (y : AnswerRead) → read_answer f ≡ y → (code_of f ≡ q.code → ⊥) → verdict q y ≡ bad
bad-code q f (Read x) r n = ap (λ (v : Finding). plain_finding v x) (found-other q.code q.serial x (λ h. n (sym (read-code f x r) ∙ h)))
bad-code q f (NotRead fault) r n = refl

pub judged-exactly : Judged
judged-exactly =
    record {
      repeated = λ q f. (void-repeats q f (read_answer f) refl, repeats-void q f);
      another_serial = λ q f c n. bad-serial q f (read_answer f) refl c n;
      another_code = λ q f n. bad-code q f (read_answer f) refl n;
    }

-- ---- no other answer alters a sum

alters : (a : Account) (n : Counts) (x : Answer) → (answer_code x ≡ 0x52 → ⊥) → account_answered a n x ≡ a
alters a n (Reset e) k = refl
alters a n (Status e d0 d1 p) k = refl
alters a n (Purged e m c r) k = refl
alters a n (Dispensed e s c r) k = absurd (k refl)
alters a n (Last l e s c r) k = refl

pub alters-none : AltersNone
alters-none a q f x n e =
    let g = answers_by q x (read_answer f) e in
    alters a q.counts x (λ c. n (sym g.same_code ∙ c))

-- ---- quiet

-- no command asks more than 2,000 ms beyond the line's quiet
pub more-most : (code : ℕ) → more_quiet code ≤ 2_000
unfolding more_quiet
more-most code = pick (λ (n : ℕ). n ≤ 2_000) (same code 0x44) _ _ (λ e. lit≤ tt) (λ n. lit≤ tt)

pub quiets : Quiets
unfolding more_quiet
quiets =
    record {
      reset = λ q e. let t = eq-eqb q.code 0x44 e in (rw t, (rw t, rw t));
      others = λ q n. let t = ne_eqb q.code 0x44 n in (rw t, (rw t, rw t));
    }
