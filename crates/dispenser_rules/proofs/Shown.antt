-- The Model 2000T keeps to what a unit of the shared session has to: its frames, and its two cassettes booked by what an answer's bytes say. Assumes nothing.
use Rattle.std.proofs.lemmas.Result.{IfOk-at_ok}
use Rattle.std.specs.Prelude.{Ok}
use Prim.Native.Nat.{ℕ, ◌≤◌, ◌<◌}
use mathlib.Core.Path.{◌≡◌, refl, sym, ap, ap₂, ◌∙◌, subst}
use mathlib.Core.Bool.{Bool, false}
use mathlib.Core.List.{List, []}
use mathlib.Core.Logic.{⊎_elim}
use native.Mathlib.Omega.{arith}
use lib.Dec.{lit≤}
use lib.ListN.{length}
use Rattle.error_codes.specs.declared.ErrorClass.{ErrorClass}
use Rattle.refusals.specs.Rules.{same}
use Rattle.refusals.specs.Put.{over, laid, refused as not-put}
use Rattle.refusals.proofs.Rules.{pick, first-judged, none-judged, first_or_none, holds-true}
use Rattle.xor_frame.specs.Layout.{all_in_range, all_values}
use Rattle.dispenser_frame_rules.specs.Table.{table, line_in, line, known, asks, command_fields, answer_fields, answer_length, row, none, purged}
use Rattle.xor_frame.specs.Frame.{code_of}
use Rattle.dispenser_frame_rules.specs.Command.{counts_fit, sendable, command_frame, command_refusals, write_command}
use Rattle.dispenser_frame_rules.specs.Answer.{answer_code, answer_fits, answer_in, answer_faults, read_as, read_answer}
use Rattle.dispenser_frame_rules.specs.declared.answer.Cassette.{Cassette}
use Rattle.dispenser_frame_rules.specs.declared.answer.Cassette.TheVariants.{Upper, Lower}
use Rattle.dispenser_frame_rules.specs.declared.answer.Answer.{Answer}
use Rattle.dispenser_frame_rules.specs.declared.answer.Answer.TheVariants.{Purged, PaidOne, PaidBoth, Tested, Status}
use Rattle.dispenser_frame_rules.specs.AnswerRead.{AnswerRead}
use Rattle.dispenser_frame_rules.specs.AnswerRead.{Read, Refused}
use Rattle.xor_frame.proofs.Lengths.{length-known}
use Rattle.dispenser_frame_rules.proofs.Codes.{by_code, command-most, answer-most}
use Rattle.dispenser_frame_rules.proofs.Trips.{command-length}
use Rattle.exchange_rules.specs.Sums.{sums_opened, sums_answered, sums_refused, sums_unknown}
use Rattle.ledger.specs.Told.{Verdict, good}
use Rattle.exchange_rules.specs.Owed.{Lawful}
use Rattle.exchange_rules.specs.declared.notes.Sums.{Sums}
use Rattle.exchange_rules.proofs.Shown.{rejected-answered, left-answered}
use Rattle.dispenser_rules.specs.Account.{fresh_cassettes, account_opened, account_refused, account_unknown, account_answered}
use Rattle.dispenser_rules.specs.Session.{hand_over, bytes_put}
use Rattle.dispenser_rules.specs.Calls.{Request}
use Rattle.dispenser_rules.specs.Unit.{wanted, two, exit_of, rejects_of, layout, sums_of, Good, asked_of, verdict, unit}
use Rattle.dispenser_rules.specs.declared.account.Cassettes.{Cassettes}
use Rattle.dispenser_rules.proofs.Ranges.{sent-modest, answer-fits}

-- ---- what a good answer's bytes say, by digit place

abbrev pub Says : Answer → List ℕ → Type 0
Says (Purged e) f = Unit {0}
Says (PaidOne k chk x e s r) f = (x ≡ two 6 f) × (r ≡ two 10 f)
Says (PaidBoth uc ux lc lx e us ls ur lr) f = (ux ≡ two 6 f) × ((lx ≡ two 10 f) × ((ur ≡ two 15 f) × (lr ≡ two 17 f)))
Says (Tested k chk e s r) f = r ≡ two 10 f
Says (Status e s0 s1) f = Unit {0}

says-in : (f : List ℕ) (code : ℕ) → Says ((line code).makes (all_values (answer_fields code) 4 f)) f
unfolding table line_in all_values
says-in f =
    by_code (λ code. Says ((line code).makes (all_values (answer_fields code) 4 f)) f)
    tt (refl, refl) tt (refl, refl) (refl, (refl, (refl, refl))) refl refl
    (λ code a b c d e g h. let l : line code ≡ row 0 none none [] purged = simp (a, b, c, d, e, g, h) in rw l tt)

pub says : (f : List ℕ) (answer : Answer) (class : ErrorClass) → read_answer f ≡ Read answer class → Says answer f
unfolding read_answer
says f answer class e =
    ⊎_elim
    (λ x.
    let r : Refused x.0 ≡ Read answer class = sym (first-judged Refused (read_as (answer_in f)) (answer_faults f) x.0 x.1) ∙ e in
    absurd (let z : ◌≡◌ {A = ℕ} 0 1 = cc in omega arith))
    (λ none.
    let r : read_as (answer_in f) ≡ Read answer class = sym (none-judged Refused (read_as (answer_in f)) (answer_faults f) none) ∙ e in
    let a : answer_in f ≡ answer = IfOk-at_ok (λ x. answer_in f ≡ x.answer) r refl in
    subst (λ (x : Answer). Says x f) a (says-in f (code_of f)))
    (first_or_none (answer_faults f))

-- ---- a full frame that is the answer

-- it was read, and its code is the one asked
pub record Answers (code : ℕ) (x : Good) (y : AnswerRead) : Type 0 where
  pub read : y ≡ Read x.answer x.class
  pub same_code : answer_code x.answer ≡ code

pub answers_by : (code : ℕ) (x : Good) (y : AnswerRead) → verdict code y ≡ good x → Answers code x y
answers_by code x (Ok read') e =
    pick (λ (v : Verdict Good). v ≡ good x → Answers code x (Read read'.answer read'.class)) (same (answer_code read'.answer) code) _ _
    (λ h g. let a : record { answer = read'.answer; class = read'.class } ≡ x = cc in subst (λ (z : Good). Answers code z (Read read'.answer read'.class)) a (record { read = refl; same_code = h }))
    (λ n g. absurd (let z : ◌≡◌ {A = ℕ} 0 1 = cc in omega arith))
    e
answers_by code x (Refused f) e = absurd (let z : ◌≡◌ {A = ℕ} 0 1 = cc in omega arith)

-- ---- what it books of a cassette

record Books (a : Cassettes) (q : Request) (f : List ℕ) (c : Cassette) (after : Sums) : Type 0 where
  paid : exit_of q.code f c ≤ 99
  spoilt : rejects_of q.code f c ≤ 99
  booked : (sums_of a c).pending.0 ≡ wanted q c → after ≡ sums_answered (sums_of a c) (wanted q c) (exit_of q.code f c) (rejects_of q.code f c)

module _ (a : Cassettes) (q : Request) (sent : (sendable q.code q.upper q.lower).holds) where
  -- where none are asked of a cassette by a code of the table
  upper-none : (code : ℕ) → code ≡ q.code → (line code).upper ≡ false → q.upper ≡ 0
  unfolding sendable counts_fit
  upper-none code e n = subst (λ (w : Bool). (asks w q.upper).holds) (ap (λ (k : ℕ). (line k).upper) (sym e) ∙ n) sent.1.0

  lower-none : (code : ℕ) → code ≡ q.code → (line code).lower ≡ false → q.lower ≡ 0
  unfolding sendable counts_fit
  lower-none code e n = subst (λ (w : Bool). (asks w q.lower).holds) (ap (λ (k : ℕ). (line k).lower) (sym e) ∙ n) sent.1.1

  module _ (f : List ℕ) (c : Cassette) where
    -- paid by the answer; said nothing of; tested
    paid-books : (code e r : ℕ) → code ≡ q.code → e ≡ exit_of code f c → r ≡ rejects_of code f c → e ≤ 69 → r ≤ 99
        → Books a q f c (sums_answered (sums_of a c) (wanted q c) e r)
    paid-books code e r k u v m n =
        let x : e ≡ exit_of q.code f c = u ∙ ap (λ (i : ℕ). exit_of i f c) k in
        let y : r ≡ rejects_of q.code f c = v ∙ ap (λ (i : ℕ). rejects_of i f c) k in
        record { paid = omega (arith, x); spoilt = omega (arith, y); booked = λ p. ap₂ (λ (i j : ℕ). sums_answered (sums_of a c) (wanted q c) i j) x y }

    tested-books : (code r : ℕ) → code ≡ q.code → exit_of code f c ≡ 0 → r ≡ rejects_of code f c → wanted q c ≡ 0 → r ≤ 99 → (after : Sums)
        → ((sums_of a c).pending.0 ≡ 0 → after ≡ sums_answered (sums_of a c) 0 0 r) → Books a q f c after
    tested-books code r k u v w n after done =
        let x : 0 ≡ exit_of q.code f c = sym u ∙ ap (λ (i : ℕ). exit_of i f c) k in
        let y : r ≡ rejects_of q.code f c = v ∙ ap (λ (i : ℕ). rejects_of i f c) k in
        record {
          paid = omega (arith, x);
          spoilt = omega (arith, y);
          booked = λ p.
              done (p ∙ w) ∙ ap (λ (i : ℕ). sums_answered (sums_of a c) i 0 r) (sym w)
              ∙ ap₂ (λ (i j : ℕ). sums_answered (sums_of a c) (wanted q c) i j) x y;
        }

    other-books : (code : ℕ) → code ≡ q.code → exit_of code f c ≡ 0 → rejects_of code f c ≡ 0 → wanted q c ≡ 0 → Books a q f c (sums_of a c)
    other-books code k u v w = tested-books code 0 k u (sym v) w (lit≤ tt) (sums_of a c) (λ p. left-answered (sums_of a c) p)

  module _ (f : List ℕ) where
    by_answer : (answer : Answer) (c : Cassette) → answer_code answer ≡ q.code → Says answer f → (answer_fits answer).holds
        → Books a q f c (sums_of (account_answered a (asked_of q) answer) c)
    unfolding answer_fits all_in_range table line_in
    by_answer (Purged e) Upper k y g = other-books f Upper 0x44 k refl refl (upper-none 0x44 k refl)
    by_answer (Purged e) Lower k y g = other-books f Lower 0x44 k refl refl (lower-none 0x44 k refl)
    by_answer (PaidOne Upper chk e o s r) Upper k y g = paid-books f Upper 0x45 e r k y.0 y.1 g.1.0.1 g.1.1.1.1.0.1
    by_answer (PaidOne Upper chk e o s r) Lower k y g = other-books f Lower 0x45 k refl refl (lower-none 0x45 k refl)
    by_answer (PaidOne Lower chk e o s r) Upper k y g = other-books f Upper 0x55 k refl refl (upper-none 0x55 k refl)
    by_answer (PaidOne Lower chk e o s r) Lower k y g = paid-books f Lower 0x55 e r k y.0 y.1 g.1.0.1 g.1.1.1.1.0.1
    by_answer (PaidBoth uc ux lc lx o us ls ur lr) Upper k y g =
        paid-books f Upper 0x56 ux ur k y.0 y.1.1.0 g.1.0.1 g.1.1.1.1.1.1.1.0.1
    by_answer (PaidBoth uc ux lc lx o us ls ur lr) Lower k y g =
        paid-books f Lower 0x56 lx lr k y.1.0 y.1.1.1 g.1.1.1.0.1 g.1.1.1.1.1.1.1.1.0.1
    by_answer (Tested Upper chk o s r) Upper k y g =
        tested-books f Upper 0x76 r k refl y (upper-none 0x76 k refl) g.1.1.1.1.1.0.1 _ (λ p. rejected-answered a.upper p r)
    by_answer (Tested Upper chk o s r) Lower k y g = other-books f Lower 0x76 k refl refl (lower-none 0x76 k refl)
    by_answer (Tested Lower chk o s r) Upper k y g = other-books f Upper 0x77 k refl refl (upper-none 0x77 k refl)
    by_answer (Tested Lower chk o s r) Lower k y g =
        tested-books f Lower 0x77 r k refl y (lower-none 0x77 k refl) g.1.1.1.1.1.0.1 _ (λ p. rejected-answered a.lower p r)
    by_answer (Status e s0 s1) Upper k y g = other-books f Upper 0x46 k refl refl (upper-none 0x46 k refl)
    by_answer (Status e s0 s1) Lower k y g = other-books f Lower 0x46 k refl refl (lower-none 0x46 k refl)

    books-good : (x : Good) (c : Cassette) → verdict q.code (read_answer f) ≡ good x → Books a q f c (sums_of (account_answered a (asked_of q) x.answer) c)
    books-good x c e =
        let g = answers_by q.code x (read_answer f) e in
        by_answer x.answer c g.same_code (says f x.answer x.class g.read) (answer-fits f x.answer x.class g.read)

-- ---- its frames

handed-laid : (q : Request) (r : List ℕ) → (sendable q.code q.upper q.lower).holds → 16 ≤ length r
    → unit.hands q r ≡ record { put = length (layout q); room = over (layout q) r }
unfolding hand_over write_command command_refusals sendable
handed-laid q r h long =
    let f = command_frame q.code q.upper q.lower in
    let n = length-known known command_fields q.code (holds-true (known q.code) h.0) in
    let w = none-judged (λ why. not-put why r) (laid f r) (command_refusals q.code q.upper q.lower r)
    ((λ x. x h.0), ((λ x. omega (arith, n, command-most q.code)), ((λ x. x h.1), tt))) in
    ap (λ v. record { put = bytes_put v.answer; room = v.room }) w

answer-long : (code upper lower : ℕ) → (sendable code upper lower).holds → 1 < answer_length code
unfolding sendable
answer-long code upper lower h = omega (arith, length-known known answer_fields code (holds-true (known code) h.0))

wanted-most : (q : Request) (c : Cassette) → (sendable q.code q.upper q.lower).holds → wanted q c ≤ 99
wanted-most q Upper h = omega (arith, (sent-modest (asked_of q) h).upper)
wanted-most q Lower h = omega (arith, (sent-modest (asked_of q) h).lower)

opens_by : (a : Cassettes) (q : Request) (c : Cassette) → sums_of (account_opened a (asked_of q)) c ≡ sums_opened (sums_of a c) (wanted q c)
unfolding account_opened
opens_by a q Upper = refl
opens_by a q Lower = refl

refuses-by : (a : Cassettes) (q : Request) (c : Cassette) → sums_of (account_refused a (asked_of q)) c ≡ sums_refused (sums_of a c) (wanted q c)
unfolding account_refused
refuses-by a q Upper = refl
refuses-by a q Lower = refl

loses-by : (a : Cassettes) (q : Request) (c : Cassette) → sums_of (account_unknown a (asked_of q)) c ≡ sums_unknown (sums_of a c) (wanted q c)
unfolding account_unknown
loses-by a q Upper = refl
loses-by a q Lower = refl

pub lawful : Lawful unit
lawful =
    record {
      laid = handed-laid;
      long = λ q h. omega (arith, command-length q.code q.upper q.lower h);
      least = λ q h. answer-long q.code q.upper q.lower h;
      most = λ q h. answer-most q.code;
      small = lit≤ tt;
      modest = wanted-most;
      paid = λ q f x c h e. (books-good fresh_cassettes q h f x c e).paid;
      spoilt = λ q f x c h e. (books-good fresh_cassettes q h f x c e).spoilt;
      opens = opens_by;
      closes_refused = refuses-by;
      closes_unknown = loses-by;
      answers = λ a q f x c h e p. (books-good a q h f x c e).booked p;
    }
