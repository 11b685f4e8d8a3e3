-- The four-cassette unit keeps to what a unit of the shared session has to: its frames, and its four cassettes booked by what an answer's bytes say. Assumes nothing.
use Prim.Native.Nat.{ℕ, ◌+◌, ◌-◌, ◌≤◌, ◌<◌}
use mathlib.Core.Path.{◌≡◌, refl, sym, ap, ap₂, ◌∙◌, subst}
use mathlib.Core.Bool.{Bool, true, false}
use mathlib.Core.List.{List}
use native.Mathlib.Omega.{arith}
use lib.Dec.{eqb, lit≤}
use lib.ListN.{length, get_or}
use borrow.Author.Tests.{eq-eqb}
use Rattle.refusals.specs.Rules.{same}
use Rattle.refusals.specs.Put.{over, laid, refused as not-put}
use Rattle.refusals.proofs.Rules.{pick, none-judged, holds-true}
use Rattle.xor_frame.specs.Layout.{all_in_range, all_values}
use Rattle.xor_frame.proofs.Lengths.{length-known}
use Rattle.vcdm_frame_rules.specs.Table.{table, line_in, line, known, command_fields, answer_fields, answer_length}
use Rattle.vcdm_frame_rules.specs.Command.{counts_fit, sendable, command_frame, command_refusals, write_command}
use Rattle.vcdm_frame_rules.specs.Answer.{answer_code, answer_fits, read_answer}
use Rattle.vcdm_frame_rules.specs.declared.command.Counts.{Counts}
use Rattle.vcdm_frame_rules.specs.declared.answer.Answer.{Answer}
use Rattle.vcdm_frame_rules.specs.declared.answer.Answer.TheVariants.{Reset, Status, Purged, Dispensed, Last}
use Rattle.vcdm_frame_rules.specs.AnswerRead.{AnswerRead}
use Rattle.vcdm_frame_rules.specs.AnswerRead.{Read, Refused as NotRead}
use Rattle.vcdm_frame_rules.proofs.Codes.{by_code, no_line, asks-notes, command-most, answer-most}
use Rattle.vcdm_frame_rules.proofs.Trips.{command-length, answer-passed, answer-fits}
use Rattle.exchange_rules.specs.Sums.{sums_opened, sums_answered, sums_refused, sums_unknown}
use Rattle.exchange_rules.specs.Owed.{Lawful}
use Rattle.exchange_rules.specs.declared.notes.Sums.{Sums}
use Rattle.exchange_rules.proofs.Shown.{left-answered}
use Rattle.ledger.specs.Told.{good}
use Rattle.vcdm_rules.specs.Account.{fresh_account, account_opened, account_refused, account_unknown, account_paid, account_answered}
use Rattle.vcdm_rules.specs.Session.{hand_over, bytes_put, found_by, finding, pays}
use Rattle.vcdm_rules.specs.Calls.{Request}
use Rattle.vcdm_rules.specs.Unit.{Cassette, top, second, third, bottom, count_of, cassette, exit_of, rejects_of, layout, plain_finding, verdict, unit}
use Rattle.vcdm_rules.specs.declared.account.Account.{Account}
use Rattle.vcdm_rules.specs.declared.session.Finding.{Finding}
use Rattle.vcdm_rules.specs.declared.session.Finding.TheVariants.{Bad, Good, Void}

-- ---- what a good answer's bytes say, by place

pub record Said (e s : ℕ) (f : List ℕ) : Type 0 where
  pub error : e ≡ get_or f 4 0
  pub serial : s ≡ get_or f 5 0

-- of one cassette: EXIT at a place, REJECT behind it
abbrev At : ℕ → ℕ → ℕ → List ℕ → Type 0
At at e r f = (e ≡ get_or f at 0 - 0x20) × (r ≡ get_or f (at + 1) 0 - 0x20)

abbrev pub Says : Answer → List ℕ → Type 0
Says (Reset e) f = Unit {0}
Says (Status e d0 d1 p) f = Unit {0}
Says (Purged e m c r) f = Unit {0}
Says (Dispensed e s c r) f =
    Said e s f
    × (At 6 c.top.exit c.top.rejects f × (At 9 c.second.exit c.second.rejects f × (At 12 c.third.exit c.third.rejects f × At 15 c.bottom.exit c.bottom.rejects f)))
Says (Last l e s c r) f = Unit {0}

says-in : (f : List ℕ) (code : ℕ) → Says ((line code).makes (all_values (answer_fields code) 4 f)) f
unfolding table line_in all_values
says-in f =
    by_code (λ code. Says ((line code).makes (all_values (answer_fields code) 4 f)) f)
    tt tt tt (record { error = refl; serial = refl }, ((refl, refl), ((refl, refl), ((refl, refl), (refl, refl))))) tt
    (λ code a b c d e. rw (no_line code a b c d e) tt)

pub says : (f : List ℕ) (x : Answer) → read_answer f ≡ Read x → Says x f
says f x e = subst (λ (y : Answer). Says y f) (answer-passed f x e).is (says-in f (get_or f 3 0))

-- ---- a full frame that is the answer

-- it was read, and its code is the one asked
pub record Answers (q : Request) (x : Answer) (y : AnswerRead) : Type 0 where
  pub read : y ≡ Read x
  pub same_code : answer_code x ≡ q.code

-- what is found good is the answer that was read
good-is : (f : Finding) (x y : Answer) → plain_finding f y ≡ good x → y ≡ x
good-is Bad x y e = absurd (let z : ◌≡◌ {A = ℕ} 0 1 = cc in omega arith)
good-is Good x y e = cc
good-is Void x y e = absurd (let z : ◌≡◌ {A = ℕ} 0 1 = cc in omega arith)

pub answers_by : (q : Request) (x : Answer) (y : AnswerRead) → verdict q y ≡ good x → Answers q x y
unfolding finding
answers_by q x (Read answer) e =
    pick (λ (v : Finding). plain_finding v answer ≡ good x → Answers q x (Read answer)) (same (answer_code answer) q.code) _ _
    (λ h g. subst (λ (z : Answer). Answers q z (Read answer)) (good-is (found_by q.serial answer) x answer g) (record { read = refl; same_code = h }))
    (λ n g. absurd (let z : ◌≡◌ {A = ℕ} 0 1 = cc in omega arith))
    e
answers_by q x (NotRead f) e = absurd (let z : ◌≡◌ {A = ℕ} 0 1 = cc in omega arith)

-- ---- what it books of a cassette

record Books (a : Account) (q : Request) (f : List ℕ) (k : Cassette) (after : Sums) : Type 0 where
  paid : exit_of (pays q.code) f k ≤ 223
  spoilt : rejects_of (pays q.code) f k ≤ 223
  booked : (cassette a k).pending.0 ≡ count_of q.counts k
      → after ≡ sums_answered (cassette a k) (count_of q.counts k) (exit_of (pays q.code) f k) (rejects_of (pays q.code) f k)

none_of : (n : Counts) (k : Cassette) → (counts_fit false n).holds → count_of n k ≡ 0
none_of n top h = h.0
none_of n second h = h.1.0
none_of n third h = h.1.1.0
none_of n bottom h = h.1.1.1

module _ (a : Account) (q : Request) (sent : (sendable q.code q.counts q.serial).holds) (f : List ℕ) (k : Cassette) where
  -- paid by the answer; said nothing of
  paid-books : (e r : ℕ) → 0x52 ≡ q.code → e ≡ exit_of true f k → r ≡ rejects_of true f k → e ≤ 223 → r ≤ 223
      → Books a q f k (sums_answered (cassette a k) (count_of q.counts k) e r)
  paid-books e r c u v m n =
      let t : true ≡ pays q.code = sym (eq-eqb q.code 0x52 (sym c)) in
      let x : e ≡ exit_of (pays q.code) f k = u ∙ ap (λ (b : Bool). exit_of b f k) t in
      let y : r ≡ rejects_of (pays q.code) f k = v ∙ ap (λ (b : Bool). rejects_of b f k) t in
      record { paid = omega (arith, x); spoilt = omega (arith, y); booked = λ p. ap₂ (λ (i j : ℕ). sums_answered (cassette a k) (count_of q.counts k) i j) x y }

  other-books : (code : ℕ) → code ≡ q.code → eqb code 0x52 ≡ false → Books a q f k (cassette a k)
  unfolding sendable
  other-books code c n =
      let t : false ≡ pays q.code = sym n ∙ ap (λ (i : ℕ). eqb i 0x52) c in
      let x : 0 ≡ exit_of (pays q.code) f k = ap (λ (b : Bool). exit_of b f k) t in
      let y : 0 ≡ rejects_of (pays q.code) f k = ap (λ (b : Bool). rejects_of b f k) t in
      let w : count_of q.counts k ≡ 0 =
      none_of q.counts k (subst (λ (b : Bool). (counts_fit b q.counts).holds) (asks-notes q.code ∙ sym t) sent.1.0) in
      record {
        paid = omega (arith, x);
        spoilt = omega (arith, y);
        booked = λ p.
            left-answered (cassette a k) (p ∙ w) ∙ ap (λ (i : ℕ). sums_answered (cassette a k) i 0 0) (sym w)
            ∙ ap₂ (λ (i j : ℕ). sums_answered (cassette a k) (count_of q.counts k) i j) x y;
      }

module _ (a : Account) (q : Request) (sent : (sendable q.code q.counts q.serial).holds) (f : List ℕ) where
  by_answer : (x : Answer) (k : Cassette) → answer_code x ≡ q.code → Says x f → (answer_fits x).holds
      → Books a q f k (cassette (account_answered a q.counts x) k)
  unfolding answer_fits all_in_range table line_in account_paid
  by_answer (Reset e) k c y g = other-books a q sent f k 0x44 c refl
  by_answer (Status e d0 d1 p) k c y g = other-books a q sent f k 0x50 c refl
  by_answer (Purged e m p r) k c y g = other-books a q sent f k 0x51 c refl
  by_answer (Dispensed e s p r) top c y g = paid-books a q sent f top _ _ c y.1.0.0 y.1.0.1 g.1.1.0.1 g.1.1.1.0.1
  by_answer (Dispensed e s p r) second c y g =
      paid-books a q sent f second _ _ c y.1.1.0.0 y.1.1.0.1 g.1.1.1.1.1.0.1 g.1.1.1.1.1.1.0.1
  by_answer (Dispensed e s p r) third c y g =
      paid-books a q sent f third _ _ c y.1.1.1.0.0 y.1.1.1.0.1 g.1.1.1.1.1.1.1.1.0.1 g.1.1.1.1.1.1.1.1.1.0.1
  by_answer (Dispensed e s p r) bottom c y g =
      paid-books a q sent f bottom _ _ c y.1.1.1.1.0 y.1.1.1.1.1 g.1.1.1.1.1.1.1.1.1.1.1.0.1 g.1.1.1.1.1.1.1.1.1.1.1.1.0.1
  by_answer (Last l e s p r) k c y g = other-books a q sent f k 0x55 c refl

  books-good : (x : Answer) (k : Cassette) → verdict q (read_answer f) ≡ good x → Books a q f k (cassette (account_answered a q.counts x) k)
  books-good x k e =
      let g = answers_by q x (read_answer f) e in
      by_answer x k g.same_code (says f x g.read) (answer-fits f x g.read)

-- ---- its frames

handed-laid : (q : Request) (r : List ℕ) → (sendable q.code q.counts q.serial).holds → 16 ≤ length r
    → unit.hands q r ≡ record { put = length (layout q); room = over (layout q) r }
unfolding hand_over write_command command_refusals sendable
handed-laid q r h long =
    let f = command_frame q.code q.counts q.serial in
    let n = length-known known command_fields q.code (holds-true (known q.code) h.0) in
    let w = none-judged (λ why. not-put why r) (laid f r) (command_refusals q.code q.counts q.serial r)
    ((λ x. x h.0), ((λ x. omega (arith, n, command-most q.code)), ((λ x. x h.1), tt))) in
    ap (λ v. record { put = bytes_put v.answer; room = v.room }) w

answer-long : (q : Request) → (sendable q.code q.counts q.serial).holds → 1 < answer_length q.code
unfolding sendable
answer-long q h = omega (arith, length-known known answer_fields q.code (holds-true (known q.code) h.0))

counts-most : (t : Bool) (n : Counts) (k : Cassette) → (counts_fit t n).holds → count_of n k ≤ 223
counts-most true n top h = omega (arith, h.0)
counts-most true n second h = omega (arith, h.1.0)
counts-most true n third h = omega (arith, h.1.1.0)
counts-most true n bottom h = omega (arith, h.1.1.1.0)
counts-most false n k h = omega (arith, none_of n k h)

wanted-most : (q : Request) (k : Cassette) → (sendable q.code q.counts q.serial).holds → count_of q.counts k ≤ 223
unfolding sendable
wanted-most q k h = counts-most (line q.code).asks q.counts k h.1.0

opens_by : (a : Account) (q : Request) (k : Cassette) → cassette (account_opened a q.counts) k ≡ sums_opened (cassette a k) (count_of q.counts k)
unfolding account_opened
opens_by a q top = refl
opens_by a q second = refl
opens_by a q third = refl
opens_by a q bottom = refl

refuses-by : (a : Account) (q : Request) (k : Cassette) → cassette (account_refused a q.counts) k ≡ sums_refused (cassette a k) (count_of q.counts k)
unfolding account_refused
refuses-by a q top = refl
refuses-by a q second = refl
refuses-by a q third = refl
refuses-by a q bottom = refl

loses-by : (a : Account) (q : Request) (k : Cassette) → cassette (account_unknown a q.counts) k ≡ sums_unknown (cassette a k) (count_of q.counts k)
unfolding account_unknown
loses-by a q top = refl
loses-by a q second = refl
loses-by a q third = refl
loses-by a q bottom = refl

pub lawful : Lawful unit
lawful =
    record {
      laid = handed-laid;
      long = λ q h. omega (arith, command-length q.code q.counts q.serial h);
      least = answer-long;
      most = λ q h. answer-most q.code;
      small = lit≤ tt;
      modest = wanted-most;
      paid = λ q f x k h e. (books-good fresh_account q h f x k e).paid;
      spoilt = λ q f x k h e. (books-good fresh_account q h f x k e).spoilt;
      opens = opens_by;
      closes_refused = refuses-by;
      closes_unknown = loses-by;
      answers = λ a q f x k h e p. (books-good a q h f x k e).booked p;
    }
