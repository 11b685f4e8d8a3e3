-- Reading undoes writing and writing undoes reading, for commands and for answers of every code. Assumes nothing.
use Rattle.std.proofs.lemmas.Result.{IfOk-at_ok}
use Prim.Native.Nat.{ℕ, zero, suc, ◌+◌, ◌-◌, ◌≤◌}
use mathlib.Core.Path.{◌≡◌, refl, sym, ap, ap₂, ◌∙◌, subst}
use mathlib.Core.Bool.{Bool, true, false}
use mathlib.Core.List.{List, [], ◌∷◌, ◌++◌}
use mathlib.Core.Logic.{⊎_elim}
use native.Mathlib.Nat.{add-suc, suc-add, add-zero}
use native.Mathlib.Omega.{arith}
use lib.ListN.{length, take, drop, get_or}
use lib.Seq.{drop-cons, drop-length}
use Rattle.refusals.specs.Rules.{Rule, NoneOf}
use Rattle.refusals.specs.Put.{refused, laid}
use Rattle.refusals.proofs.Rules.{certain, first-judged, none-judged, first_or_none, holds-true}
use Rattle.refusals.proofs.Writing.{done-laid, take-over}
use Rattle.xor_frame.specs.Layout.{Field, sizes, all_in_range, all_bytes, all_values}
use Rattle.xor_frame.specs.Frame.{eot, soh, frame, closed, code_of, faults}
use Rattle.xor_frame.proofs.Lengths.{length-known}
use Rattle.xor_frame.proofs.Frames.{whole_length, whole-passes, whole-values, passed-known, passed_length, passed-ranges, passed-frame}
use Rattle.vcdm_frame_rules.specs.Table.{unit_id, line, known, asked_fields, command_fields, answer_fields, table, line_in, reset_fields, status_fields, purged_fields, dispensed_fields, last_fields}
use Rattle.vcdm_frame_rules.specs.Command.{sum_fits, counts_fit, serial_fits, command_fits, sendable, asked_values, command_frame, command_refusals, write_command, counts_at, serial_at, command_in, sum_faults, command_faults, read_command}
use Rattle.vcdm_frame_rules.specs.Answer.{answer_code, answer_values, answer_fits, answer_frame, answer_refusals, write_answer, answer_in, answer_faults, read_answer}
use Rattle.vcdm_frame_rules.specs.Promises.{CommandTrips, AnswerTrips}
use Rattle.vcdm_frame_rules.specs.declared.command.Counts.{Counts}
use Rattle.vcdm_frame_rules.specs.CommandRead.{Read, Refused}
use Rattle.vcdm_frame_rules.specs.declared.answer.Answer.{Answer}
use Rattle.vcdm_frame_rules.specs.declared.answer.Answer.TheVariants.{Reset, Status, Purged, Dispensed, Last}
use Rattle.vcdm_frame_rules.specs.AnswerRead.{Read as Found, Refused as NotRead}
use Rattle.vcdm_frame_rules.proofs.Codes.{by_code, not_known, answer-known, answer-sized, asked-sound, answers-sound}

-- ---- rules behind rules

none_both : {B : Type 0} (rs qs : List (Rule B)) → NoneOf rs → NoneOf qs → NoneOf (rs ++ qs)
none_both [] qs n m = m
none_both (r ∷ rs) qs n m = (n.0, none_both rs qs n.1 m)

none-front : {B : Type 0} (rs qs : List (Rule B)) → NoneOf (rs ++ qs) → NoneOf rs
none-front [] qs n = tt
none-front (r ∷ rs) qs n = (n.0, none-front rs qs n.1)

none-back : {B : Type 0} (rs qs : List (Rule B)) → NoneOf (rs ++ qs) → NoneOf qs
none-back [] qs n = n
none-back (r ∷ rs) qs n = none-back rs qs n.1

-- ---- commands, by whether notes are asked

-- counts and a serial that fit are values in their ranges, and the sum fits
asked-ranges : (t : Bool) (c : Counts) (n : ℕ) → (counts_fit t c).holds → (serial_fits t n).holds → (all_in_range (asked_fields t) (asked_values t c n)).holds
unfolding all_in_range
asked-ranges true c n h k =
    ((omega arith, h.0), ((omega arith, h.1.0), ((omega arith, h.1.1.0), ((omega arith, h.1.1.1.0), ((omega arith, omega arith), ((omega arith, omega arith), (k, tt)))))))
asked-ranges false c n h k = tt

asked-sum : (t : Bool) (c : Counts) → (counts_fit t c).holds → (sum_fits t c).holds
asked-sum true c h = h.1.1.1.1
asked-sum false c h = tt

-- the counts and the serial of a frame with those values are those
record Same (t : Bool) (c : Counts) (n : ℕ) (s : List ℕ) : Type 0 where
  counts : counts_at t s ≡ c
  serial : serial_at t s ≡ n

head_of : {a b : ℕ} {x y : List ℕ} → a ∷ x ≡ b ∷ y → a ≡ b
head_of e = cc

tail_of : {a b : ℕ} {x y : List ℕ} → a ∷ x ≡ b ∷ y → x ≡ y
tail_of e = cc

asked-back : (t : Bool) (c : Counts) (n : ℕ) (s : List ℕ) → (counts_fit t c).holds → (serial_fits t n).holds
    → all_values (asked_fields t) 4 s ≡ asked_values t c n → Same t c n s
unfolding all_values
asked-back true c n s h k e =
    let a = head_of e in
    let e1 = tail_of e in
    let b = head_of e1 in
    let e2 = tail_of e1 in
    let d = head_of e2 in
    let e3 = tail_of e2 in
    let f = head_of e3 in
    record { counts = λ i. record { top = a i; second = b i; third = d i; bottom = f i }; serial = head_of (tail_of (tail_of (tail_of e3))) }
asked-back false c n s h k e =
    record { counts = λ i. record { top = sym h.0 i; second = sym h.1.0 i; third = sym h.1.1.0 i; bottom = sym h.1.1.1 i }; serial = sym k }

-- and the reverse
record Again (t : Bool) (s : List ℕ) : Type 0 where
  counts : (counts_fit t (counts_at t s)).holds
  serial : (serial_fits t (serial_at t s)).holds
  values : asked_values t (counts_at t s) (serial_at t s) ≡ all_values (asked_fields t) 4 s

-- a fixed 20h
fixed-byte : (n : ℕ) → (0x20 ≤ n) × (n ≤ 0x20) → 0x20 ≡ n
fixed-byte n h = omega arith

asked-again : (t : Bool) (s : List ℕ) → (all_in_range (asked_fields t) (all_values (asked_fields t) 4 s)).holds → (sum_fits t (counts_at t s)).holds → Again t s
unfolding all_values all_in_range
asked-again true s h k =
    record {
      counts = (h.0.1, (h.1.0.1, (h.1.1.0.1, (h.1.1.1.0.1, k))));
      serial = h.1.1.1.1.1.1.0;
      values = rw (← fixed-byte (get_or s 8 0) h.1.1.1.1.0, ← fixed-byte (get_or s 9 0) h.1.1.1.1.1.0);
    }
asked-again false s h k = record { counts = (refl, (refl, (refl, refl))); serial = refl; values = refl }

command-read : (code : ℕ) (c : Counts) (n : ℕ) → (known code).holds → (command_fits code c n).holds → read_command (command_frame code c n) ≡ Read code c n
unfolding read_command command_faults command_frame command_in frame closed
command-read code c n k f =
    let t = (line code).asks in
    let ns = asked_values t c n in
    let r = asked-ranges t c n f.0 f.1 in
    let z = holds-true (known code) k in
    let s = frame eot unit_id code (all_bytes (command_fields code) ns) in
    let w = asked-back t c n s f.0 f.1 (whole-values eot unit_id code known command_fields ns (asked-sound t) z r) in
    let sum : (sum_fits t (counts_at t s)).holds = subst (λ (x : Counts). (sum_fits t x).holds) (sym w.counts) (asked-sum t c f.0) in
    none-judged Refused (command_in (code_of s) s) (command_faults s)
    (none_both (faults eot unit_id known command_fields s) (sum_faults (code_of s) s) (whole-passes eot unit_id code known command_fields ns (asked-sound t) z r) ((λ x. x sum), tt))
    ∙ ap₂ (λ (a : Counts) (b : ℕ). Read code a b) w.counts w.serial

-- what can be sent is read back, and its frame has the length of its code
pub command-back : (code : ℕ) (c : Counts) (n : ℕ) → (sendable code c n).holds → read_command (command_frame code c n) ≡ Read code c n
unfolding sendable
command-back code c n h = command-read code c n h.0 h.1

pub command-length : (code : ℕ) (c : Counts) (n : ℕ) → (sendable code c n).holds → length (command_frame code c n) ≡ 6 + sizes (command_fields code)
unfolding sendable command_frame
command-length code c n h =
    let t = (line code).asks in
    whole_length eot unit_id code known command_fields (asked_values t c n) (asked-sound t) (holds-true (known code) h.0) (asked-ranges t c n h.1.0 h.1.1)

-- a frame that reads well passed every test
record Passed (s : List ℕ) (code : ℕ) (c : Counts) (n : ℕ) : Type 1 where
  none : NoneOf (command_faults s)
  same_code : code_of s ≡ code
  counts : counts_at (line (code_of s)).asks s ≡ c
  serial : serial_at (line (code_of s)).asks s ≡ n

command-passed : (s : List ℕ) (code : ℕ) (c : Counts) (n : ℕ) → read_command s ≡ Read code c n → Passed s code c n
unfolding read_command command_in
command-passed s code c n e =
    ⊎_elim
    (λ f.
    let r : Refused f.0 ≡ Read code c n = sym (first-judged Refused (command_in (code_of s) s) (command_faults s) f.0 f.1) ∙ e in
    absurd (let z : ◌≡◌ {A = ℕ} 0 1 = cc in omega arith))
    (λ none.
    let r : command_in (code_of s) s ≡ Read code c n = sym (none-judged Refused (command_in (code_of s) s) (command_faults s) none) ∙ e in
    record {
      none = none;
      same_code = IfOk-at_ok (λ x. x.code ≡ code) (sym r) refl;
      counts = IfOk-at_ok (λ x. x.counts ≡ c) (sym r) refl;
      serial = IfOk-at_ok (λ x. x.serial ≡ n) (sym r) refl;
    })
    (first_or_none (command_faults s))

command-again : (s room : List ℕ) → NoneOf (command_faults s) → length s ≤ length room
    → write_command (code_of s) (counts_at (line (code_of s)).asks s) (serial_at (line (code_of s)).asks s) room ≡ laid s room
unfolding write_command command_refusals command_frame command_faults
command-again s room all fits =
    let code = code_of s in
    let none = none-front (faults eot unit_id known command_fields s) (sum_faults code s) all in
    let sum = certain (sum_fits (line code).asks (counts_at (line code).asks s)) (none-back (faults eot unit_id known command_fields s) (sum_faults code s) all).0 in
    let k = passed-known eot unit_id known command_fields s none in
    let w = asked-again (line code).asks s (passed-ranges eot unit_id known command_fields s none) sum in
    let n = passed_length eot unit_id known command_fields s none in
    let m = length-known known command_fields code (holds-true (known code) k) in
    none-judged (λ why. refused why room) _ (command_refusals code _ _ room) ((λ x. x k), ((λ x. omega arith), ((λ x. x (w.counts, w.serial)), tt)))
    ∙ ap (λ (f : List ℕ). laid f room) (ap (λ (ns : List ℕ). frame eot unit_id code (all_bytes (command_fields code) ns)) w.values ∙ passed-frame eot unit_id known command_fields s none)

pub command-trips : CommandTrips
unfolding write_command command_refusals
command-trips =
    record {
      back = λ code c serial n room after e.
          let d = done-laid (command_refusals code c serial room) (command_frame code c serial) room n after e in
          ap read_command (ap₂ take d.put d.left ∙ take-over (command_frame code c serial) room)
          ∙ command-read code c serial (certain (known code) d.none.0) (certain (command_fits code c serial) d.none.1.1.0);
      again = λ s room code c serial e fits.
          let p = command-passed s code c serial e in
          subst (λ (x : ℕ). write_command x c serial room ≡ laid s room) p.same_code
          (subst (λ (a : Counts). write_command (code_of s) a serial room ≡ laid s room) p.counts
          (subst (λ (b : ℕ). write_command (code_of s) (counts_at (line (code_of s)).asks s) b room ≡ laid s room) p.serial
          (command-again s room p.none fits)));
    }

-- ---- answers, kind by kind

-- an answer is made of its own values
made-back : (a : Answer) → (line (answer_code a)).makes (answer_values a) ≡ a
unfolding table line_in
made-back (Reset e) = refl
made-back (Status e d0 d1 p) = refl
made-back (Purged e m c r) = refl
made-back (Dispensed e s c r) = refl
made-back (Last l e s c r) = refl

-- as many values as fields, each at its place
length-values : (fs : List Field) (ns : List ℕ) → (all_in_range fs ns).holds → length ns ≡ length fs
unfolding all_in_range
length-values [] [] h = refl
length-values [] (n ∷ ns) h = absurd h
length-values (f ∷ fs) [] h = absurd h
length-values (f ∷ fs) (n ∷ ns) h = ap suc (length-values fs ns h.1)

upto : ℕ → ℕ → List ℕ → List ℕ
upto i zero ns = []
upto i (suc k) ns = get_or ns i 0 ∷ upto (suc i) k ns

spread : (k i : ℕ) (ns : List ℕ) → length ns ≡ i + k → drop i ns ≡ upto i k ns
unfolding upto
spread zero i ns e = rw (sym (add-zero i) ∙ sym e) (drop-length ns)
spread (suc k) i ns e =
    drop-cons ns i 0 (omega arith) ∙ ap (λ (t : List ℕ). get_or ns i 0 ∷ t) (spread k (suc i) ns (e ∙ add-suc i k ∙ sym (suc-add i k)))

-- an answer made of values in their ranges has its code and those values
record Made (code : ℕ) (ns : List ℕ) : Type 0 where
  same_code : answer_code ((line code).makes ns) ≡ code
  values : answer_values ((line code).makes ns) ≡ ns

made_again : (code : ℕ) → (known code).holds → (ns : List ℕ) → (all_in_range (answer_fields code) ns).holds → Made code ns
unfolding table line_in upto
made_again =
    by_code (λ code. (known code).holds → (ns : List ℕ) → (all_in_range (answer_fields code) ns).holds → Made code ns)
    (λ k ns h. record { same_code = refl; values = sym (spread 1 0 ns (length-values reset_fields ns h)) })
    (λ k ns h. record { same_code = refl; values = sym (spread 19 0 ns (length-values status_fields ns h)) })
    (λ k ns h. record { same_code = refl; values = sym (spread 23 0 ns (length-values purged_fields ns h)) })
    (λ k ns h. record { same_code = refl; values = sym (spread 23 0 ns (length-values dispensed_fields ns h)) })
    (λ k ns h. record { same_code = refl; values = sym (spread 24 0 ns (length-values last_fields ns h)) })
    (λ code a b c d e k. absurd ((known code).tells.denied (not_known code a b c d e) k))

pub answer_back : (a : Answer) → (answer_fits a).holds → read_answer (answer_frame a) ≡ Found a
unfolding read_answer answer_frame answer_fits frame closed
answer_back a h =
    let code = answer_code a in
    let ns = answer_values a in
    let s = frame soh unit_id code (all_bytes (answer_fields code) ns) in
    let k = answer-known a in
    none-judged NotRead (Found (answer_in s)) (answer_faults s) (whole-passes soh unit_id code known answer_fields ns (answers-sound code) k h)
    ∙ ap (λ (v : List ℕ). Found ((line code).makes v)) (whole-values soh unit_id code known answer_fields ns (answers-sound code) k h)
    ∙ ap Found (made-back a)

pub record Answered (s : List ℕ) (a : Answer) : Type 1 where
  pub none : NoneOf (answer_faults s)
  pub is : answer_in s ≡ a

pub answer-passed : (s : List ℕ) (a : Answer) → read_answer s ≡ Found a → Answered s a
unfolding read_answer
answer-passed s a e =
    ⊎_elim
    (λ f.
    let r : NotRead f.0 ≡ Found a = sym (first-judged NotRead (Found (answer_in s)) (answer_faults s) f.0 f.1) ∙ e in
    absurd (let z : ◌≡◌ {A = ℕ} 0 1 = cc in omega arith))
    (λ none.
    let r : Found (answer_in s) ≡ Found a = sym (none-judged NotRead (Found (answer_in s)) (answer_faults s) none) ∙ e in
    record { none = none; is = cc })
    (first_or_none (answer_faults s))

-- the fields of an answer that was read are in their ranges, and it has the frame's code
record Ranged (s : List ℕ) : Type 0 where
  same_code : answer_code (answer_in s) ≡ code_of s
  values : answer_values (answer_in s) ≡ all_values (answer_fields (code_of s)) 4 s
  ranges : (all_in_range (answer_fields (answer_code (answer_in s))) (answer_values (answer_in s))).holds

ranged : (s : List ℕ) → NoneOf (answer_faults s) → Ranged s
ranged s none =
    let code = code_of s in
    let a = answer_in s in
    let r = passed-ranges soh unit_id known answer_fields s none in
    let w = made_again code (passed-known soh unit_id known answer_fields s none) (all_values (answer_fields code) 4 s) r in
    record {
      same_code = w.same_code;
      values = w.values;
      ranges = subst (λ (c : ℕ). (all_in_range (answer_fields c) (answer_values a)).holds) (sym w.same_code)
          (subst (λ (v : List ℕ). (all_in_range (answer_fields code) v).holds) (sym w.values) r);
    }

answer-again : (s room : List ℕ) → NoneOf (answer_faults s) → length s ≤ length room → write_answer (answer_in s) room ≡ laid s room
unfolding write_answer answer_refusals answer_fits answer_frame
answer-again s room none fits =
    let code = code_of s in
    let a = answer_in s in
    let w = ranged s none in
    let n = passed_length soh unit_id known answer_fields s none in
    let m = answer-sized a in
    let z : sizes (answer_fields (answer_code a)) ≡ sizes (answer_fields code) = ap (λ (c : ℕ). sizes (answer_fields c)) w.same_code in
    none-judged (λ why. refused why room) _ (answer_refusals a room) ((λ x. omega arith), ((λ x. x w.ranges), tt))
    ∙ ap (λ (f : List ℕ). laid f room)
    (ap₂ (λ (c : ℕ) (v : List ℕ). frame soh unit_id c (all_bytes (answer_fields c) v)) w.same_code w.values ∙ passed-frame soh unit_id known answer_fields s none)

pub answer-trips : AnswerTrips
unfolding write_answer answer_refusals
answer-trips =
    record {
      back = λ a n room after e.
          let d = done-laid (answer_refusals a room) (answer_frame a) room n after e in
          ap read_answer (ap₂ take d.put d.left ∙ take-over (answer_frame a) room) ∙ answer_back a (certain (answer_fits a) d.none.1.0);
      again = λ s room a e fits.
          let p = answer-passed s a e in
          subst (λ (x : Answer). write_answer x room ≡ laid s room) p.is (answer-again s room p.none fits);
    }

-- what a frame that was read says: its code, and its fields in their ranges
pub read-code : (s : List ℕ) (a : Answer) → read_answer s ≡ Found a → answer_code a ≡ code_of s
read-code s a e = let p = answer-passed s a e in subst (λ (x : Answer). answer_code x ≡ code_of s) p.is (ranged s p.none).same_code

pub answer-fits : (s : List ℕ) (a : Answer) → read_answer s ≡ Found a → (answer_fits a).holds
unfolding answer_fits
answer-fits s a e =
    let p = answer-passed s a e in
    subst (λ (x : Answer). (all_in_range (answer_fields (answer_code x)) (answer_values x)).holds) p.is (ranged s p.none).ranges
