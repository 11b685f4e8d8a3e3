-- Reading undoes writing and writing undoes reading, for commands and for answers of every code. Assumes nothing.
use Rattle.std.proofs.lemmas.Result.{IfOk-at_ok}
use Prim.Native.Nat.{ℕ, zero, suc, ◌+◌, ◌≤◌}
use mathlib.Core.Path.{◌≡◌, refl, sym, ap, ap₂, ◌∙◌, subst}
use mathlib.Core.Bool.{Bool, true, false}
use mathlib.Core.List.{List, [], ◌∷◌, ◌++◌}
use mathlib.Core.Logic.{⊎_elim}
use native.Mathlib.Nat.{add-suc, suc-add, add-zero}
use native.Mathlib.Omega.{arith}
use lib.Dec.{eqb, lit<}
use lib.ListN.{length, take, drop, get_or}
use lib.Seq.{drop-cons, drop-length}
use Rattle.refusals.specs.Rules.{NoneOf}
use Rattle.refusals.specs.Put.{refused, laid}
use Rattle.refusals.proofs.Rules.{certain, first-judged, none-judged, first_or_none, holds-true}
use Rattle.refusals.proofs.Writing.{done-laid, take-over}
use Rattle.xor_frame.specs.Layout.{Field, sizes, all_in_range, all_bytes, all_values}
use Rattle.dispenser_frame_rules.specs.Table.{model_id, row, none, line, known, asks, asked_fields, asked_values, command_fields, answer_fields, table, code_in, line_in, purged, tested, status, purged_fields, paid_one_fields, paid_both_fields, tested_fields, status_fields}
use Rattle.xor_frame.specs.Frame.{eot, soh, frame, closed, code_of}
use Rattle.dispenser_frame_rules.specs.Command.{counts_fit, sendable, command_frame, command_refusals, write_command, asked_at, command_in, command_faults, read_command}
use Rattle.dispenser_frame_rules.specs.Answer.{answer_code, answer_values, answer_error, answer_fits, answer_frame, answer_refusals, write_answer, read_as, answer_in, answer_faults, read_answer}
use Rattle.error_codes.specs.Errors.{error_class}
use Rattle.error_codes.specs.declared.ErrorClass.{ErrorClass}
use Rattle.dispenser_frame_rules.specs.Promises.{CommandTrips, AnswerTrips}
use Rattle.dispenser_frame_rules.specs.CommandRead.{Read, Refused}
use Rattle.dispenser_frame_rules.specs.declared.answer.Cassette.{Cassette}
use Rattle.dispenser_frame_rules.specs.declared.answer.Cassette.TheVariants.{Upper, Lower}
use Rattle.dispenser_frame_rules.specs.declared.answer.Answer.{Answer}
use Rattle.dispenser_frame_rules.specs.declared.answer.Answer.TheVariants.{Purged, PaidOne, PaidBoth, Tested, Status}
use Rattle.dispenser_frame_rules.specs.AnswerRead.{Read as Found, Refused as NotRead}
use Rattle.dispenser_frame_rules.proofs.Exact.{sent-fits}
use Rattle.dispenser_frame_rules.proofs.Codes.{by_code, answer-known, answer-sized}
use Rattle.xor_frame.proofs.Lengths.{length-known}
use Rattle.xor_frame.proofs.Frames.{whole_length, whole-passes, whole-values, passed-known, passed_length, passed-ranges, passed-frame}
use Rattle.xor_frame.proofs.Raw.{Sound}

-- ---- commands, by what is asked of each cassette

asked-sound : (up lo : Bool) → Sound (asked_fields up ++ asked_fields lo)
asked-sound true true = (lit< tt, (lit< tt, tt))
asked-sound true false = (lit< tt, tt)
asked-sound false true = (lit< tt, tt)
asked-sound false false = tt

-- counts that fit are values in their ranges
asked-ranges : (up lo : Bool) (u l : ℕ) → (asks up u).holds → (asks lo l).holds
    → (all_in_range (asked_fields up ++ asked_fields lo) (asked_values up u ++ asked_values lo l)).holds
unfolding all_in_range
asked-ranges true true u l g h = (g, (h, tt))
asked-ranges true false u l g h = (g, tt)
asked-ranges false true u l g h = (h, tt)
asked-ranges false false u l g h = tt

-- the counts of a frame with those values are those counts
asked-back : (up lo : Bool) (u l : ℕ) (s : List ℕ) → (asks up u).holds → (asks lo l).holds
    → all_values (asked_fields up ++ asked_fields lo) 4 s ≡ asked_values up u ++ asked_values lo l
    → (asked_at up 4 s ≡ u) × (asked_at lo (4 + sizes (asked_fields up)) s ≡ l)
unfolding all_values sizes
asked-back true true u l s g h e = ((cc), (cc))
asked-back true false u l s g h e = ((cc), sym h)
asked-back false true u l s g h e = (sym g, (cc))
asked-back false false u l s g h e = (sym g, sym h)

-- and the reverse
record Counts (up lo : Bool) (s : List ℕ) : Type 0 where
  upper : (asks up (asked_at up 4 s)).holds
  lower : (asks lo (asked_at lo (4 + sizes (asked_fields up)) s)).holds
  values : asked_values up (asked_at up 4 s) ++ asked_values lo (asked_at lo (4 + sizes (asked_fields up)) s) ≡ all_values (asked_fields up ++ asked_fields lo) 4 s

asked-again : (up lo : Bool) (s : List ℕ) → (all_in_range (asked_fields up ++ asked_fields lo) (all_values (asked_fields up ++ asked_fields lo) 4 s)).holds
    → Counts up lo s
unfolding all_values sizes all_in_range
asked-again true true s h = record { upper = h.0; lower = h.1.0; values = refl }
asked-again true false s h = record { upper = h.0; lower = refl; values = refl }
asked-again false true s h = record { upper = refl; lower = h.0; values = refl }
asked-again false false s h = record { upper = refl; lower = refl; values = refl }

command-read : (code u l : ℕ) → (known code).holds → (counts_fit code u l).holds → read_command (command_frame code u l) ≡ Read code u l
unfolding read_command command_frame counts_fit command_in frame closed
command-read code u l k f =
    let up = (line code).upper in
    let lo = (line code).lower in
    let ns = asked_values up u ++ asked_values lo l in
    let r = asked-ranges up lo u l f.0 f.1 in
    let t = holds-true (known code) k in
    let s = frame eot model_id code (all_bytes (command_fields code) ns) in
    let w = asked-back up lo u l s f.0 f.1 (whole-values eot model_id code known command_fields ns (asked-sound up lo) t r) in
    none-judged Refused (command_in (code_of s) s) (command_faults s) (whole-passes eot model_id code known command_fields ns (asked-sound up lo) t r)
    ∙ ap₂ (λ (a b : ℕ). Read code a b) w.0 w.1

-- what can be sent is read back, and its frame has the length of its code
pub command-back : (code u l : ℕ) → (sendable code u l).holds → read_command (command_frame code u l) ≡ Read code u l
command-back code u l h = let p = sent-fits code u l h in command-read code u l p.0 p.1

pub command-length : (code u l : ℕ) → (sendable code u l).holds → length (command_frame code u l) ≡ 6 + sizes (command_fields code)
unfolding command_frame counts_fit
command-length code u l h =
    let p = sent-fits code u l h in
    let up = (line code).upper in
    let lo = (line code).lower in
    whole_length eot model_id code known command_fields (asked_values up u ++ asked_values lo l) (asked-sound up lo) (holds-true (known code) p.0)
    (asked-ranges up lo u l p.1.0 p.1.1)

-- a frame that reads well passed every test
record Passed (s : List ℕ) (code u l : ℕ) : Type 1 where
  none : NoneOf (command_faults s)
  same_code : code_of s ≡ code
  upper : asked_at (line (code_of s)).upper 4 s ≡ u
  lower : asked_at (line (code_of s)).lower (4 + sizes (asked_fields (line (code_of s)).upper)) s ≡ l

command-passed : (s : List ℕ) (code u l : ℕ) → read_command s ≡ Read code u l → Passed s code u l
unfolding read_command command_in
command-passed s code u l e =
    ⊎_elim
    (λ f.
    let r : Refused f.0 ≡ Read code u l = sym (first-judged Refused (command_in (code_of s) s) (command_faults s) f.0 f.1) ∙ e in
    absurd (let z : ◌≡◌ {A = ℕ} 0 1 = cc in omega arith))
    (λ none.
    let r : command_in (code_of s) s ≡ Read code u l = sym (none-judged Refused (command_in (code_of s) s) (command_faults s) none) ∙ e in
    record {
      none = none;
      same_code = IfOk-at_ok (λ x. x.code ≡ code) (sym r) refl;
      upper = IfOk-at_ok (λ x. x.upper ≡ u) (sym r) refl;
      lower = IfOk-at_ok (λ x. x.lower ≡ l) (sym r) refl;
    })
    (first_or_none (command_faults s))

command-again : (s room : List ℕ) → NoneOf (command_faults s) → length s ≤ length room
    → write_command (code_of s) (asked_at (line (code_of s)).upper 4 s) (asked_at (line (code_of s)).lower (4 + sizes (asked_fields (line (code_of s)).upper)) s) room
    ≡ laid s room
unfolding write_command command_refusals counts_fit command_frame
command-again s room none fits =
    let code = code_of s in
    let k = passed-known eot model_id known command_fields s none in
    let w = asked-again (line code).upper (line code).lower s (passed-ranges eot model_id known command_fields s none) in
    let n = passed_length eot model_id known command_fields s none in
    let m = length-known known command_fields code (holds-true (known code) k) in
    none-judged (λ why. refused why room) _ (command_refusals code _ _ room) ((λ x. x k), ((λ x. omega arith), ((λ x. x (w.upper, w.lower)), tt)))
    ∙ ap (λ (f : List ℕ). laid f room) (ap (λ (ns : List ℕ). frame eot model_id code (all_bytes (command_fields code) ns)) w.values ∙ passed-frame eot model_id known command_fields s none)

pub command-trips : CommandTrips
unfolding write_command command_refusals
command-trips =
    record {
      back = λ code u l n room after e.
          let d = done-laid (command_refusals code u l room) (command_frame code u l) room n after e in
          ap read_command (ap₂ take d.put d.left ∙ take-over (command_frame code u l) room) ∙ command-read code u l (certain (known code) d.none.0) (certain (counts_fit code u l) d.none.1.1.0);
      again = λ s room code u l e fits.
          let p = command-passed s code u l e in
          subst (λ (c : ℕ). write_command c u l room ≡ laid s room) p.same_code
          (subst (λ (a : ℕ). write_command (code_of s) a l room ≡ laid s room) p.upper
          (subst (λ (b : ℕ). write_command (code_of s) (asked_at (line (code_of s)).upper 4 s) b room ≡ laid s room) p.lower
          (command-again s room p.none fits)));
    }

-- ---- answers, kind by kind

no_fields : (code : ℕ) → eqb code 0x44 ≡ false → eqb code 0x45 ≡ false → eqb code 0x46 ≡ false → eqb code 0x55 ≡ false
    → eqb code 0x56 ≡ false → eqb code 0x76 ≡ false → eqb code 0x77 ≡ false → answer_fields code ≡ []
unfolding table line_in
no_fields code a b c d e f g =
    let e : line code ≡ row 0 none none [] purged = simp (a, b, c, d, e, f, g) in
    ap (λ r. r.answer) e

answers-sound : (code : ℕ) → Sound (answer_fields code)
unfolding table line_in
answers-sound =
    by_code (λ code. Sound (answer_fields code))
    tt
    (lit< tt, (lit< tt, (lit< tt, tt)))
    tt
    (lit< tt, (lit< tt, (lit< tt, tt)))
    (lit< tt, (lit< tt, (lit< tt, (lit< tt, (lit< tt, (lit< tt, tt))))))
    (lit< tt, (lit< tt, tt))
    (lit< tt, (lit< tt, tt))
    (λ code a b c d e f g. subst Sound (sym (no_fields code a b c d e f g)) tt)

-- an answer is made of its own values
made-back : (a : Answer) → (line (answer_code a)).makes (answer_values a) ≡ a
unfolding table line_in
made-back (Purged e) = refl
made-back (PaidOne Upper c x e s r) = refl
made-back (PaidOne Lower c x e s r) = refl
made-back (PaidBoth uc ux lc lx e us ls ur lr) = refl
made-back (Tested Upper c e s r) = refl
made-back (Tested Lower c e s r) = refl
made-back (Status e s0 s1) = refl

-- as many values as fields, each at its place
length-values : (fs : List Field) (ns : List ℕ) → (all_in_range fs ns).holds → length ns ≡ length fs
unfolding all_in_range
length-values [] [] h = refl
length-values [] (n ∷ ns) h = absurd h
length-values (f ∷ fs) [] h = absurd h
length-values (f ∷ fs) (n ∷ ns) h = ap suc (length-values fs ns h.1)

upto : ℕ → ℕ → List ℕ → List ℕ
upto i zero ns = []
upto i (suc k) ns = get_or ns i 0 ∷ upto (suc i) k ns

spread : (k i : ℕ) (ns : List ℕ) → length ns ≡ i + k → drop i ns ≡ upto i k ns
unfolding upto
spread zero i ns e = rw (sym (add-zero i) ∙ sym e) (drop-length ns)
spread (suc k) i ns e =
    drop-cons ns i 0 (omega arith) ∙ ap (λ (t : List ℕ). get_or ns i 0 ∷ t) (spread k (suc i) ns (e ∙ add-suc i k ∙ sym (suc-add i k)))

-- an answer made of values in their ranges has its code and those values
record Made (code : ℕ) (ns : List ℕ) : Type 0 where
  same_code : answer_code ((line code).makes ns) ≡ code
  values : answer_values ((line code).makes ns) ≡ ns

-- a fixed 30h
fixed : (n : ℕ) → (0x30 ≤ n) × (n ≤ 0x30) → 0x30 ≡ n
fixed n h = omega arith

module _ (ns : List ℕ) where
  tested-values : (k : Cassette) → (all_in_range tested_fields ns).holds → answer_values (tested k ns) ≡ ns
  unfolding upto all_in_range
  tested-values k h =
      let e : ns ≡ upto 0 6 ns = spread 6 0 ns (length-values tested_fields ns h) in
      let g = subst (λ (l : List ℕ). (all_in_range tested_fields l).holds) e h in
      sym (e ∙ rw (← fixed (get_or ns 1 0) g.1.0, ← fixed (get_or ns 2 0) g.1.1.0))

  status-values : (all_in_range status_fields ns).holds → answer_values (status ns) ≡ ns
  unfolding upto all_in_range
  status-values h =
      let e : ns ≡ upto 0 4 ns = spread 4 0 ns (length-values status_fields ns h) in
      let g = subst (λ (l : List ℕ). (all_in_range status_fields l).holds) e h in
      sym (e ∙ rw (← fixed (get_or ns 0 0) g.0))

made_again : (code : ℕ) → (known code).holds → (ns : List ℕ) → (all_in_range (answer_fields code) ns).holds → Made code ns
unfolding table code_in line_in upto
made_again =
    by_code (λ code. (known code).holds → (ns : List ℕ) → (all_in_range (answer_fields code) ns).holds → Made code ns)
    (λ k ns h. record { same_code = refl; values = sym (spread 1 0 ns (length-values purged_fields ns h)) })
    (λ k ns h. record { same_code = refl; values = sym (spread 5 0 ns (length-values paid_one_fields ns h)) })
    (λ k ns h. record { same_code = refl; values = status-values ns h })
    (λ k ns h. record { same_code = refl; values = sym (spread 5 0 ns (length-values paid_one_fields ns h)) })
    (λ k ns h. record { same_code = refl; values = sym (spread 9 0 ns (length-values paid_both_fields ns h)) })
    (λ k ns h. record { same_code = refl; values = tested-values ns Upper h })
    (λ k ns h. record { same_code = refl; values = tested-values ns Lower h })
    (λ code a b c d e f g k. let n : (known code).test ≡ false = simp (a, b, c, d, e, f, g) in absurd ((known code).tells.denied n k))

pub answer_back : (a : Answer) → (answer_fits a).holds → read_answer (answer_frame a) ≡ read_as a
unfolding read_answer answer_frame answer_fits frame closed
answer_back a h =
    let code = answer_code a in
    let ns = answer_values a in
    let s = frame soh model_id code (all_bytes (answer_fields code) ns) in
    let k = answer-known a in
    none-judged NotRead (read_as (answer_in s)) (answer_faults s) (whole-passes soh model_id code known answer_fields ns (answers-sound code) k h)
    ∙ ap (λ (v : List ℕ). read_as ((line code).makes v)) (whole-values soh model_id code known answer_fields ns (answers-sound code) k h)
    ∙ ap read_as (made-back a)

-- an answer's frame has the length of its code
pub answer-length : (a : Answer) → (answer_fits a).holds → length (answer_frame a) ≡ 6 + sizes (answer_fields (answer_code a))
unfolding answer_frame answer_fits
answer-length a h = whole_length soh model_id (answer_code a) known answer_fields (answer_values a) (answers-sound (answer_code a)) (answer-known a) h

pub record Answered (s : List ℕ) (a : Answer) (b : ErrorClass) : Type 1 where
  pub none : NoneOf (answer_faults s)
  pub is : answer_in s ≡ a
  pub told : b ≡ error_class (answer_error (answer_in s))

pub answer-passed : (s : List ℕ) (a : Answer) (b : ErrorClass) → read_answer s ≡ Found a b → Answered s a b
unfolding read_answer
answer-passed s a b e =
    ⊎_elim
    (λ f.
    let r : NotRead f.0 ≡ Found a b = sym (first-judged NotRead (read_as (answer_in s)) (answer_faults s) f.0 f.1) ∙ e in
    absurd (let z : ◌≡◌ {A = ℕ} 0 1 = cc in omega arith))
    (λ none.
    let r : read_as (answer_in s) ≡ Found a b = sym (none-judged NotRead (read_as (answer_in s)) (answer_faults s) none) ∙ e in
    record {
      none = none;
      is = IfOk-at_ok (λ x. x.answer ≡ a) (sym r) refl;
      told = IfOk-at_ok (λ x. b ≡ x.class) (sym r) refl;
    })
    (first_or_none (answer_faults s))

answer-again : (s room : List ℕ) → NoneOf (answer_faults s) → length s ≤ length room → write_answer (answer_in s) room ≡ laid s room
unfolding write_answer answer_refusals answer_fits answer_frame
answer-again s room none fits =
    let code = code_of s in
    let a = answer_in s in
    let r = passed-ranges soh model_id known answer_fields s none in
    let w = made_again code (passed-known soh model_id known answer_fields s none) (all_values (answer_fields code) 4 s) r in
    let n = passed_length soh model_id known answer_fields s none in
    let m = answer-sized a in
    let z : sizes (answer_fields (answer_code a)) ≡ sizes (answer_fields code) = ap (λ (c : ℕ). sizes (answer_fields c)) w.same_code in
    let ranges : (all_in_range (answer_fields (answer_code a)) (answer_values a)).holds =
    subst (λ (c : ℕ). (all_in_range (answer_fields c) (answer_values a)).holds) (sym w.same_code)
    (subst (λ (v : List ℕ). (all_in_range (answer_fields code) v).holds) (sym w.values) r) in
    none-judged (λ why. refused why room) _ (answer_refusals a room) ((λ x. omega arith), ((λ x. x ranges), tt))
    ∙ ap (λ (f : List ℕ). laid f room)
    (ap₂ (λ (c : ℕ) (v : List ℕ). frame soh model_id c (all_bytes (answer_fields c) v)) w.same_code w.values ∙ passed-frame soh model_id known answer_fields s none)

pub answer-trips : AnswerTrips
unfolding write_answer answer_refusals
answer-trips =
    record {
      back = λ a n room after e.
          let d = done-laid (answer_refusals a room) (answer_frame a) room n after e in
          ap read_answer (ap₂ take d.put d.left ∙ take-over (answer_frame a) room) ∙ answer_back a (certain (answer_fits a) d.none.1.0);
      again = λ s room a b e fits.
          let p = answer-passed s a b e in
          subst (λ (x : Answer). write_answer x room ≡ laid s room) p.is (answer-again s room p.none fits);
    }
