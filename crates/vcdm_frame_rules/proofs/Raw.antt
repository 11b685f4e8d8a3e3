-- Answers and commands are read by the reader's values alone: what they make where all are in their ranges, and else a refusal. What is laid is the frame of values
-- in their ranges. Assumes nothing.
use Prim.Native.Nat.{ℕ, ◌+◌, ◌%◌, ◌≤◌}
use mathlib.Core.Path.{◌≡◌, refl, sym, ap, ◌∙◌}
use mathlib.Core.Bool.{Bool, true, false, cond, not, ◌&&◌, and-false, and-true, and_assoc}
use mathlib.Core.List.{List, [], ◌∷◌, ◌++◌}
use native.Mathlib.Nat.{mod-eq_of_lt}
use native.Mathlib.Omega.{arith}
use lib.Dec.{eqb, leb}
use lib.ListN.{length, get_or}
use borrow.Author.Tests.{ne_eqb, le-leb}
use Rattle.refusals.specs.Rules.{Rule, within, same, judged}
use Rattle.refusals.specs.Put.{laid}
use Rattle.refusals.proofs.Rules.{by_cases, fails-false}
use Rattle.xor_frame.specs.Layout.{Field, free, all_in_range, all_bytes, all_fit, all_values, in_range}
use Rattle.xor_frame.specs.Frame.{eot, soh, stx, closed, frame, code_of, faults}
use Rattle.xor_frame.specs.Parts.{field_faults, outer_faults}
use Rattle.xor_frame.specs.Verdict.{Good, Bad}
use Rattle.xor_frame.proofs.Reading.{after, reading}
use Rattle.xor_frame.proofs.Raw.{raw_values, raw-fits, raw-values, read-raw}
use Rattle.vcdm_frame_rules.specs.Table.{unit_id, purge_code, dispense_code, last_code, passed, measured, kind, serial, last_serial, cassette_fields, spare_fields, table, line_in, known, line, asked_fields, command_fields, answer_fields, command_length, answer_length}
use Rattle.vcdm_frame_rules.specs.Command.{sum_fits, counts_fit, serial_fits, command_fits, no_counts, command_frame, counts_at, command_in, sum_faults, command_faults, read_command}
use Rattle.vcdm_frame_rules.specs.Answer.{answer_code, cassette_values, spare_values, answer_values, answer_fits, answer_frame, answer_in, read_answer}
use Rattle.vcdm_frame_rules.specs.Parts.{asked_read, fields_read, lowered_counts, paid_from, cassettes_from, spare_from, place_from, places_from, paid_fits, cassettes_fit, names_fit, place_fits, places_fit, fits_by, answer_from, cassette_bytes, raised_command, status_frame, counted_frame, last_frame, raised_answer}
use Rattle.vcdm_frame_rules.specs.declared.command.Counts.{Counts}
use Rattle.vcdm_frame_rules.specs.CommandRead.{Read as Command, Refused as NoCommand}
use Rattle.vcdm_frame_rules.specs.declared.answer.Paid.{Paid}
use Rattle.vcdm_frame_rules.specs.declared.answer.Cassettes.{Cassettes}
use Rattle.vcdm_frame_rules.specs.declared.answer.Spare.{Spare}
use Rattle.vcdm_frame_rules.specs.declared.answer.Answer.{Answer}
use Rattle.vcdm_frame_rules.specs.declared.answer.Answer.TheVariants.{Reset, Status, Purged, Dispensed, Last}
use Rattle.vcdm_frame_rules.specs.AnswerRead.{Read, Refused}
use Rattle.xor_frame.specs.declared.frame.Fault.TheVariants.{Field as Outside}
use Rattle.vcdm_frame_rules.proofs.Codes.{by_code, not_known, asked-sound, answers-sound}

-- ---- an answer's fields

-- the ranges of what an answer says of the cassettes, cassette by cassette
by-cassette : (a b c d e f g h : Bool)
    → (a && (b && (c && (d && (e && (f && (g && (h && true)))))))) ≡ ((a && b) && ((c && d) && ((e && f) && (g && h))))
by-cassette a b c d e f g h = simp (and_assoc, and-true)

-- with their names
by_name : (a b i c d j e f k g h l : Bool)
    → (a && (b && (i && (c && (d && (j && (e && (f && (k && (g && (h && (l && true))))))))))))
    ≡ (((a && b) && ((c && d) && ((e && f) && (g && h)))) && (i && (j && (k && l))))
by_name false b i c d j e f k g h l = refl
by_name true false i c d j e f k g h l = refl
by_name true true false c d j e f k g h l = simp and-false
by_name true true true false d j e f k g h l = refl
by_name true true true true false j e f k g h l = refl
by_name true true true true true false e f k g h l = simp and-false
by_name true true true true true true false f k g h l = refl
by_name true true true true true true true false k g h l = refl
by_name true true true true true true true true false g h l = simp and-false
by_name true true true true true true true true true false h l = refl
by_name true true true true true true true true true true false l = refl
by_name true true true true true true true true true true true l = simp and-true

by_place : (a b c d e f g h i j k l : Bool)
    → (a && (b && (c && (d && (e && (f && (g && (h && (i && (j && (k && (l && true))))))))))))
    ≡ ((a && (b && c)) && ((d && (e && f)) && ((g && (h && i)) && (j && (k && l)))))
by_place a b c d e f g h i j k l = simp (and_assoc, and-true)

abbrev is : Field → ℕ → Bool
is f n = (in_range f n).test

pub fits-by : (a : Answer) → (answer_fits a).test ≡ fits_by a
unfolding answer_fits all_in_range table line_in paid_fits cassettes_fit names_fit place_fits places_fit
fits-by (Reset e) = refl
fits-by (Status e d0 d1 p) = by_place (is kind p.top.kind) (is measured p.top.opacity) (is measured p.top.length) (is kind p.second.kind) (is measured p.second.opacity) (is measured p.second.length) (is kind p.third.kind) (is measured p.third.opacity) (is measured p.third.length) (is kind p.bottom.kind) (is measured p.bottom.opacity) (is measured p.bottom.length)
fits-by (Purged e m c r) = by_name (is passed c.top.exit) (is passed c.top.rejects) (is kind c.top.kind) (is passed c.second.exit) (is passed c.second.rejects) (is kind c.second.kind) (is passed c.third.exit) (is passed c.third.rejects) (is kind c.third.kind) (is passed c.bottom.exit) (is passed c.bottom.rejects) (is kind c.bottom.kind)
fits-by (Dispensed e s c r) = ap (λ (t : Bool). is serial s && t) (by-cassette (is passed c.top.exit) (is passed c.top.rejects) (is passed c.second.exit) (is passed c.second.rejects) (is passed c.third.exit) (is passed c.third.rejects) (is passed c.bottom.exit) (is passed c.bottom.rejects))
fits-by (Last l e s c r) = ap (λ (t : Bool). is last_serial s && t) (by-cassette (is passed c.top.exit) (is passed c.top.rejects) (is passed c.second.exit) (is passed c.second.rejects) (is passed c.third.exit) (is passed c.third.rejects) (is passed c.bottom.exit) (is passed c.bottom.rejects))

-- what a frame with a code of the table holds, as the reader takes it
record Taken (code : ℕ) (s : List ℕ) : Type 0 where
  same_code : answer_code (answer_from code s) ≡ code
  values : raw_values (answer_fields code) 4 s ≡ answer_values (answer_from code s)
  made : (line code).makes (raw_values (answer_fields code) 4 s) ≡ answer_from code s

taken : (s : List ℕ) (code : ℕ) → (known code).holds → Taken code s
unfolding answer_from table line_in raw_values paid_from cassettes_from spare_from place_from places_from
taken s =
    by_code (λ code. (known code).holds → Taken code s)
    (λ k. record { same_code = refl; values = refl; made = refl })
    (λ k. record { same_code = refl; values = refl; made = refl })
    (λ k. record { same_code = refl; values = refl; made = refl })
    (λ k. record { same_code = refl; values = refl; made = refl })
    (λ k. record { same_code = refl; values = refl; made = refl })
    (λ code a b c d e k. absurd ((known code).tells.denied (not_known code a b c d e) k))

-- it is read where its fields are in their ranges, and else refused
pub fields_read_lem : (code : ℕ) (s : List ℕ) → (known code).holds
    → fields_read (answer_fields code) (line code).makes s ≡ cond (answer_fits (answer_from code s)).test (Read (answer_from code s)) (Refused Outside)
unfolding fields_read answer_fits
fields_read_lem code s k =
    let t = taken s code k in
    read-raw (answer_fields code) (λ v. Read ((line code).makes v)) (Refused Outside) s (answers-sound code)
    ∙ rw (t.made, t.values, t.same_code)

-- ---- a dispense's fields

-- a fixed 20h
twenty-same : (b : ℕ) → (within 0x20 0x20 b).test ≡ eqb b 0x20
twenty-same b =
    by_cases (same b 0x20)
    (λ e. rw e)
    (λ n. rw (ne_eqb b 0x20 n) (fails-false (within 0x20 0x20 b) (λ h. n (omega arith))))

-- the two fixed bytes tested first, and the sum before the serial
in-turn : (a b c d e f g h : Bool) → ((a && (b && (c && (d && (e && (f && (g && true))))))) && h) ≡ ((e && f) && ((a && (b && (c && (d && h)))) && g))
in-turn false b c d e f g h = simp and-false
in-turn true false c d e f g h = simp and-false
in-turn true true false d e f g h = simp and-false
in-turn true true true false e f g h = simp and-false
in-turn true true true true false f g h = refl
in-turn true true true true true false g h = refl
in-turn true true true true true true true h = simp and-true
in-turn true true true true true true false h = simp and-false

-- the least count is no test
from_zero : (n : ℕ) → (within 0 20 n).test ≡ leb n 20
from_zero n = rw (le-leb 0 n (omega arith))

flipped : {A : Type 0} (t : Bool) (x y : A) → cond (not t) x y ≡ cond t y x
flipped true x y = refl
flipped false x y = refl

-- the counts as the reader takes them are those of a frame whose fields fit
lowered-counts : (s : List ℕ) → (all_fit (asked_fields true) 4 s).holds → lowered_counts s ≡ counts_at true s
unfolding lowered_counts raw_values all_values
lowered-counts s h = let e = raw-values (asked_fields true) 4 s h in cc

-- what is tested of a dispense's fields, fixed bytes first
abbrev tests : List ℕ → Bool
tests s = (eqb (get_or s 8 0) 0x20 && eqb (get_or s 9 0) 0x20) && ((counts_fit true (lowered_counts s)).test && (serial_fits true (get_or s 10 0)).test)

tests_same : (s : List ℕ) → tests s ≡ ((all_fit (asked_fields true) 4 s).test && (sum_fits true (lowered_counts s)).test)
unfolding all_in_range raw_values lowered_counts
tests_same s =
    let n = lowered_counts s in
    sym
    (ap (λ (t : Bool). t && (sum_fits true n).test) (raw-fits (asked_fields true) 4 s (asked-sound true))
    ∙ rw (twenty-same (get_or s 8 0), twenty-same (get_or s 9 0), from_zero n.top, from_zero n.second, from_zero n.third, from_zero n.bottom)
    (in-turn (leb n.top 20) (leb n.second 20) (leb n.third 20) (leb n.bottom 20) (eqb (get_or s 8 0) 0x20) (eqb (get_or s 9 0) 0x20) (serial_fits true (get_or s 10 0)).test (sum_fits true n).test))

-- so a dispense is read where they hold
pub dispense-read : (code : ℕ) (s : List ℕ) → (line code).asks ≡ true
    → asked_read code s ≡ cond (tests s) (Command code (lowered_counts s) (get_or s 10 0)) (NoCommand Outside)
unfolding asked_read command_in
dispense-read code s e = rw (e, tests_same s) (go (all_fit (asked_fields true) 4 s).test refl)
  where
    go : (t : Bool) → (all_fit (asked_fields true) 4 s).test ≡ t
        → cond (not t) (NoCommand Outside) (cond (not (sum_fits true (counts_at true s)).test) (NoCommand Outside) (Command code (counts_at true s) (get_or s 10 0)))
        ≡ cond (t && (sum_fits true (lowered_counts s)).test) (Command code (lowered_counts s) (get_or s 10 0)) (NoCommand Outside)
    go true f = rw (lowered-counts s ((all_fit (asked_fields true) 4 s).tells.shown f)) (flipped (sum_fits true (counts_at true s)).test _ _)
    go false f = refl

pub plain-read : (code : ℕ) (s : List ℕ) → (line code).asks ≡ false → asked_read code s ≡ Command code no_counts 0
unfolding asked_read command_in all_fit
plain-read code s e = rw e

-- ---- all the tests of a frame of six bytes or more

judged-both : {A B : Type 0} (rs qs : List (Rule B)) (refuse : B → A) (done : A) → judged (rs ++ qs) refuse done ≡ judged rs refuse (judged qs refuse done)
judged-both [] qs refuse done = refl
judged-both (r ∷ rs) qs refuse done = ap (λ (x : _). cond r.when.test (refuse r.gives) x) (judged-both rs qs refuse done)

pub command-reading : (s : List ℕ) → 6 ≤ length s
    → read_command s ≡ after NoCommand (judged (outer_faults eot unit_id (command_length (code_of s)) s) Bad Good) (asked_read (code_of s) s)
unfolding read_command command_faults asked_read
command-reading s h =
    let code = code_of s in
    let found = command_in code s in
    judged-both (faults eot unit_id known command_fields s) (sum_faults code s) NoCommand found
    ∙ reading NoCommand eot unit_id known command_fields s (judged (sum_faults code s) NoCommand found) h
    ∙ ap (after NoCommand (judged (outer_faults eot unit_id (command_length code) s) Bad Good)) (sym (judged-both (field_faults (command_fields code) s) (sum_faults code s) NoCommand found))

pub answer-reading : (s : List ℕ) → 6 ≤ length s
    → read_answer s ≡ after Refused (judged (outer_faults soh unit_id (answer_length (code_of s)) s) Bad Good) (fields_read (answer_fields (code_of s)) (line (code_of s)).makes s)
unfolding read_answer fields_read
answer-reading s h = reading Refused soh unit_id known answer_fields s (Read (answer_in s)) h

-- ---- what is laid

raised-small : (n : ℕ) → n ≤ 223 → n % 224 ≡ n
raised-small n h = mod-eq_of_lt (omega arith)

-- a command's frame is the one laid, where it can be sent
command-raised : (t : Bool) (code : ℕ) (n : Counts) (s : ℕ) → (line code).asks ≡ t → (command_fits code n s).holds → raised_command t code n s ≡ command_frame code n s
unfolding raised_command command_frame frame all_bytes
command-raised true code n s e h =
    let f = rw e at h in
    rw (e, raised-small n.top (omega (arith, f.0.0)), raised-small n.second (omega (arith, f.0.1.0)), raised-small n.third (omega (arith, f.0.1.1.0)), raised-small n.bottom (omega (arith, f.0.1.1.1.0)))
command-raised false code n s e h = rw e

pub command-laid : (code : ℕ) (n : Counts) (s : ℕ) (room : List ℕ) → (command_fits code n s).holds
    → laid (raised_command (line code).asks code n s) room ≡ laid (command_frame code n s) room
command-laid code n s room h = ap (λ (f : List ℕ). laid f room) (command-raised (line code).asks code n s refl h)

-- no count of an answer is over 223
record Most (c : Cassettes) : Type 0 where
  top-exit : c.top.exit ≤ 223
  top-rejects : c.top.rejects ≤ 223
  second-exit : c.second.exit ≤ 223
  second-rejects : c.second.rejects ≤ 223
  third-exit : c.third.exit ≤ 223
  third-rejects : c.third.rejects ≤ 223
  bottom-exit : c.bottom.exit ≤ 223
  bottom-rejects : c.bottom.rejects ≤ 223

most-of : (k : Field) (c : Cassettes) (r : Spare) → (all_in_range (cassette_fields k spare_fields) (cassette_values c (spare_values r))).holds → Most c
unfolding all_in_range
most-of k c r h =
    record {
      top-exit = h.0.1;
      top-rejects = h.1.0.1;
      second-exit = h.1.1.1.0.1;
      second-rejects = h.1.1.1.1.0.1;
      third-exit = h.1.1.1.1.1.1.0.1;
      third-rejects = h.1.1.1.1.1.1.1.0.1;
      bottom-exit = h.1.1.1.1.1.1.1.1.1.0.1;
      bottom-rejects = h.1.1.1.1.1.1.1.1.1.1.0.1;
    }

-- so its bytes are the values plus 20h
abbrev plain_paid : Paid → List ℕ → List ℕ
plain_paid p more = (0x20 + p.exit) ∷ (0x20 + p.rejects) ∷ p.kind ∷ more

cassettes-laid : (c : Cassettes) (more : List ℕ) → Most c
    → cassette_bytes c more ≡ plain_paid c.top (plain_paid c.second (plain_paid c.third (plain_paid c.bottom more)))
cassettes-laid c more m =
    rw (raised-small c.top.exit m.top-exit, raised-small c.top.rejects m.top-rejects, raised-small c.second.exit m.second-exit, raised-small c.second.rejects m.second-rejects, raised-small c.third.exit m.third-exit, raised-small c.third.rejects m.third-rejects, raised-small c.bottom.exit m.bottom-exit, raised-small c.bottom.rejects m.bottom-rejects)

-- an answer's frame is the one laid, where its fields fit
answer-raised : (a : Answer) → (answer_fits a).holds → raised_answer a ≡ answer_frame a
unfolding answer_frame answer_fits frame all_bytes all_in_range table line_in status_frame counted_frame last_frame
answer-raised (Reset e) h = refl
answer-raised (Status e d0 d1 p) h = refl
answer-raised (Purged e m c r) h = ap (λ (l : List ℕ). closed (soh ∷ unit_id ∷ stx ∷ purge_code ∷ e ∷ m ∷ l)) (cassettes-laid c _ (most-of kind c r h.1.1))
answer-raised (Dispensed e s c r) h = ap (λ (l : List ℕ). closed (soh ∷ unit_id ∷ stx ∷ dispense_code ∷ e ∷ s ∷ l)) (cassettes-laid c _ (most-of free c r h.1.1))
answer-raised (Last o e s c r) h = ap (λ (l : List ℕ). closed (soh ∷ unit_id ∷ stx ∷ last_code ∷ o ∷ e ∷ s ∷ l)) (cassettes-laid c _ (most-of free c r h.1.1.1))

pub answer-laid : (a : Answer) (room : List ℕ) → (answer_fits a).holds → laid (raised_answer a) room ≡ laid (answer_frame a) room
answer-laid a room h = ap (λ (f : List ℕ). laid f room) (answer-raised a h)
