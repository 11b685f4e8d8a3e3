-- The longest report: no number in it has more than ten digits, and no type more than two. Assumes nothing.
use Prim.Native.Nat.{ℕ, zero, suc, ◌+◌, ◌*◌, ◌≤◌, ◌<◌}
use mathlib.Core.Path.{◌≡◌, refl, sym, ap, ◌∙◌, subst}
use mathlib.Core.Bool.{Bool, true, false, cond}
use mathlib.Core.List.{List, [], ◌∷◌, ◌++◌}
use native.Mathlib.Omega.{arith}
use lib.Dec.{ltb}
use lib.ListN.{length, take, get_or, set, length-append, length-set}
use Rattle.std.specs.Prelude.{Option}
use Rattle.refusals.specs.Rules.{same}
use Rattle.numbers.specs.Promises.{AllBytes}
use Rattle.refusals.proofs.Rules.{by_cases}
use Rattle.exchange_rules.specs.Kept.{Within}
use Rattle.ledger.specs.Calls.{run as ran}
use Rattle.dispenser_rules.specs.Calls.{host}
use Rattle.dispenser_rules.specs.Session.{fresh_session}
use Rattle.exchange_rules.specs.declared.notes.Sums.{Sums}
use Rattle.dispenser_rules.specs.declared.account.Cassettes.{Cassettes}
use Rattle.dispenser_rules.specs.LastError.{LastError}
use Rattle.dispenser_rules.specs.LastError.{NoneYet, Of}
use Rattle.dispenser_rules.specs.declared.errors.LastErrors.{LastErrors}
use Rattle.error_codes.specs.Errors.{class_name}
use Rattle.error_codes.specs.declared.ErrorClass.{ErrorClass}
use Rattle.error_codes.specs.declared.ErrorClass.TheVariants.{Fine, OutOfNotes, NotSeated, Jam, CountInDoubt, OtherListed, Unlisted}
use Rattle.dispenser_rules.specs.declared.session.Session.{Session}
use Rattle.dispenser_rules.proofs.Demand3.{never_cut}
use Rattle.dispenser_frame_rules.specs.declared.answer.Cassette.TheVariants.{Upper, Lower}
use Rattle.validator_rules.specs.Limits.{types}
use Rattle.validator_rules.specs.Bills.{bills, no_bill, a_bill, booked_by, plus}
use Rattle.validator_rules.specs.Session.{fresh_session as fresh_taker, session_request as taker_request, session_byte as taker_byte, session_tick as taker_tick}
use Rattle.validator_rules.specs.declared.bills.Bills.{Bills}
use Rattle.validator_rules.proofs.Agreeing.{kept-by-history}
use Rattle.recording.specs.Record.{most_bytes, fault_number, laid}
use Rattle.recording.specs.Reading.{Reading, records, bad, read_recording}
use Rattle.recording.specs.Promises.{AtOnce, bad-number, unknown}
use Rattle.recording.specs.declared.Fault.{Fault}
use Rattle.recording.specs.declared.Fault.TheVariants.{BadNumber, Cut, Unknown, Long}
use Rattle.recording.specs.declared.Record.{Record}
use Rattle.recording.specs.declared.Record.TheVariants.{Request, DispenserByte, Tick, ValidatorByte, Command, Clear}
use Rattle.recording.proofs.Exact.{exactly-when}
use Rattle.recording.proofs.Back.{length-record}
use Rattle.report_lines.specs.Text.{bytes_of}
use Rattle.report.specs.Text.{longest}
use Rattle.grading_rules.specs.Replay.{fresh_desk, given, run}
use Rattle.grading_rules.specs.Feeding.{replay_of}
use Rattle.grading_rules.specs.declared.desk.Desk.{Desk}
use Rattle.report_lines.specs.Lines.{field, line, lines, paid_part, unpaid_part, sums_line, last_name, error_line}
use Rattle.report.specs.Report.{value_line, type_line, type_lines, good_lines, bad_line, report_text, report_of}
use Rattle.grading_rules.specs.Promises.{calls, taker_calls, refuses, refusals}
use Rattle.report.specs.Promises.{Enough}
use Rattle.grading_rules.specs.declared.findings.Findings.{Findings}
use Rattle.bill_table.specs.Table.{word_at}
use Rattle.bill_table.specs.Worth.{total_of}
use Rattle.bill_table.specs.declared.Word.{Word}
use Rattle.bill_table.specs.Total.{Total}
use Rattle.bill_table.specs.Total.{NoValue, Sum, Refused}
use Rattle.report_lines.proofs.Adding.{ten}
use Rattle.report.proofs.Values.{total-fits, value-most}
use Rattle.report.proofs.TableBytes.{first_small}
use Rattle.report_lines.proofs.Lines.{lines_none, lines-one, lines_more, lines-append}
use Rattle.report.proofs.Types.{two, type-none, type-seen, types-nil, types-cons}
use Rattle.grading_rules.proofs.Cuts.{as_read}
use Rattle.grading_rules.proofs.Recorded.{good_replay, session-ran, as-recorded-whole}

abbrev end32 : ℕ
end32 = 4_294_967_296

-- ---- the length of each line

-- every sum of a cassette is below 2 to the 32nd
record Few (s : Sums) : Type 0 where
  asked : s.asked.0 < end32
  paid : s.paid.0 < end32
  short : s.short.0 < end32
  over : s.over.0 < end32
  refused : s.refused.0 < end32
  unknown : s.unknown.0 < end32
  pending : s.pending.0 < end32
  rejected : s.rejected.0 < end32

bounded-few : (s : Sums) → Within 99 1_000_000 1_000_000 s → Few s
bounded-few s b =
    record {
      asked = omega (arith, b.asked_most);
      paid = omega (arith, b.paid_most);
      short = omega (arith, b.short_most);
      over = omega (arith, b.over_most);
      refused = omega (arith, b.refused_most);
      unknown = omega (arith, b.unknown_most);
      pending = omega (arith, b.pending_most);
      rejected = omega (arith, b.rejected_most);
    }

sums-most : (name : List ℕ) (s : Sums) → length name ≤ 5 → Few s → length (line (sums_line name s)) ≤ 146
unfolding paid_part unpaid_part
sums-most name s h f =
    simp length-append
    (omega (
      arith,
      ten s.asked.0 f.asked,
      ten s.paid.0 f.paid,
      ten s.short.0 f.short,
      ten s.over.0 f.over,
      ten s.refused.0 f.refused,
      ten s.unknown.0 f.unknown,
      ten s.pending.0 f.pending,
      ten s.rejected.0 f.rejected,
    ))

worth-most : (w : Word) (n : ℕ) → w.first < 256 → length (lines (value_line (total_of w n))) ≤ 31
worth-most w n small = by (total_of w n) refl
  where
    by : (t : Total) → total_of w n ≡ t → length (lines (value_line t)) ≤ 31
    by NoValue e = rw lines_none (omega arith)
    by (Sum v) e = rw lines-one (value-most v (total-fits w n v small e))
    by (Refused why) e = rw lines_none (omega arith)

type-most : (w : Word) (y : ℕ) (n : Bills) → w.first < 256 → y ≤ 23 → n.0 < end32 → length (lines (type_line w y n)) ≤ 56
type-most w y n small h l =
    by_cases (same n.0 0)
    (λ e. rw (type-none w y n e) (omega arith))
    (λ e. rw (type-seen w y n e) (simp length-append (omega (arith, two y h, ten n.0 l, worth-most w n.0 small))))

types-most : (t : List ℕ) → ((k : ℕ) → (word_at t k).first < 256) → (ns : List Bills) (y : ℕ) → y + length ns ≤ 24
    → ((k : ℕ) → k < length ns → (get_or ns k (bills 0)).0 < end32) → length (lines (type_lines t y ns)) ≤ 56 * length ns
types-most t small [] y h f = rw (types-nil, lines_none) (omega arith)
types-most t small (n ∷ ns) y h f =
    rw (types-cons, lines-append)
    (simp length-append
    (omega (
      arith,
      type-most (word_at t y) y n (small y) (omega arith) (f 0 (omega arith)),
      types-most t small ns (suc y) (omega arith) (λ k l. f (suc k) (omega arith)),
    )))

name-most : (class : ErrorClass) → length (bytes_of (class_name class)) ≤ 14
name-most Fine = omega arith
name-most OutOfNotes = omega arith
name-most NotSeated = omega arith
name-most Jam = omega arith
name-most CountInDoubt = omega arith
name-most OtherListed = omega arith
name-most Unlisted = omega arith

last-most : (last : LastError) → length (bytes_of (last_name last)) ≤ 14
last-most NoneYet = omega arith
last-most (Of class) = name-most class

error-most : (name : List ℕ) (last : LastError) → length name ≡ 17 → length (line (error_line name last)) ≤ 32
error-most name last h = simp length-append (omega (arith, h, last-most last))

seven : (a b c d e f g : List ℕ)
    → length (a ++ (b ++ (c ++ (d ++ (e ++ (f ++ g)))))) ≡ length a + (length b + (length c + (length d + (length e + (length f + length g)))))
seven a b c d e f g = simp length-append

good-most : (a : Cassettes) (es : LastErrors) (bs : List Bills) (tb : List ℕ) (declined all : ℕ) → ((k : ℕ) → (word_at tb k).first < 256) → Few a.upper → Few a.lower → length bs ≡ 24
    → ((k : ℕ) → k < 24 → (get_or bs k (bills 0)).0 < end32) → declined < end32 → all < end32 → length (lines (good_lines a es bs tb declined all)) ≤ longest
good-most a es bs tb declined all small u l n f d r =
    rw (lines_more, lines_more, lines_more, lines_more, lines_more, lines-append, lines-one)
    (let p = sums-most (bytes_of "upper") a.upper (omega arith) u in
    let q = sums-most (bytes_of "lower") a.lower (omega arith) l in
    let t = types-most tb small bs 0 (omega (arith, n)) (λ k h. f k (omega (arith, n))) in
    let x : length (line (field "declined " declined)) ≤ 20 = simp length-append (omega (arith, ten declined d)) in
    let y : length (line (field "records " all)) ≤ 19 = simp length-append (omega (arith, ten all r)) in
    let v = error-most (bytes_of "upper last error ") es.upper refl in
    let w = error-most (bytes_of "lower last error ") es.lower refl in
    let e = seven (line (sums_line (bytes_of "upper") a.upper)) (line (sums_line (bytes_of "lower") a.lower)) (line (error_line (bytes_of "upper last error ") es.upper)) (line (error_line (bytes_of "lower last error ") es.lower)) (line (field "declined " declined)) (lines (type_lines tb 0 bs)) (line (field "records " all)) in
    omega (arith, p, q, t, v, w, x, y, e, n))

small-number : (why : Fault) → fault_number why < end32
small-number BadNumber = omega arith
small-number Cut = omega arith
small-number Unknown = omega arith
small-number Long = omega arith

bad-most : (why : Fault) (at : ℕ) → at < end32 → length (lines (bad_line why at ∷ [])) ≤ longest
bad-most why at h = rw lines-one (simp length-append (omega (arith, ten (fault_number why) (small-number why), ten at h)))

-- ---- the bills are always of 24 types

booked-length : (bs : List Bills) (y : Option ℕ) → length (booked_by bs y) ≡ length bs
unfolding booked_by
booked-length bs no_bill = refl
booked-length bs (a_bill y) = by (ltb y types)
  where
    by : (t : Bool) → length (cond t (set bs y (plus (get_or bs y (bills 0)) 1)) bs) ≡ length bs
    by true = length-set bs y _
    by false = refl

given-bills : (d : Desk) (x : Record) → length (given d x).validator.bills ≡ length d.validator.bills
unfolding taker_request taker_byte taker_tick
given-bills d (Request code upper lower) = refl
given-bills d (DispenserByte b) = refl
given-bills d (Tick ms) = booked-length d.validator.bills _
given-bills d (ValidatorByte b) = booked-length d.validator.bills _
given-bills d (Command code) = refl
given-bills d Clear = refl

bills-ran : (d : Desk) (xs : List Record) → length (run d xs).validator.bills ≡ length d.validator.bills
unfolding run
bills-ran d [] = refl
bills-ran d (x ∷ xs) = bills-ran (given d x) xs ∙ given-bills d x

fresh-bills : length fresh_desk.validator.bills ≡ 24
unfolding fresh_desk fresh_taker
fresh-bills = refl

-- ---- the records are no more than the bytes

laid-many : (xs : List Record) → length xs ≤ length (laid xs)
unfolding laid
laid-many [] = omega arith
laid-many (x ∷ xs) = simp length-append (omega (arith, laid-many xs, length-record x))

one-most : (t : Bool) → cond t 1 0 ≤ 1
one-most true = omega arith
one-most false = omega arith

refusals-most : (d : Desk) (xs : List Record) → refusals d xs ≤ length xs
unfolding refusals
refusals-most d [] = omega arith
refusals-most d (x ∷ xs) = omega (arith, one-most (refuses d x), refusals-most (given d x) xs)

-- ---- the report of any recording

good-enough : (s : List ℕ) (xs : List Record) → AllBytes s → read_recording s ≡ records xs → length (report_text (replay_of s)) ≤ longest
unfolding report_text
good-enough s xs h e =
    let w = (exactly-when.good s xs h).0 e in
    let p = as-recorded-whole s xs h e in
    let r = p.1 in
    let cut = never_cut (calls xs) in
    let n : length xs ≤ 4_294_967_295 = omega (arith, w.0, laid-many xs, ap length w.2) in
    let c = session-ran xs in
    let b : (k : ℕ) → k < 24 → (get_or (run fresh_desk xs).validator.bills k (bills 0)).0 < end32
    = λ k l. omega (arith, sym (ap (λ (f : Findings). (get_or f.bills k (bills 0)).0) (good_replay s xs e)) ∙ r.bills_told k l, kept-by-history.few (taker_calls xs p.0) k l) in
    rw (good_replay s xs e)
    (good-most (run fresh_desk xs).dispenser.account.cassettes (run fresh_desk xs).errors (run fresh_desk xs).validator.bills (run fresh_desk xs).validator.table (run fresh_desk xs).declined (run fresh_desk xs).records
    (λ k. subst (λ (t : List ℕ). (word_at t k).first < 256) (sym (sym (ap (λ (f : Findings). f.table) (good_replay s xs e)) ∙ r.table_told)) (first_small (taker_calls xs p.0) k))
    (subst (λ (y : Session). Few y.account.cassettes.upper) (sym c) (bounded-few (ran host fresh_session (calls xs)).account.cassettes.upper (cut Upper)))
    (subst (λ (y : Session). Few y.account.cassettes.lower) (sym c) (bounded-few (ran host fresh_session (calls xs)).account.cassettes.lower (cut Lower)))
    (bills-ran fresh_desk xs ∙ fresh-bills)
    b
    (omega (arith, n, refusals-most fresh_desk xs, sym (ap (λ (f : Findings). f.declined) (good_replay s xs e)) ∙ r.declined))
    (omega (arith, n, sym (ap (λ (f : Findings). f.records) (good_replay s xs e)) ∙ r.all)))

take-most : (n : ℕ) (s : List ℕ) → length (take n s) ≤ n
take-most zero s = omega arith
take-most (suc n) [] = omega arith
take-most (suc n) (b ∷ s) = omega (arith, take-most n s)

-- a fault is in a record that starts before the limit, or at it
early-place : (s : List ℕ) (why : Fault) (at : ℕ) → AllBytes s → AtOnce why → read_recording s ≡ bad why at → at < end32
early-place s why at h a e =
    let b = (exactly-when.broken s why at h a).0 e in
    omega (arith, b.place, simp length-append at (ap length b.are), take-most most_bytes s)

bad-place : (s : List ℕ) (why : Fault) (at : ℕ) → AllBytes s → read_recording s ≡ bad why at → at < end32
bad-place s BadNumber at h e = early-place s BadNumber at h bad-number e
bad-place s Unknown at h e = early-place s Unknown at h unknown e
bad-place s Cut at h e = let r = (exactly-when.cut s at h).0 e in omega (arith, r.0, r.1.place, simp length-append at (ap length r.1.are))
bad-place s Long at h e = let r = (exactly-when.long s at h).0 e in omega (arith, r.1)

bad-enough : (s : List ℕ) (why : Fault) (at : ℕ) → AllBytes s → read_recording s ≡ bad why at → length (report_text (replay_of s)) ≤ longest
unfolding report_text
bad-enough s why at h e = rw (as_read s, e) (bad-most why at (bad-place s why at h e))

pub enough : Enough
unfolding report_of
enough s h = by (read_recording s) refl
  where
    by : (g : Reading) → read_recording s ≡ g → length (report_text (replay_of s)) ≤ longest
    by (records xs) e = good-enough s xs h e
    by (bad why at) e = bad-enough s why at h e
