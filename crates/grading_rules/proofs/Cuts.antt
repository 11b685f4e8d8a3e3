-- How a recording is cut does not tell: a piece is fed byte by byte, and so are pieces one after the other. After a fault nothing changes, and no count wraps.
-- Assumes nothing.
use Rattle.std.specs.Prelude.{Err}
use Prim.Native.Nat.{ℕ, ◌+◌, ◌≤◌, ◌<◌}
use mathlib.Core.Path.{◌≡◌, refl, sym, ap, ◌∙◌, subst}
use mathlib.Core.Bool.{Bool, true, false, cond, ◌||◌}
use mathlib.Core.List.{List, [], ◌∷◌, ◌++◌, flatten}
use mathlib.Core.Logic.{inl, inr}
use native.Mathlib.Numerals.{add-one}
use native.Mathlib.Omega.{arith}
use types.Run.{miss}
use Rattle.refusals.specs.Rules.{at_most}
use Rattle.refusals.proofs.Rules.{by_cases}
use Rattle.dispenser_rules.specs.Session.{session_request, session_byte, session_tick, session_clear}
use Rattle.validator_rules.specs.Session.{session_request as taker_request, session_byte as taker_byte, session_tick as taker_tick}
use Rattle.recording.specs.Record.{most_bytes}
use Rattle.recording.specs.Reading.{Reading, records, bad, fresh_reader, awaiting, taken_byte, ended, also, went, closing, taking_from, read_recording}
use Rattle.recording.specs.declared.Fault.{Fault}
use Rattle.recording.specs.declared.Fault.TheVariants.{Cut}
use Rattle.recording.specs.declared.Record.{Record}
use Rattle.recording.specs.declared.Record.TheVariants.{Request, DispenserByte, Tick, ValidatorByte, Command, Clear}
use Rattle.recording.specs.declared.Place.TheVariants.{Broken}
use Rattle.recording.specs.declared.Reader.{Reader}
use Rattle.recording.specs.declared.Step.{Step}
use Rattle.recording.specs.Outcome.{Outcome}
use Rattle.recording.specs.Outcome.{More, Whole, Bad}
use Rattle.recording.specs.Verdict.{Verdict}
use Rattle.recording.specs.Verdict.{Good, Bad as NotGood}
use Rattle.recording.proofs.Places.{within, Inside, begun-ended}
use Rattle.recording.proofs.Faults.{broken-byte, taken-low}
use Rattle.recording.proofs.Folds.{taking-nil, taking-cons}
use Rattle.recording.proofs.Limit.{Ready, Leaves, goes, ends, breaks, leaves, past-faulty}
use Rattle.grading_rules.specs.Replay.{fresh_desk, lent_room, lent_room255, payer_declines, taker_declines, given, run, bad_findings, replayed}
use Rattle.grading_rules.specs.Feeding.{fresh_replay, broken_at, after_byte, fed_byte, fed_piece, fed_pieces, ended_as, ended_replay, replay_of}
use Rattle.grading_rules.specs.Promises.{HoweverCut, AfterFault, Counted, StaysCounted}
use Rattle.grading_rules.specs.declared.desk.Desk.{Desk}
use Rattle.grading_rules.specs.declared.desk.Replaying.{Replaying}

-- ---- pieces, one after the other

pub fed-nil : (w : Replaying) → fed_piece w [] ≡ w
unfolding fed_piece
fed-nil w = refl

pub fed-cons : (w : Replaying) (b : ℕ) (s : List ℕ) → fed_piece w (b ∷ s) ≡ fed_piece (fed_byte w b) s
unfolding fed_piece
fed-cons w b s = refl

pub fed-append : (a b : List ℕ) (w : Replaying) → fed_piece w (a ++ b) ≡ fed_piece (fed_piece w a) b
fed-append [] b w = ap (λ (v : Replaying). fed_piece v b) (sym (fed-nil w))
fed-append (c ∷ a) b w = fed-cons w c (a ++ b) ∙ fed-append a b (fed_byte w c) ∙ ap (λ (v : Replaying). fed_piece v b) (sym (fed-cons w c a))

pub fed-pieces : (ps : List (List ℕ)) (w : Replaying) → fed_pieces w ps ≡ fed_piece w (flatten ps)
unfolding fed_pieces flatten
fed-pieces [] w = sym (fed-nil w)
fed-pieces (s ∷ ps) w = fed-pieces ps (fed_piece w s) ∙ sym (fed-append s (flatten ps) w)

-- a byte, whose step is t
pub fed-step : (d : Desk) (r : Reader) (n b : ℕ) (t : Step) → taken_byte r n b ≡ t
    → fed_byte (record { desk = d; reader = r; fed = n }) b ≡ after_byte t.outcome t.reader (record { desk = d; reader = r; fed = n })
unfolding fed_byte
fed-step d r n b t e = ap (λ (x : Step). after_byte x.outcome x.reader (record { desk = d; reader = r; fed = n })) e

-- ---- after a fault

broken-fed : (why : Fault) (at b : ℕ) → fed_byte (broken_at why at) b ≡ broken_at why at
unfolding fed_byte broken_at
broken-fed why at b = ap (λ (t : Step). after_byte t.outcome t.reader (record { desk = fresh_desk; reader = awaiting at (Broken why); fed = 0 })) (broken-byte at 0 b why)

pub broken-stays : (s : List ℕ) (why : Fault) (at : ℕ) → fed_piece (broken_at why at) s ≡ broken_at why at
broken-stays [] why at = fed-nil (broken_at why at)
broken-stays (b ∷ s) why at = fed-cons (broken_at why at) b s ∙ ap (λ (w : Replaying). fed_piece w s) (broken-fed why at b) ∙ broken-stays s why at

broken-end : (why : Fault) (at : ℕ) → ended_replay (broken_at why at) ≡ bad_findings why at
unfolding ended_replay broken_at ended
broken-end why at = refl

-- ---- what a recording says is what is replayed

pub replayed-also : (d : Desk) (x : Record) (g : Reading) → replayed d (also x g) ≡ replayed (given d x) g
unfolding run
replayed-also d x (records xs) = refl
replayed-also d x (bad why at) = refl

ends_as : (v : Verdict) (d : Desk) → ended_as v d ≡ replayed d (closing v)
unfolding run
ends_as Good d = refl
ends_as (Err x) d = refl

module _ (d : Desk) (r : Reader) (n : ℕ) (s : List ℕ) where
  -- what a byte brought, and what is said of the rest
  one-read : (o : Outcome) (q : Reader)
      → ((e : Desk) → ended_replay (fed_piece (record { desk = e; reader = q; fed = n + 1 }) s) ≡ replayed e (taking_from q (n + 1) s))
      → ended_replay (fed_piece (after_byte o q (record { desk = d; reader = r; fed = n })) s) ≡ replayed d (went o (taking_from q (n + 1) s))
  one-read More q later = later d
  one-read (Whole x) q later = later (given d x) ∙ sym (replayed-also d x (taking_from q (n + 1) s))
  one-read (Err x) q later = ap ended_replay (broken-stays s x.fault x.at) ∙ broken-end x.fault x.at

read-from : (s : List ℕ) (d : Desk) (r : Reader) (n : ℕ) → ended_replay (fed_piece (record { desk = d; reader = r; fed = n }) s) ≡ replayed d (taking_from r n s)
unfolding ended_replay
read-from [] d r n = ap ended_replay (fed-nil (record { desk = d; reader = r; fed = n })) ∙ ends_as (ended r) d ∙ sym (ap (replayed d) (taking-nil r n))
read-from (b ∷ s) d r n =
    ap ended_replay (fed-cons (record { desk = d; reader = r; fed = n }) b s ∙ ap (λ (w : Replaying). fed_piece w s) (fed-step d r n b (taken_byte r n b) refl))
    ∙ one-read d r n s (taken_byte r n b).outcome (taken_byte r n b).reader (λ e. read-from s e (taken_byte r n b).reader (n + 1))
    ∙ ap (λ (k : ℕ). replayed d (went (taken_byte r n b).outcome (taking_from (taken_byte r n b).reader k s))) (add-one n)
    ∙ sym (ap (replayed d) (taking-cons r n b s))

pub as_read : (s : List ℕ) → replay_of s ≡ replayed fresh_desk (read_recording s)
unfolding replay_of fresh_replay read_recording
as_read s = read-from s fresh_desk fresh_reader 0

pub however-cut : HoweverCut
unfolding replay_of
however-cut = record { same = λ ps. ap ended_replay (fed-pieces ps fresh_replay); as_read = as_read }

-- ---- what stands after pieces: a replay that goes on, or a fault that a byte shows

data Stands : Replaying → Type 0 where
  going : (d : Desk) (r : Reader) (n : ℕ) → Ready r → Stands (record { desk = d; reader = r; fed = n })
  broken : (why : Fault) (at : ℕ) → (why ≡ Cut → ⊥) → Stands (broken_at why at)

stands-left : (d : Desk) (r : Reader) (n : ℕ) (t : Step) → Leaves t → Stands (after_byte t.outcome t.reader (record { desk = d; reader = r; fed = n }))
stands-left d r n t (goes q i) = going d q (n + 1) (inr i)
stands-left d r n t (ends x) = going (given d x) fresh_reader (n + 1) (inl refl)
stands-left d r n t (breaks o why h) = broken why o h

stands-byte : {w : Replaying} (b : ℕ) → Stands w → Stands (fed_byte w b)
stands-byte b (going d r n h) =
    subst Stands (sym (fed-step d r n b (taken_byte r n b) refl)) (stands-left d r n (taken_byte r n b) (leaves r h n b))
stands-byte b (broken why at h) = subst Stands (sym (broken-fed why at b)) (broken why at h)

stands-fed : (s : List ℕ) {w : Replaying} → Stands w → Stands (fed_piece w s)
stands-fed [] {w} h = subst Stands (sym (fed-nil w)) h
stands-fed (b ∷ s) {w} h = subst Stands (sym (fed-cons w b s)) (stands-fed s (stands-byte b h))

stands-first : Stands fresh_replay
unfolding fresh_replay
stands-first = going fresh_desk fresh_reader 0 (inl refl)

ready-broken : {why : Fault} (r : Reader) → Ready r → r.place ≡ Broken why → ⊥
ready-broken r (inl e) p = let q : fresh_reader.place ≡ r.place = ap (λ (y : Reader). y.place) (sym e) in let z : ◌≡◌ {A = ℕ} 0 1 = cc in omega arith
ready-broken r (inr i) p = miss within 8 tt (subst Inside p i)

stands-uncut : {w : Replaying} (at : ℕ) → Stands w → w.reader.place ≡ Broken Cut → ⊥
unfolding broken_at
stands-uncut at (going d r n h) e = ready-broken r h e
stands-uncut at (broken why o h) e = h (let z : why ≡ Cut = cc in z)

place-broken : (why : Fault) (at : ℕ) → (broken_at why at).reader.place ≡ Broken why
unfolding broken_at
place-broken why at = refl

-- ---- a fault that is said shows

ended-ready : (r : Reader) → Ready r → {why : Fault} {at : ℕ} → closing (ended r) ≡ bad why at → why ≡ Cut
unfolding ended
ended-ready r (inl e) {why} {at} q =
    let c : closing (ended fresh_reader) ≡ bad why at = ap (λ (y : Reader). closing (ended y)) (sym e) ∙ q in
    let z : ◌≡◌ {A = ℕ} 0 1 = cc in absurd (omega arith)
ended-ready r (inr i) {why} {at} q = let c : bad Cut r.start ≡ bad why at = sym (ap closing (begun-ended r i)) ∙ q in let z : Cut ≡ why = cc in sym z

also-bad : (x : Record) (g : Reading) {why : Fault} {at : ℕ} → also x g ≡ bad why at → g ≡ bad why at
also-bad x (records xs) e = let z : ◌≡◌ {A = ℕ} 0 1 = cc in absurd (omega arith)
also-bad x (bad w o) e = e

shows_left : (s : List ℕ) (d : Desk) (r : Reader) (n : ℕ) {why : Fault} {at : ℕ} (t : Step) → Leaves t
    → ((e : Desk) (q : Reader) → Ready q → taking_from q (n + 1) s ≡ bad why at → fed_piece (record { desk = e; reader = q; fed = n + 1 }) s ≡ broken_at why at)
    → went t.outcome (taking_from t.reader (n + 1) s) ≡ bad why at
    → fed_piece (after_byte t.outcome t.reader (record { desk = d; reader = r; fed = n })) s ≡ broken_at why at
shows_left s d r n t (goes q i) later e = later d q (inr i) e
shows_left s d r n t (ends x) later e = later (given d x) fresh_reader (inl refl) (also-bad x (taking_from fresh_reader (n + 1) s) e)
shows_left s d r n {why} {at} t (breaks o w h) later e =
    let same : w ≡ why = cc in
    let place : o ≡ at = cc in
    broken-stays s w o ∙ ap (λ (y : Fault). broken_at y o) same ∙ ap (broken_at why) place

shows-from : (s : List ℕ) (d : Desk) (r : Reader) (n : ℕ) {why : Fault} {at : ℕ} → (why ≡ Cut → ⊥) → Ready r → taking_from r n s ≡ bad why at
    → fed_piece (record { desk = d; reader = r; fed = n }) s ≡ broken_at why at
shows-from [] d r n h i e = absurd (h (ended-ready r i (sym (taking-nil r n) ∙ e)))
shows-from (b ∷ s) d r n h i e =
    fed-cons (record { desk = d; reader = r; fed = n }) b s
    ∙ ap (λ (w : Replaying). fed_piece w s) (fed-step d r n b (taken_byte r n b) refl)
    ∙ shows_left s d r n (taken_byte r n b) (leaves r i n b) (λ y q j f. shows-from s y q (n + 1) h j f)
    (ap (λ (k : ℕ). went (taken_byte r n b).outcome (taking_from (taken_byte r n b).reader k s)) (add-one n) ∙ sym (taking-cons r n b s) ∙ e)

shows-fault : (s : List ℕ) (why : Fault) (at : ℕ) → (why ≡ Cut → ⊥) → read_recording s ≡ bad why at → fed_piece fresh_replay s ≡ broken_at why at
unfolding fresh_replay read_recording
shows-fault s why at h e = shows-from s fresh_desk fresh_reader 0 h (inl refl) e

pub after-fault : AfterFault
after-fault =
    record {
      shows = λ ps why at h e. fed-pieces ps fresh_replay ∙ shows-fault (flatten ps) why at h e;
      stays = λ why at s. broken-stays s why at;
      end = broken-end;
      never_cut = λ ps at e.
          stands-uncut at (stands-fed (flatten ps) stands-first)
          (ap (λ (w : Replaying). w.reader.place) (sym (fed-pieces ps fresh_replay) ∙ e) ∙ place-broken Cut at);
    }

-- ---- counts

once : (t : Bool) (n : ℕ) → cond t (n + 1) n ≤ n + 1
once true n = omega arith
once false n = omega arith

pub given-counts : (d : Desk) (x : Record) → ((given d x).records ≡ d.records + 1) × ((given d x).declined ≤ d.declined + 1)
given-counts d (Request code upper lower) = (refl, once (payer_declines (session_request d.dispenser code upper lower lent_room).reply) d.declined)
given-counts d (DispenserByte b) = (refl, once (payer_declines (session_byte d.dispenser b lent_room).reply) d.declined)
given-counts d (Tick ms) =
    (refl, once (payer_declines (session_tick d.dispenser ms lent_room).reply || taker_declines (taker_tick d.validator ms lent_room255).reply) d.declined)
given-counts d (ValidatorByte b) = (refl, once (taker_declines (taker_byte d.validator b lent_room255).reply) d.declined)
given-counts d (Command code) = (refl, once (taker_declines (taker_request d.validator code [] lent_room255).reply) d.declined)
given-counts d Clear = (refl, once (payer_declines (session_clear d.dispenser).reply) d.declined)

counted-broken : (why : Fault) (at : ℕ) → at ≤ most_bytes → Counted (broken_at why at)
unfolding broken_at fresh_desk
counted-broken why at h = record { start_most = h; declined_most = omega arith; records_most = omega arith; fed_most = omega arith }

counted-after : (o : Outcome) (q : Reader) (w : Replaying) → w.fed < most_bytes → q.start ≤ most_bytes → ((why : Fault) (at : ℕ) → o ≡ Bad why at → at ≤ most_bytes) → Counted w
    → Counted (after_byte o q w)
counted-after More q w h l f c =
    record { start_most = l; declined_most = c.declined_most; records_most = omega (arith, c.records_most); fed_most = omega (arith, h) }
counted-after (Whole x) q w h l f c =
    let n = given-counts w.desk x in
    record {
      start_most = l;
      declined_most = omega (arith, n.0, n.1, c.declined_most);
      records_most = omega (arith, n.0, c.records_most);
      fed_most = omega (arith, h);
    }
counted-after (Err x) q w h l f c = counted-broken x.fault x.at (f x.fault x.at refl)

counted-byte : (w : Replaying) (b : ℕ) → Counted w → Counted (fed_byte w b)
unfolding fed_byte
counted-byte w b c =
    let y = taken-low w.reader w.fed b c.start_most c.fed_most in
    by_cases (at_most most_bytes w.fed)
    (λ l.
    let x = past-faulty w.reader w.fed b l in
    subst (λ (t : Step). Counted (after_byte t.outcome t.reader w)) (sym x.1.1)
    (counted-broken x.1.0 x.0 (y.bad x.1.0 x.0 (ap (λ (t : Step). t.outcome) x.1.1))))
    (λ n. counted-after (taken_byte w.reader w.fed b).outcome (taken_byte w.reader w.fed b).reader w (omega arith) y.begun y.bad c)

pub counted-fed : (s : List ℕ) (w : Replaying) → Counted w → Counted (fed_piece w s)
counted-fed [] w c = subst Counted (sym (fed-nil w)) c
counted-fed (b ∷ s) w c = subst Counted (sym (fed-cons w b s)) (counted-fed s (fed_byte w b) (counted-byte w b c))

pub stays-counted : StaysCounted
unfolding fresh_replay fresh_desk
stays-counted = record { at_first = record { start_most = omega arith; declined_most = omega arith; records_most = omega arith; fed_most = omega arith }; after = λ w s c. counted-fed s w c }
