-- After any calls at all the session agrees with the history: its bills, its store, and the numbers 3, 4 and 5. Assumes nothing.
use Prim.Native.Nat.{ℕ, ◌+◌, ◌-◌, ◌≤◌, ◌<◌}
use mathlib.Core.Path.{◌≡◌, refl, sym, ap, ap₂, ◌∙◌, subst}
use mathlib.Core.Bool.{Bool, true, false, cond, ◌||◌, true≢false}
use mathlib.Core.List.{List, [], ◌∷◌, ◌++◌, append-nil}
use native.Mathlib.Nat.{add-zero}
use native.Mathlib.Omega.{arith}
use lib.Dec.{eqb, lit≤}
use lib.ListN.{length, get_or, set, take, replicate, length-append, length-replicate, get_or-replicate, get_or-append}
use lib.Seq.{take_at, get_or_at}
use borrow.Author.Tests.{lt-ltb}
use Rattle.refusals.specs.Rules.{under, within, same}
use Rattle.numbers.specs.Promises.{AllBytes}
use Rattle.refusals.specs.Put.{over}
use Rattle.refusals.proofs.Rules.{holds-true, fails-false, by_cases, cond-true, cond-false, pick, either_way, Alike}
use Rattle.refusals.proofs.Writing.{take-over}
use Rattle.ccnet_frame.specs.Frame.{frame, judge_frame, body_of}
use Rattle.ccnet_class.specs.Class.{class_of, class_bytes}
use Rattle.ccnet_frame.specs.Judged.{Judged}
use Rattle.ccnet_frame.specs.Judged.{Good as Passed, Refused as Failed}
use Rattle.ccnet_class.specs.declared.Class.{Class}
use Rattle.ccnet_class.specs.declared.Class.TheVariants.{Ack, Nak, Illegal, State, Busy, Rejecting, Failing, Escrow, Stacked, Returned, Unknown, Table}
use Rattle.ccnet_frame.proofs.Frames.{frame-length, frame-judged, good-long, good-most, good-size, good-frame}
use Rattle.ledger.specs.Events.{Deed, asks, hears, waits, goes_on, closes, declined, done, is_frame, since}
use Rattle.ledger.specs.Line.{is_open, quiet_time, of_newest, accepted}
use Rattle.ledger.specs.Waiting.{some, waited}
use Rattle.ledger.specs.Calls.{told, seen, run, history_from}
use Rattle.ledger.proofs.Declining.{given-alike}
use Rattle.validator_rules.specs.Limits.{quiet, start_wait, frame_wait, store_size, command_limit, types}
use Rattle.validator_rules.specs.Line.{hearing, is_open as open_in, opened, closed, remembers, inside, waits as still, start_byte, address_byte, length_byte, further_byte, answer_byte, heard_in, heard, expired_in, expired, passed}
use Rattle.validator_rules.specs.Bills.{bills, booked_by, poll, remembered}
use Rattle.validator_rules.specs.Session.{ack, nak, LentAfter, StepAfter, step_after, refused_step, lent_after, HeardAfter, heard_after, after_step, after_byte, zeros, damaged_step, answered_step, class_step, class_to, found_in, found, judged_step, judge_step, acted, byte_acted, byte_refusals, tick_refusals, request_refusals, byte_step, tick_step, request_step, fresh_session, session_request, session_byte, session_tick}
use Rattle.validator_rules.specs.History.{last_code, from_start, between, answer_to, reported, counted, table_by, gathered as so_far, Carries, Other, Means, Says, Unfinished, starts, GoesOnBy, Truly, KeptByHistory, history_refusals, DeclinesByHistory}
use Rattle.validator_rules.specs.Calls.{Call, request, byte, tick, Request, Own, Ending, acknowledged, not_acknowledged, illegal_command, answered, damaged, silent, Known, Past, ending, returned, host, history}
use Rattle.validator_rules.specs.declared.bills.Bills.{Bills}
use Rattle.validator_rules.specs.declared.line.Phase.{Phase}
use Rattle.validator_rules.specs.declared.line.Phase.TheVariants.{Idle, Start, Inside}
use Rattle.validator_rules.specs.declared.line.Line.{Line}
use Rattle.validator_rules.specs.declared.line.Todo.TheVariants.{Nothing, CloseSilent}
use Rattle.validator_rules.specs.declared.line.Heard.TheVariants.{Skip, Keep, Judge}
use Rattle.validator_rules.specs.declared.line.Turn.{Turn}
use Rattle.validator_rules.specs.declared.line.Hearing.{Hearing}
use Rattle.validator_rules.specs.declared.session.Session.{Session}
use Rattle.validator_rules.proofs.Past.{second, third, start-next, start-more, store-more, bytes-more, nothing-counted, counted-most}
use Rattle.validator_rules.proofs.Telling.{replied, to-another, reply-to, plain-to, says-means, is-other, class-bytes}
use Rattle.validator_rules.proofs.Tabling.{no_table, asked-table, waited-table, heard-held, judged-full}
use Rattle.validator_rules.proofs.Exact.{exactly-when}
use Rattle.validator_rules.proofs.Booking.{Base, Fewer, answered-base, same_base}

-- ---- where the line stands

-- nothing open: the store is clean, and what is missing of the quiet time is left
record Resting (l : Line) (store : List ℕ) (h : Past) : Type 0 where
  shut : is_open h ≡ false
  clean : store ≡ zeros
  missing : l.left ≡ quiet - quiet_time h
  bound : (y : ℕ) → y < types → counted y h ≤ accepted h

-- a command open, and no 02h yet
record Awaiting (l : Line) (store : List ℕ) (h : Past) : Type 0 where
  live : is_open h ≡ true
  none : from_start (since h) ≡ []
  clean : store ≡ zeros
  nothing : l.gathered ≡ 0
  time : l.left ≡ start_wait - waited starts h
  bound : Fewer h

-- inside an answer: the store holds what has come since 02h, and then zeros
record Gathering (l : Line) (store : List ℕ) (h : Past) : Type 0 where
  live : is_open h ≡ true
  size : length (from_start (since h)) ≡ l.gathered
  filled : store ≡ from_start (since h) ++ replicate (store_size - l.gathered) 0
  least : 1 ≤ l.gathered
  less : l.gathered < l.length
  most : l.length ≤ store_size
  six : 6 ≤ l.length
  untold : l.gathered ≤ 2 → l.length ≡ store_size
  named : 2 ≤ l.gathered → get_or (from_start (since h)) 1 0 ≡ 0x03
  sized : 3 ≤ l.gathered → get_or (from_start (since h)) 2 0 ≡ l.length
  bytes : AllBytes (from_start (since h))
  time : l.left ≡ frame_wait - waited starts h
  bound : Fewer h

abbrev Stands : Phase → Line → List ℕ → Past → Type 0
Stands Idle l store h = Resting l store h
Stands Start l store h = Awaiting l store h
Stands Inside l store h = Gathering l store h

record Agrees (s : Session) (h : Past) : Type 0 where
  base : Base s.line s.bills h
  stands : Stands s.line.phase s.line s.store h
  truly : Truly h

-- the bill table is told apart, in proofs/Tabling.antt: whatever it is, the rest agrees
any-table : (s : Session) (t : List ℕ) (h : Past) → Agrees s h → Agrees (record { line = s.line; bills = s.bills; store = s.store; table = t }) h
any-table s t h k = record { base = k.base; stands = k.stands; truly = k.truly }

-- ---- a call that goes on, and one that closes

-- a call that completed nothing leaves the bounds
module _ (e : Known) (h : Past) (none : answer_to poll e h ≡ []) (ea : accepted (e ∷ h) ≡ accepted h) where
  fewer-still : Fewer h → Fewer (e ∷ h)
  fewer-still f y small = omega (arith, nothing-counted y e h none, ea, f y small)

  few-still : ((y : ℕ) → y < types → counted y h ≤ accepted h) → (y : ℕ) → y < types → counted y (e ∷ h) ≤ accepted (e ∷ h)
  few-still f y small = omega (arith, nothing-counted y e h none, ea, f y small)

-- a call that closed the command
record Ends (e : Known) (h : Past) : Type 0 where
  shut : is_open (e ∷ h) ≡ false
  quieted : quiet_time (e ∷ h) ≡ 0
  as_many : accepted (e ∷ h) ≡ accepted h
  as-coded : last_code (e ∷ h) ≡ last_code h

heard-ends : (h : Past) (b : ℕ) (put : List ℕ) (k : Ending) → Ends (done (hears b) put (closes k)) h
unfolding is_open quiet_time accepted of_newest
heard-ends h b put k = record { shut = refl; quieted = refl; as_many = refl; as-coded = refl }

waited-ends : (h : Past) (ms : ℕ) (put : List ℕ) (k : Ending) → Ends (done (waits ms) put (closes k)) h
unfolding is_open quiet_time accepted of_newest
waited-ends h ms put k = record { shut = refl; quieted = refl; as_many = refl; as-coded = refl }

module _ (l : Line) (bs : List Bills) (h : Past) (base : Base l bs h) (fewer : Fewer h) (e : Known) (ends : Ends e h) where
  -- the line rests, whatever is remembered
  rests : (m : Line) → m.left ≡ quiet → Resting m zeros (e ∷ h)
  rests m ml =
      record {
        shut = ends.shut;
        clean = refl;
        missing = omega (arith, ml, ends.quieted);
        bound = λ y small. omega (arith, counted-most y e h, fewer y small, ends.as_many);
      }

  closes-agrees : (t : List ℕ) → answer_to poll e h ≡ [] → Truly (e ∷ h) → Agrees (record { line = closed l; bills = bs; store = zeros; table = t }) (e ∷ h)
  closes-agrees t none truly =
      record {
        base = same_base l (closed l) bs h base refl refl refl e none ends.as_many ends.as-coded;
        stands = rests (closed l) refl;
        truly = truly;
      }

-- ---- bytes that are no good frame from address 03h, and will be none

module _ (code : ℕ) (f : List ℕ) where
  wrong-address : 2 ≤ length f → (get_or f 1 0 ≡ 0x03 → ⊥) → Says code damaged f
  wrong-address long n = (λ u. n (u.0 long), λ body is. n (ap (λ (x : List ℕ). get_or x 1 0) is.0 ∙ second 0x03 body))

  wrong-length : 3 ≤ length f → get_or f 2 0 < 6 → Says code damaged f
  wrong-length long short = (
    λ u. omega (arith, (u.1 long).0),
    λ body is. omega (arith, ap (λ (x : List ℕ). get_or x 2 0) is.0, third 0x03 body, is.1.0),
  )

  -- a whole one that is bad
  wrong-frame : 3 ≤ length f → get_or f 2 0 ≡ length f → (judge_frame f ≡ Passed 0x03 → ⊥) → Says code damaged f
  wrong-frame long sized bad = (
    λ u. omega (arith, sized, (u.1 long).1),
    λ body is. bad (ap judge_frame is.0 ∙ frame-judged 0x03 body (lit≤ tt, lit≤ tt) is.1.0),
  )

-- a command is not both a POLL and a GET BILL TABLE
not-both : (code : ℕ) → eqb code poll ≡ true → code ≡ 0x41 → ⊥
not-both code t e = omega (arith, (same code poll).tells.shown t, e)

-- ---- what is left by a step

-- the session agrees after a step that answers a byte or a tick
abbrev Next : Session → Past → Deed Request Own → LentAfter → Type 0
Next s h d w = Agrees (after_step s w s.table).session (told ending d (returned w.step.reply) w.room ∷ h)

module _ (s : Session) (h : Past) (k : Agrees s h) where
  abbrev l : Line
  l = s.line

  -- ---- closings

  module _ (fewer : Fewer h) (live : is_open h ≡ true) (r : List ℕ) where
    heard-damaged : (b : ℕ) → Says (last_code h) damaged (from_start (since h ++ (b ∷ []))) → Next s h (hears b) (damaged_step (closed l) r)
    unfolding damaged_step booked_by Truly
    heard-damaged b says = closes-agrees l s.bills h k.base fewer _ (heard-ends h b _ damaged) s.table refl ((live, says), (take-over nak r, k.truly))

    waited-damaged : (ms : ℕ) → (from_start (since h) ≡ [] → ⊥) → frame_wait ≤ waited starts h + ms → Next s h (waits ms) (damaged_step (closed l) r)
    unfolding damaged_step booked_by Truly
    waited-damaged ms some late = closes-agrees l s.bills h k.base fewer _ (waited-ends h ms _ damaged) s.table refl ((live, (some, late)), (take-over nak r, k.truly))

    waited-silent : (ms : ℕ) → from_start (since h) ≡ [] → start_wait ≤ waited starts h + ms → Next s h (waits ms) (acted CloseSilent (closed l) s.store r)
    unfolding booked_by Truly
    waited-silent ms none late = closes-agrees l s.bills h k.base fewer _ (waited-ends h ms _ silent) s.table refl ((live, (none, late)), (refl, k.truly))

    -- an answer that ends with b: a frame, and its body is what stands between
    module _ (b : ℕ) (body : List ℕ) (is : body ≡ between (from_start (since h ++ (b ∷ []))))
        (good : Carries (from_start (since h ++ (b ∷ []))) body) where
      abbrev class : Class
      class = class_to l.code body

      heard-answered : replied (class_of body) ≡ true → Next s h (hears b) (answered_step (closed l) class r)
      unfolding answered_step Truly
      heard-answered gets =
          let e = told ending (hears b) (returned (answered_step (closed l) class r).step.reply) (answered_step (closed l) class r).room in
          let ends = heard-ends h b _ (answered class) in
          let m = remembers (closed l) (remembered l.code l.last class) in
          record {
            base =
                answered-base l s.bills h k.base fewer e body
                (ap₂ (λ (c : ℕ) (x : List ℕ). cond (eqb c poll) x []) (sym k.base.code_is) (sym is))
                class (λ t. to-another body l.code (λ q. not-both l.code t q))
                m refl refl refl ends.as_many ends.as-coded;
            stands = rests l s.bills h k.base fewer e ends m refl;
            truly = (
              (
                live,
                subst (λ (x : List ℕ). Carries (from_start (since h ++ (b ∷ []))) x × (Other x × Means (last_code h) x class)) is
                    (good, (is-other body gets, subst (λ (n : ℕ). Means n body class) k.base.code_is (says-means body l.code gets))),
              ),
              (take-over ack r, k.truly),
            );
          }

      -- a body of a class other than unknown is the bytes of that class
      heard-says : (c : Class) → c ≡ class → replied c ≡ false → (c ≡ Unknown → ⊥) → Carries (from_start (since h ++ (b ∷ []))) (class_bytes c)
      heard-says c e none n =
          let of : c ≡ class_of body = e ∙ plain-to body l.code (sym (reply-to body l.code) ∙ ap replied (sym e) ∙ none) in
          subst (Carries (from_start (since h ++ (b ∷ [])))) (class-bytes body c of n) good

      gets : {c : Class} → c ≡ class → replied c ≡ true → replied (class_of body) ≡ true
      gets e t = sym (reply-to body l.code) ∙ ap replied (sym e) ∙ t

      heard-class : (c : Class) → c ≡ class → Next s h (hears b) (class_step c (closed l) r)
      unfolding booked_by Truly
      heard-class Ack e =
          closes-agrees l s.bills h k.base fewer _ (heard-ends h b _ acknowledged) s.table refl ((live, heard-says Ack e refl (λ u. let z : ◌≡◌ {A = ℕ} 0 1 = cc in omega arith)), (refl, k.truly))
      heard-class Nak e =
          closes-agrees l s.bills h k.base fewer _ (heard-ends h b _ not_acknowledged) s.table refl ((live, heard-says Nak e refl (λ u. let z : ◌≡◌ {A = ℕ} 0 1 = cc in omega arith)), (refl, k.truly))
      heard-class Illegal e =
          closes-agrees l s.bills h k.base fewer _ (heard-ends h b _ illegal_command) s.table refl ((live, heard-says Illegal e refl (λ u. let z : ◌≡◌ {A = ℕ} 0 1 = cc in omega arith)), (refl, k.truly))
      heard-class (State x) e = subst (λ (c : Class). Next s h (hears b) (answered_step (closed l) c r)) (sym e) (heard-answered (gets e refl))
      heard-class (Busy x) e = subst (λ (c : Class). Next s h (hears b) (answered_step (closed l) c r)) (sym e) (heard-answered (gets e refl))
      heard-class (Rejecting x) e = subst (λ (c : Class). Next s h (hears b) (answered_step (closed l) c r)) (sym e) (heard-answered (gets e refl))
      heard-class (Failing x) e = subst (λ (c : Class). Next s h (hears b) (answered_step (closed l) c r)) (sym e) (heard-answered (gets e refl))
      heard-class (Escrow x) e = subst (λ (c : Class). Next s h (hears b) (answered_step (closed l) c r)) (sym e) (heard-answered (gets e refl))
      heard-class (Stacked x) e = subst (λ (c : Class). Next s h (hears b) (answered_step (closed l) c r)) (sym e) (heard-answered (gets e refl))
      heard-class (Returned x) e = subst (λ (c : Class). Next s h (hears b) (answered_step (closed l) c r)) (sym e) (heard-answered (gets e refl))
      heard-class Table e = subst (λ (c : Class). Next s h (hears b) (answered_step (closed l) c r)) (sym e) (heard-answered (gets e refl))
      heard-class Unknown e = subst (λ (c : Class). Next s h (hears b) (answered_step (closed l) c r)) (sym e) (heard-answered (gets e refl))

    -- a full frame, good or bad
    heard-full : (b : ℕ) (f : List ℕ) → f ≡ from_start (since h ++ (b ∷ [])) → get_or f 1 0 ≡ 0x03 → AllBytes f
        → 3 ≤ length f → get_or f 2 0 ≡ length f → Next s h (hears b) (judged_step (found l.code f) (closed l) r)
    unfolding found between
    heard-full b f is named bytes long sized = by (judge_frame f) refl
      where
        by : (j : Judged) → judge_frame f ≡ j → Next s h (hears b) (judged_step (found_in j l.code f) (closed l) r)
        by (Passed a) e =
            let good = good-frame f a e bytes in
            let three : a ≡ 0x03 = sym (second a (body_of f)) ∙ ap (λ (x : List ℕ). get_or x 1 0) good ∙ named in
            heard-class b (body_of f) (rw e (ap between is))
            (sym is ∙ sym good ∙ ap (λ (n : ℕ). frame n (body_of f)) three, within-limits)
            (class_to l.code (body_of f)) refl
          where
            within-limits : (within 1 250 (length (body_of f))).holds
            within-limits = (omega (arith, good-size f a e, good-long f a e), omega (arith, good-size f a e, good-most f a e bytes))
        by (Failed fault) e =
            heard-damaged b
            (subst (Says (last_code h) damaged) is
            (wrong-frame (last_code h) f long sized (λ u. let v : Passed 0x03 ≡ Failed fault = sym u ∙ e in let z : ◌≡◌ {A = ℕ} 0 1 = cc in omega arith)))

  -- ---- a byte that closes nothing

  module _ (b : ℕ) (small : b < 256) where
    -- the call, as a caller knows it
    abbrev came : Known
    came = done (hears b) [] goes_on

    came-base : (m : Line) → m.accepted ≡ l.accepted → m.code ≡ l.code → m.last ≡ l.last → Base m s.bills (came ∷ h)
    unfolding accepted of_newest
    came-base m ma mc ml = same_base l m s.bills h k.base ma mc ml came refl refl refl

    came-open : is_open (came ∷ h) ≡ is_open h
    unfolding is_open
    came-open = refl

    came-fewer : Fewer h → Fewer (came ∷ h)
    unfolding accepted
    came-fewer f = fewer-still came h refl refl f

    came-truly : (is_open h ≡ true → Unfinished (from_start (since h ++ (b ∷ [])))) → Truly (came ∷ h)
    unfolding Truly
    came-truly due = (due, (refl, k.truly))

    -- the wait goes on, but for 02h
    came-waited : (n : ℕ) → length (from_start (since h ++ (b ∷ []))) ≡ n → waited starts (came ∷ h) ≡ cond (eqb n 1) 0 (waited starts h)
    unfolding waited
    came-waited n e = rw (e, add-zero)

    came-since : since (came ∷ h) ≡ since h ++ (b ∷ [])
    unfolding since is_frame
    came-since = refl

    -- with nothing open
    came-resting : (left : ℕ) → left ≡ quiet → Resting l s.store h → Resting (still l left) s.store (came ∷ h)
    unfolding is_open quiet_time accepted
    came-resting left e st =
        record { shut = st.shut; clean = st.clean; missing = e; bound = few-still came h refl refl st.bound }

    came-none : Awaiting l s.store h → (b ≡ 0x02 → ⊥) → from_start (since h ++ (b ∷ [])) ≡ []
    came-none st n = start-next (since h) b st.none ∙ cond-false (b ∷ []) [] (fails-false (same b 0x02) n)

    came-first : Awaiting l s.store h → b ≡ 0x02 → from_start (since h ++ (b ∷ [])) ≡ b ∷ []
    came-first st e = start-next (since h) b st.none ∙ cond-true (b ∷ []) [] (holds-true (same b 0x02) e)

    -- no 02h yet, and this is none
    came-skipped : Awaiting l s.store h → (b ≡ 0x02 → ⊥) → Awaiting (still l l.left) s.store (came ∷ h)
    came-skipped st n =
        record {
          live = came-open ∙ st.live;
          none = ap from_start came-since ∙ came-none st n;
          clean = st.clean;
          nothing = st.nothing;
          time = st.time ∙ ap (λ (t : ℕ). start_wait - t) (sym (came-waited 0 (ap length (came-none st n))));
          bound = came-fewer st.bound;
        }

    -- 02h
    came-started : Awaiting l s.store h → b ≡ 0x02
        → Gathering (inside l frame_wait 1 store_size) (set s.store l.gathered b) (came ∷ h)
    came-started st e =
        let f : from_start (since (came ∷ h)) ≡ b ∷ [] =
        ap from_start came-since ∙ came-first st e in
        record {
          live = came-open ∙ st.live;
          size = ap length f;
          filled =
              ap₂ (λ (x : List ℕ) (n : ℕ). set x n b) st.clean st.nothing
              ∙ store-more [] b store_size (lit≤ tt)
              ∙ ap (λ (g : List ℕ). g ++ replicate (store_size - 1) 0) (sym f);
          least = lit≤ tt;
          less = lit≤ tt;
          most = lit≤ tt;
          six = lit≤ tt;
          untold = λ u. refl;
          named = λ u. absurd (omega arith);
          sized = λ u. absurd (omega arith);
          bytes = subst AllBytes (sym f) (bytes-more [] b (λ i. lit≤ tt) small);
          time = ap (λ (t : ℕ). frame_wait - t) (sym (came-waited 1 (ap length (came-first st e))));
          bound = came-fewer st.bound;
        }

    module _ (st : Gathering l s.store h) where
      abbrev before : List ℕ
      before = from_start (since h)

      came_from : from_start (since h ++ (b ∷ [])) ≡ before ++ (b ∷ [])
      came_from = start-more (since h) (b ∷ []) (omega (arith, st.size, st.least))

      came-size : length (before ++ (b ∷ [])) ≡ l.gathered + 1
      came-size = length-append before (b ∷ []) ∙ ap (λ (n : ℕ). n + 1) st.size

      came-filled : set s.store l.gathered b ≡ (before ++ (b ∷ [])) ++ replicate (store_size - l.gathered - 1) 0
      came-filled =
          ap₂ (λ (x : List ℕ) (n : ℕ). set x n b) st.filled (sym st.size)
          ∙ store-more before b (store_size - l.gathered) (omega (arith, st.less, st.most))

      came-bytes : AllBytes (before ++ (b ∷ []))
      came-bytes = bytes-more before b st.bytes small

      -- the second byte is the address
      came-named : (l.gathered ≡ 1 → b ≡ 0x03) → 1 ≤ l.gathered → get_or (before ++ (b ∷ [])) 1 0 ≡ 0x03
      came-named address h =
          by_cases (same l.gathered 1)
          (λ g. get_or_at before b [] 0 1 (st.size ∙ g) ∙ address g)
          (λ n. get_or-append before (b ∷ []) 0 1 (omega (arith, n, st.size)) ∙ st.named (omega (arith, n)))

      -- one byte more of an answer
      came-kept : (left n want : ℕ) → left ≡ l.left → n ≡ l.gathered + 1 → n < want → want ≤ store_size → (n ≤ 2 → want ≡ store_size) → (n ≡ 2 → b ≡ 0x03)
          → (3 ≤ n → get_or (before ++ (b ∷ [])) 2 0 ≡ want) → 6 ≤ want → Gathering (inside l left n want) (set s.store l.gathered b) (came ∷ h)
      came-kept left n want rest e less most untold address sized six =
          let f : from_start (since (came ∷ h)) ≡ before ++ (b ∷ []) = ap from_start came-since ∙ came_from in
          let m : store_size - l.gathered - 1 ≡ store_size - n = omega arith in
          record {
            live = came-open ∙ st.live;
            size = ap length f ∙ came-size ∙ sym e;
            filled = came-filled ∙ ap₂ (λ (g : List ℕ) (j : ℕ). g ++ replicate j 0) (sym f) m;
            least = omega arith;
            less = less;
            most = most;
            six = six;
            untold = untold;
            named = λ u. ap (λ (x : List ℕ). get_or x 1 0) f ∙ came-named (λ g. address (omega arith)) (omega arith);
            sized = λ u. ap (λ (x : List ℕ). get_or x 2 0) f ∙ sized u;
            bytes = subst AllBytes (sym f) came-bytes;
            time = rest ∙ st.time ∙ ap (λ (t : ℕ). frame_wait - t) (sym (came-waited n (ap length came_from ∙ came-size ∙ sym e) ∙ cond-false 0 (waited starts h) (fails-false (same n 1) (λ z. omega (arith, z, e, st.least)))));
            bound = came-fewer st.bound;
          }

      -- the last one: what is judged is what came since 02h
      came-full : l.length ≡ l.gathered + 1 → take l.length (set s.store l.gathered b) ≡ from_start (since h ++ (b ∷ []))
      came-full e =
          ap (take l.length) came-filled
          ∙ take_at (before ++ (b ∷ [])) (replicate (store_size - l.gathered - 1) 0) l.length (came-size ∙ sym e)
          ∙ sym came_from

    -- ---- a byte, by where the line stands

    module _ (r : List ℕ) where
      -- what a turn of the line leads to
      abbrev After : Hearing → Type 0
      After t = Next s h (hears b) (byte_acted t.heard t.line l.length s.store s.table l.gathered b r).lent

      after-idle : (left : ℕ) → left ≡ quiet → l.phase ≡ Idle → Resting l s.store h → After (hearing (still l left) Skip)
      unfolding booked_by
      after-idle left e p st =
          record {
            base = came-base (still l left) refl refl refl;
            stands = subst (λ (q : Phase). Stands q (still l left) s.store (came ∷ h)) (sym p) (came-resting left e st);
            truly = came-truly (λ o. absurd (true≢false (sym o ∙ st.shut)));
          }

      after-start : l.phase ≡ Start → Awaiting l s.store h → After (start_byte l b)
      unfolding start_byte booked_by
      after-start p st =
          pick After (same b 0x02) _ _
          (λ e. record { base = came-base (inside l frame_wait 1 store_size) refl refl refl; stands = came-started st e; truly = came-truly (λ o. short 1 (ap length (came-first st e)) (lit≤ tt)) })
          (λ n.
          record {
            base = came-base (still l l.left) refl refl refl;
            stands = subst (λ (q : Phase). Stands q (still l l.left) s.store (came ∷ h)) (sym p) (came-skipped st n);
            truly = came-truly (λ o. short 0 (ap length (came-none st n)) (lit≤ tt));
          })
        where
          short : (n : ℕ) → length (from_start (since h ++ (b ∷ []))) ≡ n → n ≤ 1 → Unfinished (from_start (since h ++ (b ∷ [])))
          short n e m = (λ u. absurd (omega (arith, u, e, m)), λ u. absurd (omega (arith, u, e, m)))

      module _ (st : Gathering l s.store h) where
        kept : (left n want : ℕ) → left ≡ l.left → n ≡ l.gathered + 1 → n < want → want ≤ store_size → (n ≤ 2 → want ≡ store_size) → (n ≡ 2 → b ≡ 0x03)
            → (3 ≤ n → get_or (before st ++ (b ∷ [])) 2 0 ≡ want) → 6 ≤ want → Next s h (hears b) (byte_acted Keep (inside l left n want) l.length s.store s.table l.gathered b r).lent
        unfolding booked_by
        kept left n want rest e less most untold address sized six =
            record {
              base = came-base (inside l left n want) refl refl refl;
              stands = came-kept st left n want rest e less most untold address sized six;
              truly = came-truly (λ o. subst Unfinished (sym (came_from st)) (
                λ u. came-named st (λ g. address (omega (arith, e, g))) st.least,
                λ u.
                    let v = sized (omega (arith, u, e, came-size st)) in
                    (omega (arith, v, six), omega (arith, v, e, less, came-size st)),
              ));
            }

        after-address : l.gathered ≡ 1 → After (address_byte l b)
        unfolding address_byte
        after-address g =
            pick After (same b _) _ _
            (λ e. kept _ _ _ (omega arith) (omega arith) (omega (arith, st.untold (omega arith))) st.most (λ u. st.untold (omega arith)) (λ u. omega (arith, e)) (λ u. absurd (omega arith)) st.six)
            (λ n.
            heard-damaged st.bound st.live r b
            (subst (Says (last_code h) damaged) (sym (came_from st))
            (wrong-address (last_code h) (before st ++ (b ∷ [])) (omega (arith, came-size st)) (λ f. let is = sym (get_or_at (before st) b [] 0 1 (st.size ∙ g)) ∙ f in n (omega (arith, is))))))

        after-length : l.gathered ≡ 2 → After (length_byte l b)
        unfolding length_byte
        after-length g =
            pick After (under b 6) _ _
            (λ e.
            heard-damaged st.bound st.live r b
            (subst (Says (last_code h) damaged) (sym (came_from st))
            (wrong-length (last_code h) (before st ++ (b ∷ [])) (omega (arith, came-size st)) (omega (arith, e, sizing)))))
            (λ n. kept _ _ _ (omega arith) (omega arith) (omega (arith, least n)) (omega arith) (λ u. absurd (omega arith)) (λ u. absurd (omega arith)) (λ u. omega (arith, sizing)) (omega (arith, least n)))
          where
            sizing : get_or (before st ++ (b ∷ [])) 2 0 ≡ b
            sizing = get_or_at (before st) b [] 0 2 (st.size ∙ g)

            least : (b < 6 → ⊥) → 6 ≤ b
            least n = omega arith

        after-further : (l.gathered ≡ 1 → ⊥) → (l.gathered ≡ 2 → ⊥) → After (further_byte l)
        unfolding further_byte judge_step
        after-further g f =
            pick After (under (l.gathered + 1) l.length) _ _
            (λ e. kept _ _ _ (omega arith) (omega arith) e st.most (λ u. absurd (omega (arith, st.least, g, f))) (λ u. absurd (omega (arith, g))) (λ u. sizing) st.six)
            (λ n.
            let whole = came-full st (omega (arith, st.less, n)) in
            let is = whole ∙ came_from st in
            heard-full st.bound st.live r b (take l.length (set s.store l.gathered b)) whole
            (ap (λ (x : List ℕ). get_or x 1 0) is ∙ came-named st (λ q. absurd (g q)) st.least)
            (subst AllBytes (sym is) (came-bytes st))
            (omega (arith, st.least, g, f, ap length is, came-size st))
            (ap (λ (x : List ℕ). get_or x 2 0) is ∙ sizing ∙ omega (arith, st.less, n, ap length is, came-size st)))
          where
            sizing : get_or (before st ++ (b ∷ [])) 2 0 ≡ l.length
            sizing = get_or-append (before st) (b ∷ []) 0 2 (omega (arith, st.least, st.size, g, f)) ∙ st.sized (omega (arith, st.least, g, f))

        after-inside : After (answer_byte l b)
        unfolding answer_byte
        after-inside =
            pick After (same l.gathered 1) _ _ after-address
            (λ n. pick After (same l.gathered 2) _ _ after-length (λ m. after-further n m))

      after-heard : After (heard l b)
      unfolding heard
      after-heard = by l.phase refl k.stands
        where
          by : (p : Phase) → l.phase ≡ p → Stands p l s.store h → After (heard_in p l b)
          by Idle e st = after-idle _ (omega arith) e st
          by Start e st = after-start e st
          by Inside e st = after-inside st

  -- ---- a tick

  module _ (ms : ℕ) where
    abbrev went : Known
    went = done (waits ms) [] goes_on

    went-base : (m : Line) → m.accepted ≡ l.accepted → m.code ≡ l.code → m.last ≡ l.last → Base m s.bills (went ∷ h)
    unfolding accepted of_newest
    went-base m ma mc ml = same_base l m s.bills h k.base ma mc ml went refl refl refl

    went-since : since (went ∷ h) ≡ since h
    unfolding since is_frame
    went-since = append-nil (since h)

    went-truly : (is_open h ≡ true → GoesOnBy (waits ms) h) → Truly (went ∷ h)
    unfolding Truly
    went-truly due = (due, (refl, k.truly))

    went-waited : waited starts (went ∷ h) ≡ waited starts h + ms
    unfolding waited
    went-waited = refl

    went-open : is_open (went ∷ h) ≡ is_open h
    unfolding is_open
    went-open = refl

    went-fewer : Fewer h → Fewer (went ∷ h)
    unfolding accepted
    went-fewer f = fewer-still went h refl refl f

    -- the wait goes on, or the quiet time is complete
    went-stands : (left : ℕ) → (left ≡ l.left - ms) → (p : Phase) → Stands p l s.store h → Stands p (still l left) s.store (went ∷ h)
    unfolding is_open quiet_time accepted
    went-stands left e Idle st =
        record { shut = st.shut; clean = st.clean; missing = omega (arith, st.missing); bound = few-still went h refl refl st.bound }
    went-stands left e Start st =
        record {
          live = went-open ∙ st.live;
          none = ap from_start went-since ∙ st.none;
          clean = st.clean;
          nothing = st.nothing;
          time = omega (arith, e, st.time, went-waited);
          bound = went-fewer st.bound;
        }
    went-stands left e Inside st =
        record {
          live = went-open ∙ st.live;
          size = ap (λ (x : List ℕ). length (from_start x)) went-since ∙ st.size;
          filled = st.filled ∙ ap (λ (x : List ℕ). from_start x ++ replicate (store_size - l.gathered) 0) (sym went-since);
          least = st.least;
          less = st.less;
          most = st.most;
          six = st.six;
          untold = st.untold;
          named = λ u. ap (λ (x : List ℕ). get_or (from_start x) 1 0) went-since ∙ st.named u;
          sized = λ u. ap (λ (x : List ℕ). get_or (from_start x) 2 0) went-since ∙ st.sized u;
          bytes = subst (λ (x : List ℕ). AllBytes (from_start x)) (sym went-since) st.bytes;
          time = omega (arith, e, st.time, went-waited);
          bound = went-fewer st.bound;
        }

    module _ (r : List ℕ) where
      abbrev Passed-by : Turn → Type 0
      Passed-by t = Next s h (waits ms) (acted t.todo t.line s.store r)

      goes : (left : ℕ) → left ≡ l.left - ms → (is_open h ≡ true → GoesOnBy (waits ms) h) → Next s h (waits ms) (acted Nothing (still l left) s.store r)
      unfolding booked_by
      goes left e due =
          record {
            base = went-base (still l left) refl refl refl;
            stands = went-stands left e l.phase k.stands;
            truly = went-truly due;
          }

      -- the wait is not over
      in-time : ms < l.left → (p : Phase) → Stands p l s.store h → is_open h ≡ true → GoesOnBy (waits ms) h
      in-time e Idle st o = absurd (true≢false (sym o ∙ st.shut))
      in-time e Start st o = (λ z. omega (arith, e, st.time), λ z. absurd (z st.none))
      in-time e Inside st o = (λ z. absurd (omega (arith, ap length z, st.size, st.least)), λ z. omega (arith, e, st.time))

      after-expired : l.left ≤ ms → Passed-by (expired l)
      unfolding expired
      after-expired e = by l.phase refl k.stands
        where
          by : (p : Phase) → l.phase ≡ p → Stands p l s.store h → Passed-by (expired_in p l)
          by Idle q st = goes 0 (omega arith) (λ o. absurd (true≢false (sym o ∙ st.shut)))
          by Start q st = waited-silent st.bound st.live r ms st.none (omega (arith, e, st.time))
          by Inside q st = waited-damaged st.bound st.live r ms (λ z. omega (arith, ap length z, st.size, st.least)) (omega (arith, e, st.time))

      after-passed : Passed-by (passed l ms)
      unfolding passed
      after-passed = pick Passed-by (under ms l.left) _ _ (λ e. goes (l.left - ms) refl (in-time e l.phase k.stands)) (λ n. after-expired (omega (arith, n)))

  -- ---- a request

  module _ (code : ℕ) (given r : List ℕ) where
    abbrev sent-frame : List ℕ
    sent-frame = frame 0x03 (code ∷ given)

    abbrev wrote : Known
    wrote = done (asks (record { code = code; given = given })) (take (length sent-frame) (over sent-frame r)) goes_on

    wrote-since : since (wrote ∷ h) ≡ []
    unfolding since is_frame
    wrote-since =
        rw (take-over sent-frame r) (rw (lt-ltb 1 (length sent-frame) (omega (arith, frame-length 0x03 (code ∷ given)))))

    -- its wait begins with it
    wrote-waited : waited starts (wrote ∷ h) ≡ 0
    unfolding waited
    wrote-waited = go (some (take (length sent-frame) (over sent-frame r)))
      where
        go : (t : Bool) → cond (t || true) 0 (waited starts h + 0) ≡ 0
        go true = refl
        go false = refl

    -- nothing was open
    resting : (p : Phase) → (open_in p ≡ true → ⊥) → Stands p l s.store h → Resting l s.store h
    resting Idle n st = st
    resting Start n st = absurd (n refl)
    resting Inside n st = absurd (n refl)

    wrote-agrees : Resting l s.store h → l.accepted < command_limit
        → Agrees (record { line = opened l code (l.accepted + 1); bills = s.bills; store = s.store; table = s.table }) (wrote ∷ h)
    unfolding is_open accepted of_newest reported counted from_start Truly waited
    wrote-agrees st f =
        record {
          base =
              record {
                accepted-is = ap (λ (n : ℕ). n + 1) k.base.accepted-is;
                few = omega arith;
                code_is = refl;
                last-is = k.base.last-is;
                many = k.base.many;
                counts = k.base.counts;
              };
          stands =
              record {
                live = refl;
                none = ap from_start wrote-since;
                clean = st.clean;
                nothing = refl;
                time = sym (ap (λ (t : ℕ). start_wait - t) wrote-waited);
                bound = λ y small. omega (arith, st.bound y small);
              };
          truly = (λ o. tt, (take-over sent-frame r, k.truly));
        }

-- ---- the calls

module _ (s : Session) (h : Past) (k : Agrees s h) where
  -- a call that was declined
  declined-stands : (p : Phase) → Stands p s.line s.store h → Stands p s.line s.store (declined ∷ h)
  unfolding is_open quiet_time accepted since counted waited
  declined-stands Idle st = record { shut = st.shut; clean = st.clean; missing = st.missing; bound = st.bound }
  declined-stands Start st =
      record { live = st.live; none = st.none; clean = st.clean; nothing = st.nothing; time = st.time; bound = st.bound }
  declined-stands Inside st =
      record {
        live = st.live;
        size = st.size;
        filled = st.filled;
        least = st.least;
        less = st.less;
        most = st.most;
        six = st.six;
        untold = st.untold;
        named = st.named;
        sized = st.sized;
        bytes = st.bytes;
        time = st.time;
        bound = st.bound;
      }

  declined-agrees : Agrees s (declined ∷ h)
  unfolding accepted of_newest reported counted class_of Truly
  declined-agrees =
      record {
        base =
            record {
              accepted-is = k.base.accepted-is;
              few = k.base.few;
              code_is = k.base.code_is;
              last-is = k.base.last-is;
              many = k.base.many;
              counts = k.base.counts;
            };
        stands = declined-stands s.line.phase k.stands;
        truly = k.truly;
      }

  request-agrees : (code : ℕ) (given r : List ℕ)
      → Agrees (session_request s code given r).session (seen host s (request code given r) ∷ h)
  unfolding session_request request_step request_refusals
  request-agrees code given r =
      either_way
      (λ (w : StepAfter).
      Agrees (record { line = w.step.line; bills = s.bills; store = s.store; table = s.table })
      (told ending (asks (record { code = code; given = given })) (returned w.step.reply) w.room ∷ h))
      (request_refusals s.line code given r) (λ why. step_after (refused_step s.line why) r) _
      (λ why. declined-agrees)
      (λ n.
      wrote-agrees s h k code given r (resting s h k code given r s.line.phase n.1.1.0 k.stands) (omega (arith, n.1.1.1.1.0)))

  byte-agrees : (b : ℕ) (small : b < 256) (r : List ℕ) → Agrees (session_byte s b r).session (seen host s (byte b small r) ∷ h)
  unfolding session_byte byte_step booked_by
  byte-agrees b small r =
      either_way
      (λ (w : HeardAfter). Agrees (after_byte s w).session (told ending (hears b) (returned w.lent.step.reply) w.lent.room ∷ h))
      (byte_refusals r) (λ why. heard_after (lent_after (refused_step s.line why) s.store r) s.table) _
      (λ why. declined-agrees)
      (λ n. any-table _ _ _ (after-heard s h k b small r))

  tick-agrees : (ms : ℕ) (r : List ℕ) → Agrees (session_tick s ms r).session (seen host s (tick ms r) ∷ h)
  unfolding session_tick tick_step booked_by
  tick-agrees ms r =
      either_way (Next s h (waits ms)) (tick_refusals ms r) (λ why. lent_after (refused_step s.line why) s.store r) _
      (λ why. declined-agrees)
      (λ n. after-passed s h k ms r)

called-agrees : (s : Session) (h : Past) (c : Call) → Agrees s h → Agrees (host.called s c).session (seen host s c ∷ h)
called-agrees s h (request code given r) k = request-agrees s h k code given r
called-agrees s h (byte b small r) k = byte-agrees s h k b small r
called-agrees s h (tick ms r) k = tick-agrees s h k ms r

fresh-agrees : Agrees fresh_session []
unfolding fresh_session is_open quiet_time accepted of_newest reported counted class_of Truly
fresh-agrees =
    record {
      base =
          record {
            accepted-is = refl;
            few = lit≤ tt;
            code_is = refl;
            last-is = refl;
            many = length-replicate {A = Bills} types (bills 0);
            counts = λ y small. ap (λ (x : Bills). x.0) (get_or-replicate types y (bills 0) (bills 0) small);
          };
      stands = record { shut = refl; clean = refl; missing = refl; bound = λ y small. lit≤ tt };
      truly = tt;
    }

-- after any calls at all
run-agrees : (s : Session) (h : Past) (cs : List Call) → Agrees s h → Agrees (run host s cs) (history_from host s h cs)
unfolding run history_from
run-agrees s h [] k = k
run-agrees s h (c ∷ cs) k = run-agrees (host.called s c).session (seen host s c ∷ h) cs (called-agrees s h c k)

always-agrees : (cs : List Call) → Agrees (run host fresh_session cs) (history cs)
always-agrees cs = run-agrees fresh_session [] cs fresh-agrees

-- ---- the bill table

-- the frame that is judged is what came since 02h
judged-whole : (s : Session) (h : Past) → Agrees s h → (b : ℕ) → b < 256 → (heard s.line b).heard ≡ Judge
    → take s.line.length (set s.store s.line.gathered b) ≡ from_start (since h ++ (b ∷ []))
judged-whole s h k b small e =
    let full = judged-full s.line b e in
    by s.line.phase full.0 k.stands full.1
  where
    by : (p : Phase) → p ≡ Inside → Stands p s.line s.store h → (s.line.gathered + 1 < s.line.length → ⊥)
        → take s.line.length (set s.store s.line.gathered b) ≡ from_start (since h ++ (b ∷ []))
    by Idle q st n = absurd (let z : ◌≡◌ {A = ℕ} 0 1 = cc in omega arith)
    by Start q st n = absurd (let z : ◌≡◌ {A = ℕ} 0 1 = cc in omega arith)
    by Inside q st n = came-full s h k b small st (omega (arith, n, st.less))

byte-tabled : (s : Session) (h : Past) → Agrees s h → s.table ≡ table_by h → (b : ℕ) (small : b < 256) (r : List ℕ)
    → (session_byte s b r).session.table ≡ table_by (seen host s (byte b small r) ∷ h)
unfolding session_byte byte_step
byte-tabled s h k held b small r =
    either_way
    (λ (w : HeardAfter). Truly (told ending (hears b) (returned w.lent.step.reply) w.lent.room ∷ h)
    → w.table ≡ table_by (told ending (hears b) (returned w.lent.step.reply) w.lent.room ∷ h))
    (byte_refusals r) (λ why. heard_after (lent_after (refused_step s.line why) s.store r) s.table) _
    (λ why t. held ∙ sym (no_table _ h refl))
    (λ none t. heard-held (heard s.line b).line h b s.table held r (heard s.line b).heard s.line.length s.store s.line.gathered (judged-whole s h k b small) t)
    (byte-agrees s h k b small r).truly

called-tabled : (s : Session) (h : Past) (c : Call) → Agrees s h → s.table ≡ table_by h → (host.called s c).session.table ≡ table_by (seen host s c ∷ h)
unfolding session_request session_tick
called-tabled s h (request code given r) k held = held ∙ sym (asked-table (record { code = code; given = given }) (returned (session_request s code given r).reply) (session_request s code given r).room h)
called-tabled s h (byte b small r) k held = byte-tabled s h k held b small r
called-tabled s h (tick ms r) k held = held ∙ sym (waited-table ms (returned (session_tick s ms r).reply) (session_tick s ms r).room h)

run-tabled : (s : Session) (h : Past) (cs : List Call) → Agrees s h → s.table ≡ table_by h → (run host s cs).table ≡ table_by (history_from host s h cs)
unfolding run history_from
run-tabled s h [] k held = held
run-tabled s h (c ∷ cs) k held =
    run-tabled (host.called s c).session (seen host s c ∷ h) cs (called-agrees s h c k) (called-tabled s h c k held)

fresh-tabled : fresh_session.table ≡ table_by []
unfolding fresh_session table_by
fresh-tabled = refl

-- ---- what is promised

-- no more bills of a type than commands accepted
few-is : (l : Line) (store : List ℕ) (h : Past) (p : Phase) → Stands p l store h → (y : ℕ) → y < types → counted y h ≤ accepted h
few-is l store h Idle st y small = st.bound y small
few-is l store h Start st y small = omega (arith, st.bound y small)
few-is l store h Inside st y small = omega (arith, st.bound y small)

-- the store, by where the line stands
store_is : (l : Line) (store : List ℕ) (h : Past) (p : Phase) → Stands p l store h
    → store ≡ so_far h ++ replicate (store_size - length (so_far h)) 0
store_is l store h Idle st = rw st.shut st.clean
store_is l store h Start st = rw st.live (rw st.none st.clean)
store_is l store h Inside st = rw st.live (rw st.size st.filled)

pub kept-by-history : KeptByHistory
kept-by-history =
    record {
      bills = λ cs. (always-agrees cs).base.counts;
      few = λ cs y small.
          let s = run host fresh_session cs in
          let k = always-agrees cs in
          omega (
            arith,
            few-is s.line s.store (history cs) s.line.phase k.stands y small,
            k.base.accepted-is,
            k.base.few,
          );
      table = λ cs. run-tabled fresh_session [] cs fresh-agrees fresh-tabled;
      store = λ cs.
          let s = run host fresh_session cs in
          store_is s.line s.store (history cs) s.line.phase (always-agrees cs).stands;
      closings = λ cs. (always-agrees cs).truly;
    }

-- ---- the numbers of a request

-- whether a command is open
phase-told : (l : Line) (store : List ℕ) (h : Past) (p : Phase) → Stands p l store h → open_in p ≡ is_open h
phase-told l store h Idle st = sym st.shut
phase-told l store h Start st = sym st.live
phase-told l store h Inside st = sym st.live

-- with nothing open, how much quiet is missing
missing-told : (l : Line) (store : List ℕ) (h : Past) (p : Phase) → Stands p l store h → (is_open h ≡ true → ⊥) → l.left ≡ quiet - quiet_time h
missing-told l store h Idle st n = st.missing
missing-told l store h Start st n = absurd (n st.live)
missing-told l store h Inside st n = absurd (n st.live)

module _ (s : Session) (h : Past) (k : Agrees s h) (code : ℕ) (given r : List ℕ) where
  refusals-alike : Alike (request_refusals s.line code given r) (history_refusals h code given r)
  unfolding request_refusals
  refusals-alike =
      let o = phase-told s.line s.store h s.line.phase k.stands in
      let m = missing-told s.line s.store h s.line.phase k.stands in (
        refl,
        (
          (λ f. f, λ f. f),
          λ n0. (
            refl,
            (
              (λ f. f, λ f. f),
              λ n1. (
                refl,
                (
                  (λ f. sym o ∙ f, λ f. o ∙ f),
                  λ shut.
                      let left = m (λ f. shut (o ∙ f)) in (
                        refl,
                        (
                          (λ f. omega (arith, left), λ f. omega (arith, left)),
                          λ n3.
                              (refl, ((λ f. omega (arith, k.base.accepted-is), λ f. omega (arith, k.base.accepted-is)), λ n4. tt)),
                        ),
                      ),
                ),
              ),
            ),
          ),
        ),
      )

pub declines-by-history : DeclinesByHistory
declines-by-history cs code given r =
    let s = run host fresh_session cs in
    given-alike (exactly-when.request s code given r) (refusals-alike s (history cs) (always-agrees cs) code given r) refl

-- ---- where the line stands, for whoever tells it

-- what is left of the wait that goes on, and what has come of an answer
abbrev pub Placed : Phase → Line → Past → Type 0
Placed Idle l h = (is_open h ≡ false) × (l.left ≡ quiet - quiet_time h)
Placed Start l h = (is_open h ≡ true) × (from_start (since h) ≡ []) × (l.left ≡ start_wait - waited starts h)
Placed Inside l h =
    (is_open h ≡ true) × (length (from_start (since h)) ≡ l.gathered) × (1 ≤ l.gathered)
    × (3 ≤ l.gathered → get_or (from_start (since h)) 2 0 ≡ l.length) × (l.left ≡ frame_wait - waited starts h)

placed : (l : Line) (store : List ℕ) (h : Past) (p : Phase) → Stands p l store h → Placed p l h
placed l store h Idle st = (st.shut, st.missing)
placed l store h Start st = (st.live, st.none, st.time)
placed l store h Inside st = (st.live, st.size, st.least, st.sized, st.time)

pub always-placed : (cs : List Call) → Placed (run host fresh_session cs).line.phase (run host fresh_session cs).line (history cs)
always-placed cs =
    let s = run host fresh_session cs in
    placed s.line s.store (history cs) s.line.phase (always-agrees cs).stands
