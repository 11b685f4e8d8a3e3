-- The device stands where its history says, and answers, at every call, what is due by that history: what it puts, what it tells, and the numbers. Assumes nothing.
use Rattle.std.specs.Prelude.{Ok}
use Prim.Native.Nat.{ℕ, ◌+◌, ◌-◌, ◌≤◌, ◌<◌}
use mathlib.Core.Path.{◌≡◌, refl, sym, ap, ◌∙◌, subst}
use mathlib.Core.Bool.{true, false, cond, true≢false}
use mathlib.Core.List.{List, [], ◌∷◌, ◌++◌, append-nil}
use native.Mathlib.Nat.{add-zero}
use native.Mathlib.Numerals.{add-one}
use native.Mathlib.Omega.{arith}
use lib.Dec.{eqb, ltb, lit≤, lit<}
use lib.ListN.{length, take, set, get_or, length-append, length-set, length-replicate, get_or-append}
use lib.Seq.{take-suc-set, get_or_at}
use borrow.Author.Tests.{lt-ltb}
use Rattle.refusals.specs.Rules.{says, under, at_most, same, both, isnt, ◌gives◌}
use Rattle.refusals.specs.Put.{over}
use Rattle.refusals.specs.declared.Declined.{Declined}
use Rattle.refusals.specs.declared.Declined.TheVariants.{Range, Unawaited}
use Rattle.refusals.proofs.Rules.{pick, either_way, by_cases, certain, holds-true, fails-false, cond-true, cond-false, Alike}
use Rattle.refusals.proofs.Writing.{over_last, take-over}
use Rattle.xor_frame.proofs.Lengths.{length-known}
use Rattle.dispenser_frame_rules.specs.Table.{known, command_fields, command_length}
use Rattle.dispenser_frame_rules.specs.Command.{read_command}
use Rattle.dispenser_frame_rules.specs.Answer.{answer_fits, answer_frame}
use Rattle.dispenser_frame_rules.specs.declared.answer.Answer.{Answer}
use Rattle.dispenser_frame_rules.specs.CommandRead.{CommandRead}
use Rattle.dispenser_frame_rules.specs.CommandRead.{Read, Refused}
use Rattle.dispenser_frame_rules.proofs.Codes.{command-longest}
use Rattle.dispenser_frame_rules.proofs.Trips.{answer-length}
use Rattle.ledger.specs.Events.{Deed, hears, waits as passes, own, goes_on, closes, declined, done, is_frame}
use Rattle.ledger.specs.Account.{counted}
use Rattle.ledger.specs.Waiting.{some, from, waited}
use Rattle.ledger.specs.Calls.{told, seen, run, history_from}
use Rattle.ledger.proofs.Waiting.{start-next, start-more, some-long}
use Rattle.ledger.proofs.Declining.{rising, given-alike}
use Rattle.pretend_rules.specs.Limits.{command_wait, silence, sending_limit, answer_limit, code_place}
use Rattle.pretend_rules.specs.Wire.{idle, awaiting, sent, waits, is_awaiting, idle_byte, code_byte, last_byte, command_byte, again, answer_byte, heard_in, heard, expired_in, expired, passed, does}
use Rattle.pretend_rules.specs.Device.{StepAfter, ByteAfter, After, step_after, byte_after, done_after, refused_step, send, acted, judged_step, judge_step, byte_acted, byte_refusals, tick_refusals, tell_refusals, byte_step, tick_step, tell_step, suits, tallied_by, by_byte, by_tick, by_telling, fresh_device, device_byte, device_tick, device_tell}
use Rattle.pretend_rules.specs.Calls.{Call, byte, tick, tell, called, lent, deed, returned, ending, host, History, history, ended}
use Rattle.pretend_rules.specs.History.{Place, free, awaits, sends, place, come, begun, answered, sendings, turns, place_by, Due, due, nothing, nak, due_full, due_command, due_again, due_byte, due_tick, due_by, Answers, ToldByHistory, is_awaited, misfits, DeclinesByHistory}
use Rattle.pretend_rules.specs.declared.wire.Stand.{Stand}
use Rattle.pretend_rules.specs.declared.wire.Stand.TheVariants.{Idle, Reading, Awaiting, Sent}
use Rattle.pretend_rules.specs.declared.wire.Wire.{Wire}
use Rattle.pretend_rules.specs.declared.wire.Act.{Act}
use Rattle.pretend_rules.specs.declared.wire.Act.TheVariants.{Nothing as Rest, Nak, Again, Finish}
use Rattle.pretend_rules.specs.declared.wire.Turn.{Turn}
use Rattle.pretend_rules.specs.declared.wire.Hearing.{Hearing}
use Rattle.pretend_rules.specs.declared.device.Happening.TheVariants.{Nothing, Taken, Ended}
use Rattle.pretend_rules.specs.Reply.{NotDone, Done}
use Rattle.pretend_rules.specs.declared.device.Device.{Device}
use Rattle.pretend_rules.proofs.Exact.{exactly-when}
use Rattle.pretend_rules.proofs.Sending.{sent-laid}
use Rattle.pretend_rules.proofs.Together.{due as due_bytes}

-- ---- where the device stands, by its history

-- nothing begun
pub record Rests (w : Wire) (h : History) : Type 0 where
  pub where-at : place h ≡ free
  pub unbegun : begun h ≡ []
  pub none : w.gathered ≡ 0

-- inside a command: f is what has come of it
pub record Reads (w : Wire) (f : List ℕ) (h : History) : Type 0 where
  pub where-at : place h ≡ free
  pub came : begun h ≡ f
  pub many : length f ≡ w.gathered
  pub least : 1 ≤ w.gathered
  pub few : w.gathered < w.span
  pub spans : w.span ≡ due_bytes w.gathered (get_or f code_place 0)
  pub listed : 4 ≤ w.gathered → (known (get_or f code_place 0)).test ≡ true
  pub wait : w.left ≡ command_wait - waited turns h

-- the answer is sent
pub record Sends (w : Wire) (a : Answer) (h : History) : Type 0 where
  pub where-at : place h ≡ sends a
  pub fits : (answer_fits a).holds
  pub many : sendings h ≡ w.sendings
  pub wait : w.left ≡ silence - waited turns h

-- by its wire, the code and the answer in hand and its store; no account is looked at
abbrev pub At : Stand → Wire → ℕ → Answer → List ℕ → History → Type 0
At Idle w code a store h = Rests w h
At Reading w code a store h = Reads w (take w.gathered store) h
At Awaiting w code a store h = place h ≡ awaits code
At Sent w code a store h = Sends w a h

pub record Standing (w : Wire) (code : ℕ) (a : Answer) (kept : List ℕ) (h : History) : Type 0 where
  pub store : length kept ≡ 10
  pub count : answered h ≡ w.answered
  pub stands : At w.stand w code a kept h

abbrev pub AtOf : Stand → Device → History → Type 0
AtOf q d h = At q d.wire d.code d.answer d.store h

abbrev pub Tracks : Device → History → Type 0
Tracks d h = Standing d.wire d.code d.answer d.store h

-- a call that is declined is as if it had not been made
declined-at : (q : Stand) (d : Device) (h : History) → AtOf q d h → AtOf q d (declined ∷ h)
unfolding place come begun sendings waited
declined-at Idle d h x = record { where-at = x.where-at; unbegun = x.unbegun; none = x.none }
declined-at Reading d h x =
    record {
      where-at = x.where-at;
      came = x.came;
      many = x.many;
      least = x.least;
      few = x.few;
      spans = x.spans;
      listed = x.listed;
      wait = x.wait;
    }
declined-at Awaiting d h x = x
declined-at Sent d h x = record { where-at = x.where-at; fits = x.fits; many = x.many; wait = x.wait }

declined-tracks : (d : Device) (h : History) → Tracks d h → Tracks d (declined ∷ h)
unfolding answered
declined-tracks d h t = record { store = t.store; count = t.count; stands = declined-at d.wire.stand d h t.stands }

-- ---- what a call answers, and where the device stands after it

abbrev pub Right : History → Deed ⊥ Answer → List ℕ → After → Type 0
Right h e r w = Answers (due_by h e) r (returned w.reply) w.room × Tracks w.session (told ending e (returned w.reply) w.room ∷ h)

-- the device d, and what is due, as it is put and told
abbrev left-with : Device → Due → List ℕ → After
left-with d u r = record { session = d; reply = Done (length u.put) u.what; room = over u.put r }

right : (h : History) (e : Deed ⊥ Answer) (r : List ℕ) (d : Device) (u : Due) → due_by h e ≡ u → Tracks d (done e u.put (ending u.what) ∷ h)
    → Right h e r (left-with d u r)
right h e r d u i t = (
  subst (λ (v : Due). Answers v r (returned (left-with d u r).reply) (left-with d u r).room) (sym i) (refl, (refl, refl)),
  subst (λ (put : List ℕ). Tracks d (done e put (ending u.what) ∷ h)) (sym (take-over u.put r)) t,
)

-- one byte at the start of a room that is long enough
one-over : (r : List ℕ) (b : ℕ) → 0 < length r → over (b ∷ []) r ≡ set r 0 b
one-over r b h = sym (over_last (b ∷ []) b r 0 refl h)

-- ---- one call more: what the history gives then

module _ (h : History) where
  -- a byte, of which nothing came
  module _ (b : ℕ) where
    abbrev heard-b : History
    heard-b = done (hears b) [] goes_on ∷ h

    place_byte : place heard-b ≡ place h
    unfolding place
    place_byte = refl

    begun-next : begun h ≡ [] → begun heard-b ≡ cond (eqb b 0x04) (b ∷ []) []
    unfolding begun come
    begun-next e = start-next 0x04 (come h) b e

    begun_more : some (begun h) ≡ true → begun heard-b ≡ begun h ++ (b ∷ [])
    unfolding begun come
    begun_more e = start-more 0x04 (come h) (b ∷ []) e

    begun-by : from 0x04 (come h ++ (b ∷ [])) ≡ begun heard-b
    unfolding begun come
    begun-by = refl

    sendings-byte : sendings heard-b ≡ sendings h
    unfolding sendings counted is_frame
    sendings-byte = refl

    -- the 04h of a command begins its wait
    waited-opened : place h ≡ free → begun h ≡ [] → eqb b 0x04 ≡ true → waited turns heard-b ≡ 0
    unfolding waited
    waited-opened p e o = rw (p, e, o)

    -- any other byte lets the wait go on
    waited-begun : place h ≡ free → some (begun h) ≡ true → waited turns heard-b ≡ waited turns h
    unfolding waited
    waited-begun p e = rw (p, e) (add-zero (waited turns h))

    waited-sent : (a : Answer) → place h ≡ sends a → waited turns heard-b ≡ waited turns h
    unfolding waited
    waited-sent a p = rw p (add-zero (waited turns h))

  -- milliseconds, of which nothing came
  module _ (ms : ℕ) where
    abbrev passed-ms : History
    passed-ms = done (passes ms) [] goes_on ∷ h

    place-tick : place passed-ms ≡ place h
    unfolding place
    place-tick = refl

    begun-tick : begun passed-ms ≡ begun h
    unfolding begun come
    begun-tick = ap (from 0x04) (append-nil (come h))

    sendings-tick : sendings passed-ms ≡ sendings h
    unfolding sendings counted is_frame
    sendings-tick = refl

    waited-tick : waited turns passed-ms ≡ waited turns h + ms
    unfolding waited
    waited-tick = refl

  -- something was put: a wait begins, and nothing has come since
  module _ (e : Deed ⊥ Answer) (put : List ℕ) (s : some put ≡ true) where
    begun-put : begun (done e put goes_on ∷ h) ≡ []
    unfolding begun come from
    begun-put = rw s

    waited-put : waited turns (done e put goes_on ∷ h) ≡ 0
    unfolding waited
    waited-put = rw s

  -- how many commands were answered 06h
  count-on : (e : Deed ⊥ Answer) (put : List ℕ) → answered (done e put goes_on ∷ h) ≡ answered h
  unfolding answered
  count-on e put = add-zero (answered h)

-- an answer's frame is more than one byte
frame-long : (a : Answer) → (answer_fits a).holds → 1 < length (answer_frame a)
frame-long a h = omega (arith, answer-length a h)

frame-some : (a : Answer) → (answer_fits a).holds → some (answer_frame a) ≡ true
frame-some a h = some-long (answer_frame a) (omega (arith, frame-long a h))

counted-frame : (a : Answer) (n : ℕ) → (answer_fits a).holds → counted (answer_frame a) n ≡ n + 1
unfolding counted is_frame
counted-frame a n h = cond-true _ _ (lt-ltb 1 (length (answer_frame a)) (frame-long a h))

module _ (d : Device) (h : History) (t : Tracks d h) where
  -- ---- what comes of a sending, of an end and of a 15h

  -- the device with another wire
  abbrev with-wire : Wire → Device
  with-wire w = record { wire = w; code = d.code; answer = d.answer; tallies = d.tallies; store = d.store }

  -- a byte or a tick, on the device's own line
  abbrev OnLine : Deed ⊥ Answer → Type 0
  OnLine e = ((left : _) (put : List ℕ) → place (done e put left ∷ h) ≡ place_by left (place h))
      × ((left : _) (put : List ℕ) → sendings (done e put left ∷ h) ≡ counted put (sendings h))

  byte-line : (b : ℕ) → OnLine (hears b)
  unfolding place sendings
  byte-line b = ((λ left put. refl), λ left put. refl)

  tick-line : (ms : ℕ) → OnLine (passes ms)
  unfolding place sendings
  tick-line ms = ((λ left put. refl), λ left put. refl)

  module _ (e : Deed ⊥ Answer) (o : OnLine e) where
    -- 15h is sent to a command that is bad or late
    nak-tracks : (store : List ℕ) → length store ≡ 10 → place h ≡ free
        → Tracks (record { wire = idle d.wire; code = d.code; answer = d.answer; tallies = d.tallies; store = store }) (done e (0x15 ∷ []) goes_on ∷ h)
    nak-tracks store l p =
        record {
          store = l;
          count = count-on h e (0x15 ∷ []) ∙ t.count;
          stands = record { where-at = o.0 goes_on (0x15 ∷ []) ∙ p; unbegun = begun-put h e (0x15 ∷ []) refl; none = refl };
        }

    -- the exchange ends
    end-tracks : Tracks (with-wire (idle d.wire)) (done e [] (closes ended) ∷ h)
    unfolding begun come from answered
    end-tracks =
        record {
          store = t.store;
          count = add-zero (answered h) ∙ t.count;
          stands = record { where-at = o.0 (closes ended) []; unbegun = refl; none = refl };
        }

    -- the answer is sent again
    again-tracks : (x : Sends d.wire d.answer h) → Tracks (with-wire (sent d.wire (d.wire.sendings + 1))) (done e (answer_frame d.answer) goes_on ∷ h)
    again-tracks x =
        record {
          store = t.store;
          count = count-on h e (answer_frame d.answer) ∙ t.count;
          stands =
              record {
                where-at = o.0 goes_on (answer_frame d.answer) ∙ x.where-at;
                fits = x.fits;
                many = o.1 goes_on (answer_frame d.answer) ∙ counted-frame d.answer (sendings h) x.fits ∙ ap (λ (n : ℕ). n + 1) x.many;
                wait = omega (arith, waited-put h e (answer_frame d.answer) (frame-some d.answer x.fits));
              };
        }

    -- "sends it again; .. either of those after the third sending, ends it"
    abbrev Turned : List ℕ → Turn → Type 0
    Turned r u =
        Right h e r (by_tick d (acted u.act u.wire d.answer r))

    again-right : (r : List ℕ) → 21 ≤ length r → Sends d.wire d.answer h → due_by h e ≡ due_again (sendings h) d.answer → Turned r (again d.wire)
    unfolding again over
    again-right r long x i =
        pick (Turned r) (under d.wire.sendings _) _ _
        (λ g.
        let put = sent-laid d.answer r x.fits long in
        subst (λ v. Right h e r (record { session = with-wire (sent d.wire (d.wire.sendings + 1)); reply = Done v.put Nothing; room = v.room })) (sym put)
        (right h e r (with-wire (sent d.wire (d.wire.sendings + 1))) (due (answer_frame d.answer) Nothing)
        (i ∙ cond-true _ _ (holds-true (under (sendings h) sending_limit) (omega (arith, x.many, g)))) (again-tracks x)))
        (λ n.
        right h e r (with-wire (idle d.wire)) (due [] Ended)
        (i ∙ cond-false _ _ (fails-false (under (sendings h) sending_limit) (λ g. n (omega (arith, x.many, g))))) end-tracks)

  -- ---- a byte

  module _ (b : ℕ) (r : List ℕ) (long : 21 ≤ length r) where
    abbrev Hears : Hearing → Type 0
    Hears u = Right h (hears b) r (by_byte d (byte_acted u.heard u.wire d.answer d.store d.wire.gathered b r))

    -- where the exchange is, what is due
    due-at : {p : Place} → place h ≡ p → due_by h (hears b) ≡ due_byte h p b
    due-at p = ap (λ (p : Place). due_byte h p b) p

    -- the same device: nothing comes of the byte
    ignored : AtOf d.wire.stand d (heard-b h b) → due_by h (hears b) ≡ nothing → Right h (hears b) r (record { session = d; reply = Done 0 Nothing; room = r })
    unfolding over
    ignored x i = right h (hears b) r d nothing i (record { store = t.store; count = count-on h (hears b) [] ∙ t.count; stands = x })

    -- inside a command: f is what has come of it with the byte
    due-read : (f : List ℕ) → place h ≡ free → begun (heard-b h b) ≡ f → due_by h (hears b) ≡ due_command (answered h) f
    due-read f p e = due-at p ∙ ap (due_command (answered h)) (begun-by h b ∙ e)

    abbrev stored : List ℕ
    stored = set d.store d.wire.gathered b

    abbrev reads_on : ℕ → ℕ → ℕ → Device
    reads_on left n span =
        record {
          wire = record { left = left; answered = d.wire.answered; sendings = 0; gathered = n; span = span; stand = Reading };
          code = d.code;
          answer = d.answer;
          tallies = d.tallies;
          store = stored;
        }

    -- the byte is kept
    keeps : (left n span : ℕ) → Reads (reads_on left n span).wire (take n stored) (heard-b h b) → due_by h (hears b) ≡ nothing
        → Right h (hears b) r (record { session = reads_on left n span; reply = Done 0 Nothing; room = r })
    unfolding over
    keeps left n span x i =
        right h (hears b) r (reads_on left n span) nothing i
        (record { store = length-set d.store d.wire.gathered b ∙ t.store; count = count-on h (hears b) [] ∙ t.count; stands = x })

    few-due : (n : ℕ) (f : List ℕ) → length f < 4 → due_command n f ≡ nothing
    few-due n f l = cond-true _ _ (lt-ltb (length f) 4 l)

    -- "Bytes before 04h are skipped"
    rests-hears : Rests d.wire h → d.wire.stand ≡ Idle → Hears (idle_byte d.wire b)
    unfolding idle_byte
    rests-hears x q =
        let next = begun-next h b x.unbegun in
        pick Hears (same b 0x04) _ _
        (λ g.
        let is = holds-true (same b 0x04) g in
        let one : begun (heard-b h b) ≡ b ∷ [] = next ∙ cond-true _ _ is in
        let kept : take 1 stored ≡ b ∷ [] =
        ap (λ (i : ℕ). take 1 (set d.store i b)) x.none ∙ take-suc-set d.store 0 b (omega (arith, t.store)) in
        keeps command_wait 1 (code_place + 1)
        (record {
          where-at = place_byte h b ∙ x.where-at;
          came = one ∙ sym kept;
          many = ap length kept;
          least = lit≤ tt;
          few = lit< tt;
          spans = refl;
          listed = λ l. absurd (omega (arith, l));
          wait = omega (arith, waited-opened h b x.where-at x.unbegun is);
        })
        (due-read (b ∷ []) x.where-at one ∙ few-due (answered h) (b ∷ []) (lit< tt)))
        (λ n.
        let none : begun (heard-b h b) ≡ [] = next ∙ cond-false _ _ (fails-false (same b 0x04) n) in
        ignored
        (subst (λ (q : Stand). AtOf q d (heard-b h b)) (sym q) (record { where-at = place_byte h b ∙ x.where-at; unbegun = none; none = x.none }))
        (due-read [] x.where-at none ∙ few-due (answered h) [] (lit< tt)))

    -- 15h is sent, to what has come of a command
    naks : (store : List ℕ) → length store ≡ 10 → place h ≡ free → due_by h (hears b) ≡ nak
        → Right h (hears b) r
        (record {
          session = record { wire = idle d.wire; code = d.code; answer = d.answer; tallies = d.tallies; store = store };
          reply = Done 1 Nothing;
          room = set r 0 0x15;
        })
    naks store l p i =
        subst
        (λ (room : List ℕ).
        Right h (hears b) r
        (record {
          session = record { wire = idle d.wire; code = d.code; answer = d.answer; tallies = d.tallies; store = store };
          reply = Done 1 Nothing;
          room = room;
        }))
        (one-over r 0x15 (omega (arith, long)))
        (right h (hears b) r (record { wire = idle d.wire; code = d.code; answer = d.answer; tallies = d.tallies; store = store }) nak i (nak-tracks (hears b) (byte-line b) store l p))

    -- the further bytes of a command
    module _ (x : Reads d.wire (take d.wire.gathered d.store) h) where
      abbrev got : ℕ
      got = d.wire.gathered

      abbrev f : List ℕ
      f = take got d.store

      abbrev f+ : List ℕ
      f+ = take (got + 1) stored

      yet : some (begun h) ≡ true
      yet = some-long (begun h) (omega (arith, x.least, x.many, ap length x.came))

      small : got < 10
      small = by_cases (under got 4) (λ g. omega (arith, g))
          (λ n. omega (arith, x.few, x.spans, due_late, command-longest (get_or f code_place 0)))
        where
          due_late : due_bytes got (get_or f code_place 0) ≤ 10
          due_late = by_cases (under got 4) (λ g. omega (arith, cond-true (code_place + 1) (command_length (get_or f code_place 0)) (holds-true (under got 4) g)))
              (λ n. omega (arith, cond-false (code_place + 1) (command_length (get_or f code_place 0)) (fails-false (under got 4) n), command-longest (get_or f code_place 0)))

      kept : f+ ≡ f ++ (b ∷ [])
      kept = rw add-one (take-suc-set d.store got b (omega (arith, t.store, small)))

      grown : begun (heard-b h b) ≡ f+
      grown = begun_more h b yet ∙ ap (λ (l : List ℕ). l ++ (b ∷ [])) x.came ∙ sym kept

      size : length f+ ≡ got + 1
      size = ap length kept ∙ omega (arith, length-append f (b ∷ []), x.many)

      still : waited turns (heard-b h b) ≡ waited turns h
      still = waited-begun h b x.where-at yet

      is-due : due_by h (hears b) ≡ due_command (answered h) f+
      is-due = due-read f+ x.where-at grown

      -- the code, once it has come
      late-span : 4 ≤ got → d.wire.span ≡ command_length (get_or f code_place 0)
      late-span l = x.spans ∙ cond-false _ _ (fails-false (under got 4) (λ g. omega (arith, g, l)))

      early-span : got < 4 → d.wire.span ≡ 4
      early-span l = x.spans ∙ cond-true _ _ (holds-true (under got 4) l)

      same_code : 4 ≤ got → get_or f+ code_place 0 ≡ get_or f code_place 0
      same_code l = ap (λ (l : List ℕ). get_or l code_place 0) kept ∙ get_or-append f (b ∷ []) 0 code_place (omega (arith, l, x.many))

      -- from the code on: known, and not yet full or full
      due-known : 4 ≤ length f+ → (code : ℕ) → get_or f+ code_place 0 ≡ code → (known code).test ≡ true
          → due_by h (hears b) ≡ cond (ltb (length f+) (command_length code)) nothing (due_full (answered h) (read_command f+))
      due-known l code e k =
          is-due ∙ cond-false _ _ (fails-false (under (length f+) 4) (λ g. omega (arith, g, l)))
          ∙ cond-true _ _ (ap (λ (c : ℕ). (known c).test) e ∙ k)
          ∙ ap (λ (c : ℕ). cond (ltb (length f+) (command_length c)) nothing (due_full (answered h) (read_command f+))) e

      reads-next : (n span : ℕ) → n ≡ got + 1 → n < span → span ≡ due_bytes n (get_or (take n stored) code_place 0)
          → (4 ≤ n → (known (get_or (take n stored) code_place 0)).test ≡ true) → due_by h (hears b) ≡ nothing
          → Right h (hears b) r (record { session = reads_on d.wire.left n span; reply = Done 0 Nothing; room = r })
      reads-next n span is less spans listed i =
          keeps d.wire.left n span
          (record {
            where-at = place_byte h b ∙ x.where-at;
            came = grown ∙ ap (λ (i : ℕ). take i stored) (sym is);
            many = ap (λ (i : ℕ). length (take i stored)) is ∙ size ∙ sym is;
            least = omega (arith, is);
            few = less;
            spans = spans;
            listed = listed;
            wait = omega (arith, x.wait, still);
          })
          i

      -- not the last before it is looked at
      goes-on-reading : got + 1 < d.wire.span
          → Right h (hears b) r (record { session = reads_on d.wire.left (got + 1) d.wire.span; reply = Done 0 Nothing; room = r })
      goes-on-reading g =
          by_cases (under got 4)
          (λ e.
          let four : d.wire.span ≡ 4 = early-span e in
          reads-next (got + 1) d.wire.span refl g
          (four ∙ sym (cond-true _ _ (holds-true (under (got + 1) 4) (omega (arith, four, g)))))
          (λ l. absurd (omega (arith, l, four, g)))
          (is-due ∙ few-due (answered h) f+ (omega (arith, size, four, g))))
          (λ n.
          let l : 4 ≤ got = omega (arith, n) in
          let same : get_or f+ code_place 0 ≡ get_or f code_place 0 = same_code l in
          let k : (known (get_or f code_place 0)).test ≡ true = x.listed l in
          let span : d.wire.span ≡ command_length (get_or f code_place 0) = late-span l in
          reads-next (got + 1) d.wire.span refl g
          (span ∙ ap command_length (sym same) ∙ sym (cond-false _ _ (fails-false (under (got + 1) 4) (λ g. omega (arith, g, l)))))
          (λ m. ap (λ (c : ℕ). (known c).test) same ∙ k)
          (due-known (omega (arith, size, l)) (get_or f code_place 0) same k
          ∙ cond-true _ _ (holds-true (under (length f+) (command_length (get_or f code_place 0))) (omega (arith, size, span, g)))))

      -- "an unknown code at once"
      code-hears : got ≡ code_place → Hears (code_byte d.wire (code_place + 1) b)
      unfolding code_byte
      code-hears three =
          let four : length f+ ≡ 4 = size ∙ ap (λ (i : ℕ). i + 1) three in
          let is : get_or f+ code_place 0 ≡ b = ap (λ (l : List ℕ). get_or l code_place 0) kept ∙ get_or_at f b [] 0 code_place (x.many ∙ three) in
          let at : take (code_place + 1) stored ≡ f+ = ap (λ (i : ℕ). take (i + 1) stored) (sym three) in
          let is4 : get_or (take (code_place + 1) stored) code_place 0 ≡ b = ap (λ (l : List ℕ). get_or l code_place 0) at ∙ is in
          pick Hears (known b) _ _
          (λ g.
          let k = holds-true (known b) g in
          let six : 6 ≤ command_length b = omega (arith, length-known known command_fields b k) in
          reads-next (code_place + 1) (command_length b) (ap (λ (i : ℕ). i + 1) (sym three)) (omega (arith, six)) (ap command_length (sym is4))
          (λ l. ap (λ (c : ℕ). (known c).test) is4 ∙ k)
          (due-known (omega (arith, four)) b is k ∙ cond-true _ _ (holds-true (under (length f+) (command_length b)) (omega (arith, four, six)))))
          (λ n. naks d.store t.store x.where-at
          (is-due ∙ cond-false _ _ (fails-false (under (length f+) 4) (λ g. omega (arith, g, four)))
          ∙ cond-false _ _ (ap (λ (c : ℕ). (known c).test) is ∙ fails-false (known b) n)))

      -- the command is full: "answers 06h or 15h"
      abbrev Judged : StepAfter → Type 0
      Judged w = Right h (hears b) r (by_byte d (record { step = w; store = stored }))

      takes : (code upper lower : ℕ) → due_by h (hears b) ≡ due (0x06 ∷ []) (Taken code upper lower)
          → Judged (done_after (awaiting (d.wire.answered + 1)) 1 (Taken code upper lower) (set r 0 0x06))
      unfolding place answered
      takes code upper lower i =
          subst (λ (room : List ℕ). Judged (done_after (awaiting (d.wire.answered + 1)) 1 (Taken code upper lower) room)) (one-over r 0x06 (omega (arith, long)))
          (right h (hears b) r (record { wire = awaiting (d.wire.answered + 1); code = code; answer = d.answer; tallies = d.tallies; store = stored }) (due (0x06 ∷ []) (Taken code upper lower)) i
          (record { store = length-set d.store got b ∙ t.store; count = ap (λ (n : ℕ). n + 1) t.count; stands = refl }))

      full-hears : (y : CommandRead) → due_by h (hears b) ≡ due_full (answered h) y → Judged (judged_step y (waits d.wire d.wire.left) r)
      full-hears (Ok command) i =
          pick Judged (under d.wire.answered answer_limit) _ _
          (λ g. takes command.code command.upper command.lower (i ∙ cond-true _ _ (holds-true (under (answered h) answer_limit) (omega (arith, t.count, g)))))
          (λ n. naks stored (length-set d.store got b ∙ t.store) x.where-at
          (i ∙ cond-false _ _ (fails-false (under (answered h) answer_limit) (λ g. n (omega (arith, t.count, g))))))
      full-hears (Refused fault) i = naks stored (length-set d.store got b ∙ t.store) x.where-at i

      judge-hears : 4 ≤ got → (got + 1 < d.wire.span → ⊥) → Judged (judge_step (waits d.wire d.wire.left) stored r)
      unfolding judge_step
      judge-hears l n =
          let span : d.wire.span ≡ command_length (get_or f code_place 0) = late-span l in
          let is : d.wire.span ≡ got + 1 = omega (arith, x.few, n) in
          let same : get_or f+ code_place 0 ≡ get_or f code_place 0 = same_code l in
          full-hears (read_command (take d.wire.span stored))
          (due-known (omega (arith, size, l)) (get_or f code_place 0) same (x.listed l)
          ∙ cond-false _ _ (fails-false (under (length f+) (command_length (get_or f code_place 0))) (λ g. omega (arith, g, size, span, is)))
          ∙ ap (λ (i : ℕ). due_full (answered h) (read_command (take i stored))) (sym is))

      command-hears : Hears (command_byte d.wire b)
      unfolding command_byte last_byte
      command-hears =
          pick Hears (under (got + 1) d.wire.span) _ _
          (λ g. goes-on-reading g)
          (λ n.
          pick Hears (same got code_place) _ _
          (λ g. code-hears g)
          (λ m.
          judge-hears
          (certain (at_most 4 got)
          (λ few. let l = certain (under got 4) (λ z. few (omega (arith, z))) in m (omega (arith, l, n, early-span l)))) n))

    -- "06h .. ends it. All other bytes .. are ignored."
    answer-hears : Sends d.wire d.answer h → d.wire.stand ≡ Sent → Hears (answer_byte d.wire b)
    unfolding answer_byte over
    answer-hears x q =
        let i = due-at x.where-at in
        pick Hears (same b 0x06) _ _
        (λ g.
        right h (hears b) r (with-wire (idle d.wire)) (due [] Ended) (i ∙ cond-true _ _ (holds-true (same b 0x06) g)) (end-tracks (hears b) (byte-line b)))
        (λ n.
        let j = i ∙ cond-false _ _ (fails-false (same b 0x06) n) in
        pick Hears (same b 0x15) _ _
        (λ g. sends-again (j ∙ cond-true _ _ (holds-true (same b 0x15) g)))
        (λ m.
        ignored
        (subst (λ (q : Stand). AtOf q d (heard-b h b)) (sym q)
        (record {
          where-at = place_byte h b ∙ x.where-at;
          fits = x.fits;
          many = sendings-byte h b ∙ x.many;
          wait = omega (arith, x.wait, waited-sent h b d.answer x.where-at);
        }))
        (j ∙ cond-false _ _ (fails-false (same b 0x15) m))))
      where
        -- what the wire says of a tick is what it says of a 15h
        same_left : (u : Turn) → Turned (hears b) (byte-line b) r u → Hears (does u)
        same_left u y = by u.act y
          where
            by : (a : Act) → Turned (hears b) (byte-line b) r (record { wire = u.wire; act = a }) → Hears (does (record { wire = u.wire; act = a }))
            by Rest y = y
            by Nak y = y
            by Again y = y
            by Finish y = y

        sends-again : due_by h (hears b) ≡ due_again (sendings h) d.answer → Hears (does (again d.wire))
        sends-again i = same_left (again d.wire) (again-right (hears b) (byte-line b) r long x i)

    byte-right : Hears (heard d.wire b)
    unfolding heard
    byte-right = by d.wire.stand refl t.stands
      where
        by : (q : Stand) → d.wire.stand ≡ q → AtOf q d h → Hears (heard_in q d.wire b)
        by Idle q x = rests-hears x q
        by Reading q x = command-hears x
        by Awaiting q x = ignored (subst (λ (q : Stand). AtOf q d (heard-b h b)) (sym q) (place_byte h b ∙ x)) (due-at x)
        by Sent q x = answer-hears x q

  -- ---- a tick

  module _ (ms : ℕ) (r : List ℕ) (long : 21 ≤ length r) where
    tick-due : {p : Place} → place h ≡ p → due_by h (passes ms) ≡ due_tick h p ms
    tick-due p = ap (λ (p : Place). due_tick h p ms) p

    -- nothing comes of it, and so much is left
    abbrev stays : ℕ → Device
    stays left = with-wire (waits d.wire left)

    waits-on : (left : ℕ) → AtOf d.wire.stand (stays left) (passed-ms h ms) → due_by h (passes ms) ≡ nothing
        → Right h (passes ms) r (record { session = stays left; reply = Done 0 Nothing; room = r })
    unfolding over
    waits-on left x i = right h (passes ms) r (stays left) nothing i (record { store = t.store; count = count-on h (passes ms) [] ∙ t.count; stands = x })

    abbrev Ticks : Turn → Type 0
    Ticks u = Turned (passes ms) (tick-line ms) r u

    rests-ticks : (left : ℕ) → d.wire.stand ≡ Idle → Rests d.wire h → Right h (passes ms) r (record { session = stays left; reply = Done 0 Nothing; room = r })
    rests-ticks left q x =
        waits-on left
        (subst (λ (q : Stand). AtOf q (stays left) (passed-ms h ms)) (sym q)
        (record { where-at = place-tick h ms ∙ x.where-at; unbegun = begun-tick h ms ∙ x.unbegun; none = x.none }))
        (tick-due x.where-at ∙ cond-false _ _ (ap some x.unbegun))

    awaits-ticks : (left : ℕ) → d.wire.stand ≡ Awaiting → place h ≡ awaits d.code
        → Right h (passes ms) r (record { session = stays left; reply = Done 0 Nothing; room = r })
    awaits-ticks left q x = waits-on left (subst (λ (q : Stand). AtOf q (stays left) (passed-ms h ms)) (sym q) (place-tick h ms ∙ x)) (tick-due x)

    -- a wait that is not used up, and one that is
    in-time : ms < d.wire.left → Right h (passes ms) r (record { session = stays (d.wire.left - ms); reply = Done 0 Nothing; room = r })
    in-time g = by d.wire.stand refl t.stands
      where
        by : (q : Stand) → d.wire.stand ≡ q → AtOf q d h → Right h (passes ms) r (record { session = stays (d.wire.left - ms); reply = Done 0 Nothing; room = r })
        by Idle q x = rests-ticks (d.wire.left - ms) q x
        by Reading q x =
            let f = take d.wire.gathered d.store in
            waits-on (d.wire.left - ms)
            (subst (λ (q : Stand). AtOf q (stays (d.wire.left - ms)) (passed-ms h ms)) (sym q)
            (record {
              where-at = place-tick h ms ∙ x.where-at;
              came = begun-tick h ms ∙ x.came;
              many = x.many;
              least = x.least;
              few = x.few;
              spans = x.spans;
              listed = x.listed;
              wait = omega (arith, x.wait, waited-tick h ms);
            }))
            (tick-due x.where-at ∙ cond-true _ _ (some-long (begun h) (omega (arith, x.least, x.many, ap length x.came)))
            ∙ cond-true _ _ (holds-true (under (waited turns h + ms) command_wait) (omega (arith, x.wait, g))))
        by Awaiting q x = awaits-ticks (d.wire.left - ms) q x
        by Sent q x =
            waits-on (d.wire.left - ms)
            (subst (λ (q : Stand). AtOf q (stays (d.wire.left - ms)) (passed-ms h ms)) (sym q)
            (record {
              where-at = place-tick h ms ∙ x.where-at;
              fits = x.fits;
              many = sendings-tick h ms ∙ x.many;
              wait = omega (arith, x.wait, waited-tick h ms);
            }))
            (tick-due x.where-at ∙ cond-true _ _ (holds-true (under (waited turns h + ms) silence) (omega (arith, x.wait, g))))

    late : (ms < d.wire.left → ⊥) → Ticks (expired d.wire)
    unfolding expired
    late n = by d.wire.stand refl t.stands
      where
        by : (q : Stand) → d.wire.stand ≡ q → AtOf q d h → Ticks (expired_in q d.wire)
        by Idle q x = rests-ticks 0 q x
        by Reading q x =
            subst
            (λ (room : List ℕ). Right h (passes ms) r (record { session = with-wire (idle d.wire); reply = Done 1 Nothing; room = room }))
            (one-over r 0x15 (omega (arith, long)))
            (right h (passes ms) r (with-wire (idle d.wire)) nak
            (tick-due x.where-at ∙ cond-true _ _ (some-long (begun h) (omega (arith, x.least, x.many, ap length x.came)))
            ∙ cond-false _ _ (fails-false (under (waited turns h + ms) command_wait) (λ g. n (omega (arith, x.wait, g)))))
            (nak-tracks (passes ms) (tick-line ms) d.store t.store x.where-at))
        by Awaiting q x = awaits-ticks 0 q x
        by Sent q x =
            again-right (passes ms) (tick-line ms) r long x
            (tick-due x.where-at ∙ cond-false _ _ (fails-false (under (waited turns h + ms) silence) (λ g. n (omega (arith, x.wait, g)))))

    tick-right : Ticks (passed d.wire ms)
    unfolding passed
    tick-right = pick Ticks (under ms d.wire.left) _ _ (λ g. in-time g) (λ n. late n)

  -- ---- the answer's fields

  module _ (a : Answer) (r : List ℕ) (long : 21 ≤ length r) (fit : (answer_fits a).holds) where
    abbrev told-device : Device
    told-device = record { wire = sent d.wire 1; code = d.code; answer = a; tallies = tallied_by d.tallies a (Done (send a r).put Nothing); store = d.store }

    tell-right : Right h (own a) r (record { session = told-device; reply = Done (send a r).put Nothing; room = (send a r).room })
    unfolding place sendings
    tell-right =
        subst (λ v. Right h (own a) r (record { session = told-device; reply = Done v.put Nothing; room = v.room })) (sym (sent-laid a r fit long))
        (right h (own a) r told-device (due (answer_frame a) Nothing) refl
        (record {
          store = t.store;
          count = count-on h (own a) (answer_frame a) ∙ t.count;
          stands =
              record {
                where-at = refl;
                fits = fit;
                many = counted-frame a 0 fit;
                wait = omega (arith, waited-put h (own a) (answer_frame a) (frame-some a fit));
              };
        }))

  -- ---- the calls

  declined-right : (e : Deed ⊥ Answer) (r : List ℕ) (why : Declined) → Right h e r (record { session = d; reply = NotDone why; room = r })
  declined-right e r why = (refl, declined-tracks d h t)

  pub called-right : (c : Call) → Right h (deed c) (lent c) (called d c)
  unfolding device_byte byte_step byte_refusals device_tick tick_step tick_refusals device_tell tell_step tell_refusals
  called-right (byte b r) =
      either_way (λ (w : ByteAfter). Right h (hears b) r (by_byte d w)) (byte_refusals r) (λ why. byte_after (refused_step d.wire why) d.store r)
      (byte_acted (heard d.wire b).heard (heard d.wire b).wire d.answer d.store d.wire.gathered b r)
      (λ why. declined-right (hears b) r why)
      (λ n. byte-right b r (certain (at_most 21 (length r)) (λ w. n.0 (omega arith))))
  called-right (tick ms r) =
      either_way (λ (w : StepAfter). Right h (passes ms) r (by_tick d w)) (tick_refusals ms r) (λ why. step_after (refused_step d.wire why) r)
      (acted (passed d.wire ms).act (passed d.wire ms).wire d.answer r)
      (λ why. declined-right (passes ms) r why)
      (λ n. tick-right ms r (certain (at_most 21 (length r)) (λ w. n.0 (omega arith))))
  called-right (tell a r) =
      either_way
      (λ (w : StepAfter). Right h (own a) r (by_telling d a w))
      (tell_refusals d.wire d.code a r) (λ why. step_after (refused_step d.wire why) r)
      (done_after (sent d.wire 1) (send a r).put Nothing (send a r).room)
      (λ why. declined-right (own a) r why)
      (λ n.
      let waited : is_awaiting d.wire.stand ≡ true = certain (says (is_awaiting d.wire.stand)) n.1.1.0 in
      tell-right a r (certain (at_most 21 (length r)) (λ w. n.0 (omega arith))) (certain (suits a d.code) (λ m. n.1.0 (waited, m))).1)

-- a device that awaits the fields is one whose history has taken a command and not been told
pub awaited : (d : Device) (h : History) → Tracks d h → is_awaiting d.wire.stand ≡ true → place h ≡ awaits d.code
awaited d h t e = by d.wire.stand e t.stands
  where
    by : (q : Stand) → is_awaiting q ≡ true → AtOf q d h → place h ≡ awaits d.code
    by Idle e x = absurd (true≢false (sym e))
    by Reading e x = absurd (true≢false (sym e))
    by Awaiting e x = x
    by Sent e x = absurd (true≢false (sym e))

-- ---- any calls at all

run-tracks : (d : Device) (h : History) (cs : List Call) → Tracks d h → Tracks (run host d cs) (history_from host d h cs)
unfolding run history_from
run-tracks d h [] t = t
run-tracks d h (c ∷ cs) t = run-tracks (called d c).session (seen host d c ∷ h) cs (called-right d h t c).1

pub fresh-tracks : Tracks fresh_device []
unfolding fresh_device place begun come from answered
fresh-tracks =
    record {
      store = length-replicate {A = ℕ} 10 0;
      count = refl;
      stands = record { where-at = refl; unbegun = refl; none = refl };
    }

after-calls : (cs : List Call) → Tracks (run host fresh_device cs) (history cs)
after-calls cs = run-tracks fresh_device [] cs fresh-tracks

pub told-by-history : ToldByHistory
told-by-history cs c = (called-right (run host fresh_device cs) (history cs) (after-calls cs) c).0

-- the numbers, by the device and by its history

alike_at : (q : Stand) (d : Device) (h : History) (a : Answer) → AtOf q d h
    → Alike (both (says (is_awaiting q)) (isnt (suits a d.code)) gives Range ∷ isnt (says (is_awaiting q)) gives Unawaited ∷ [])
    (misfits (place h) a gives Range ∷ isnt (says (is_awaited (place h))) gives Unawaited ∷ [])
alike_at Idle d h a x = rw x.where-at (refl, (((λ w. absurd (true≢false (sym w.0))), λ w. absurd w), λ n. (refl, (((λ w. w), λ w. w), λ m. tt))))
alike_at Reading d h a x = rw x.where-at (refl, (((λ w. absurd (true≢false (sym w.0))), λ w. absurd w), λ n. (refl, (((λ w. w), λ w. w), λ m. tt))))
alike_at Awaiting d h a x = rw x (refl, (((λ w. w.1), λ w. (refl, w)), λ n. (refl, (((λ w. w), λ w. w), λ m. tt))))
alike_at Sent d h a x = rw x.where-at (refl, (((λ w. absurd (true≢false (sym w.0))), λ w. absurd w), λ n. (refl, (((λ w. w), λ w. w), λ m. tt))))

tell-rises : (p : Place) (a : Answer) → rising (misfits p a gives Range ∷ isnt (says (is_awaited p)) gives Unawaited ∷ []) ≡ true
tell-rises p a = refl

pub declines-by-history : DeclinesByHistory
unfolding byte_refusals tick_refusals tell_refusals
declines-by-history cs (byte b r) = exactly-when.byte (run host fresh_device cs) b r
declines-by-history cs (tick ms r) = exactly-when.tick (run host fresh_device cs) ms r
declines-by-history cs (tell a r) =
    let d = run host fresh_device cs in
    given-alike (exactly-when.tell d a r)
    (refl, (((λ w. w), λ w. w), λ n. alike_at d.wire.stand d (history cs) a (after-calls cs).stands)) (tell-rises (place (history cs)) a)
