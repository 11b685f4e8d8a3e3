-- A session over a lawful unit stands, after each call, where the history of the calls says: demand 3 of the steps, once for every unit and any cassettes.
-- Assumes nothing.
use Prim.Native.Nat.{ℕ, ◌+◌, ◌-◌, ◌*◌, ◌≤◌, ◌<◌}
use mathlib.Core.Path.{◌≡◌, refl, sym, ap, ◌∙◌, subst}
use mathlib.Core.Bool.{true, false, cond}
use mathlib.Core.List.{List, [], ◌∷◌, ◌++◌, append-nil}
use mathlib.Core.Logic.{inl, inr}
use native.Mathlib.Numerals.{add-one}
use native.Mathlib.Omega.{arith}
use native.Mathlib.Nat.{le_trans, mul-le-mul_left, mul-le-mul_right}
use lib.Dec.{lit≤, eqb}
use lib.ListN.{length, take, set, length-set}
use lib.Seq.{length-take-le, take-suc-set}
use borrow.Author.Tests.{lt-ltb}
use Rattle.refusals.specs.Rules.{under, at_most, same}
use Rattle.refusals.proofs.Rules.{pick, either_way, certain, holds-true, fails-false, cond-true, cond-false}
use Rattle.refusals.proofs.Writing.{take-over}
use Rattle.ledger.specs.Events.{Deed, asks, hears, waits as passes, own, goes_on, closes, done, History, is_frame, taken, bytes, since}
use Rattle.ledger.specs.Line.{quiet_time}
use Rattle.ledger.specs.Account.{Ending, answered, refused, unknown, Totals, waiting, answered_by, turned_down, in_doubt, last_of, with-share, totals, sums}
use Rattle.ledger.specs.Told.{Verdict, bad, good, void, none, by_answer, by_refusal, by_doubt, ending, begun, turns}
use Rattle.ledger.specs.Calls.{After, told}
use Rattle.ledger.specs.Sent.{Sends}
use Rattle.ledger.specs.Waiting.{some, waited}
use Rattle.ledger.proofs.Laws.{OnLine, since-more}
use Rattle.ledger.proofs.Waiting.{some_more, some-added, some-long, begun-sent, waited-sent, begun-tick, waited-tick, begun-next, begun-came, unbegun-first, waited-first, waited-start, waited-skip, waited-inside}
use Rattle.ledger.proofs.Follows.{OpenIn, IdleIn, FirstIn, StartIn, At, Follows, View, declined-follows, open-still, idle-still, still-follows, open_kept, fate-by, again-follows, closes-follows, opened-follows, least, cleared-follows, idle}
use Rattle.exchange_rules.specs.Limits.{answer_wait, nak_wait, frame_wait, hand_overs, nak_limit}
use Rattle.exchange_rules.specs.Exchange.{is_open, turn, hearing, handed_again, starting, inside as within, waits, first_byte, bad_frame, start_byte, inside_byte, heard_in, heard, expired_in, expired, passed}
use Rattle.exchange_rules.specs.Machine.{Model, Reply, Box, StepAfter, done_after, shut, acted, bad_step, judged_step, judge_step, byte_acted, byte_refusals, tick_refusals, request_refusals, next, opening, left, called-request, heard_step, called-byte, called-tick, clear_refusals, cleared, called-clear, plain}
use Rattle.exchange_rules.specs.Kept.{Live, settled, Sound}
use Rattle.exchange_rules.specs.Owed.{Lawful}
use Rattle.exchange_rules.specs.declared.line.Phase.{Phase}
use Rattle.exchange_rules.specs.declared.line.Phase.TheVariants.{Idle, First, Start, Inside}
use Rattle.exchange_rules.specs.declared.line.Line.{Line}
use Rattle.exchange_rules.specs.declared.line.Todo.TheVariants.{Nothing, HandOver}
use Rattle.exchange_rules.specs.declared.line.Heard.TheVariants.{Keep, Do}
use Rattle.exchange_rules.specs.declared.line.Hearing.{Hearing}
use Rattle.exchange_rules.specs.declared.line.Turn.{Turn}
use Rattle.exchange_rules.proofs.Shown.{Roomy, together, apart, shows-opened, shows-refused, shows-unknown, shows-answered}
use Rattle.exchange_rules.proofs.Bounds.{bounded-longer, bounded-wider}
use Rattle.exchange_rules.proofs.Keeping.{settled-most}
use Rattle.exchange_rules.proofs.Stopped.{counted_same}
use Rattle.exchange_rules.proofs.Views.{one-put, none-frame, one-frame, stage, view, rules, Tracks, at, stood, yet, grown, full-last}

module _ {R X A C : Type 0} (U : Model R X A C) where
  -- a sound session's sums have room
  pub roomy : Lawful U → (s : Box R A) → Sound U s → (c : C) → Roomy (U.cassette s.account c)
  roomy K s k c =
      let few : settled s.line.phase s.line.accepted ≤ 1_000_000 = omega (arith, k.commands, settled-most s.line.phase s.line.accepted) in
      let far : (n : ℕ) → n ≤ 1_000_000 → U.greatest * n ≤ 255_000_000 = λ n h. le_trans (mul-le-mul_left U.greatest h) (mul-le-mul_right 1_000_000 K.small) in
      bounded-wider (bounded-longer (k.books c) (far s.line.accepted k.commands) (far (settled s.line.phase s.line.accepted) few)) K.small

  -- a command's frame is a frame
  layout-frame : Lawful U → (q : R) → (U.sendable q).holds → is_frame (U.layout q) ≡ true
  unfolding is_frame
  layout-frame K q h = lt-ltb 1 (length (U.layout q)) (K.long q h)

  -- what is put is the frame
  layout-put : Lawful U → (q : R) (r : List ℕ) → (U.sendable q).holds → 16 ≤ length r → take (U.hands q r).put (U.hands q r).room ≡ U.layout q
  layout-put K q r h long = ap (λ w. take w.put w.room) (K.laid q r h long) ∙ take-over (U.layout q) r

  -- another line and store, and the rest as it was
  abbrev moved : Box R A → Line → List ℕ → Box R A
  moved s m store = record { line = m; asks = s.asks; account = s.account; store = store }

module _ {R X A C O : Type 0} (U : Model R X A C) where
  -- after a step, with what its caller was told
  abbrev Good : Box R A → History R O Ending → Deed R O → StepAfter X → List ℕ → Type 0
  Good s h d w store = Tracks U (next U s w store) (told ending d w.reply w.room ∷ h)

  -- what may be sent
  nothing-sent : (h : History R O Ending) (d : Deed R O) → OnLine d → Sends U.bytes U.layout h d []
  nothing-sent h (asks q) o = absurd o
  nothing-sent h (hears b) o = inl refl
  nothing-sent h (passes ms) o = inl refl
  nothing-sent h (own w) o = absurd o

  module _ (K : Lawful U) where
    -- ---- the moves of a session, each with what its caller was told

    module _ (s : Box R A) (h : History R O Ending) (k : Sound U s) (t : Tracks U s h) where
      module _ (d : Deed R O) (o : OnLine d) where
        -- nothing is put, and nothing closes
        quiet-good : (m : Line) (store : List ℕ) → m.accepted ≡ s.line.accepted → m.doubts ≡ s.line.doubts
            → At (rules U) (stage m.phase) (view U (moved U s m store)) (done d [] goes_on ∷ h)
            → Tracks U (moved U s m store) (done d [] goes_on ∷ h)
        quiet-good m store g f p = still-follows (rules U) o none-frame (view U (moved U s m store)) t (λ c. refl) g f (nothing-sent h d o) p

        module _ (x : OpenIn (rules U) (view U s) h) (op : Live U s.line s.asks) where
          -- the sums of a cassette while the command is open
          abbrev older : C → Totals
          older c = totals U.bytes x.older c

          held : (c : C) → plain (U.cassette s.account c) ≡ with-share U.bytes (older c) waiting s.asks c
          held c = open_kept (rules U) (view U s) h t x c

          -- what is open of it is what was asked
          pending : (c : C) → (U.cassette s.account c).pending.0 ≡ U.bytes.wants s.asks c
          unfolding with-share
          pending c = omega (arith, (apart (held c)).pending, x.over c)

          wanted : (c : C) → U.bytes.wants s.asks c ≤ 255
          wanted c = le_trans (K.modest s.asks c op.sent) K.small

          refused-kept : (c : C) → plain (U.cassette (U.closes_refused s.account s.asks) c) ≡ with-share U.bytes (older c) turned_down s.asks c
          refused-kept c =
              ap plain (K.closes_refused s.account s.asks c)
              ∙ together (shows-refused U.bytes (U.cassette s.account c) (older c) s.asks c (roomy U K s k c) (apart (held c)) (x.over c) (wanted c))

          unknown-kept : (c : C) → plain (U.cassette (U.closes_unknown s.account s.asks) c) ≡ with-share U.bytes (older c) in_doubt s.asks c
          unknown-kept c =
              ap plain (K.closes_unknown s.account s.asks c)
              ∙ together (shows-unknown U.bytes (U.cassette s.account c) (older c) s.asks c (roomy U K s k c) (apart (held c)) (x.over c) (wanted c))

          answered-kept : (f : List ℕ) (v : X) → U.judges s.asks f ≡ good v
              → (c : C) → plain (U.cassette (U.answers s.account s.asks v) c) ≡ with-share U.bytes (older c) (answered_by f) s.asks c
          answered-kept f v e c =
              ap plain (K.answers s.account s.asks f v c op.sent e (pending c))
              ∙ together (shows-answered U.bytes (U.cassette s.account c) (older c) s.asks c (roomy U K s k c) (apart (held c)) (x.over c)
              f _ _ refl refl (wanted c) (le_trans (K.paid s.asks f v c op.sent e) K.small) (le_trans (K.spoilt s.asks f v c op.sent e) K.small))

          -- the command closes, and the account with it
          closes-good : (put : List ℕ) → is_frame put ≡ false → Sends U.bytes U.layout h d put → (end : Ending) (account : A) (store : List ℕ)
              → ((c : C) → plain (U.cassette account c) ≡ with-share U.bytes (older c) (fate-by (rules U) (view U s) h d put end) s.asks c)
              → Tracks U (record { line = shut U s.asks end s.line; asks = s.asks; account = account; store = store }) (done d put (closes end) ∷ h)
          closes-good put e w end account store kept =
              closes-follows (rules U) (view U s) h t x d o put e w end
              (view U (record { line = shut U s.asks end s.line; asks = s.asks; account = account; store = store })) refl refl refl refl
              (counted_same (U.pays s.asks) end s.line.doubts) kept

          module _ (r store : List ℕ) where
            refuse-good : Good s h d (done_after (shut U s.asks refused s.line) 0 by_refusal r) store
            refuse-good = closes-good [] none-frame (nothing-sent h d o) refused _ store refused-kept

            lost-good : (put : List ℕ) → is_frame put ≡ false → Sends U.bytes U.layout h d put
                → Tracks U (next U s (done_after (shut U s.asks unknown s.line) 0 by_doubt r) store) (done d put (closes unknown) ∷ h)
            lost-good put e w = closes-good put e w unknown _ store unknown-kept

            lose-good : Good s h d (done_after (shut U s.asks unknown s.line) 0 by_doubt r) store
            lose-good = lost-good [] none-frame (nothing-sent h d o)

            -- where 15h may be sent
            module _ (long : 0 < length r) (may : Sends U.bytes U.layout h d (0x15 ∷ [])) where
              nak-lose-good : Good s h d (done_after (shut U s.asks unknown s.line) 1 by_doubt (set r 0 0x15)) store
              nak-lose-good =
                  subst (λ (put : List ℕ). Tracks U (next U s (done_after (shut U s.asks unknown s.line) 1 by_doubt (set r 0 0x15)) store) (done d put (closes unknown) ∷ h))
                  (sym (one-put r 0x15 long)) (lost-good (0x15 ∷ []) (one-frame 0x15) may)

              nak-good : some (since h) ≡ true → (n : ℕ) → n ≡ s.line.naks + 1 → Good s h d (done_after (starting s.line nak_wait n) 1 none (set r 0 0x15)) store
              nak-good came n e =
                  let w = view U (moved U s (starting s.line nak_wait n) store) in
                  let z = waited-sent h goes_on (0x15 ∷ []) d refl in
                  let y : cond (eqb n 0) answer_wait nak_wait ≡ nak_wait = cond-false _ _ (fails-false (same n 0) (λ q. omega (arith, e))) in
                  let later : StartIn (rules U) w (done d (0x15 ∷ []) goes_on ∷ h) =
                  record {
                    is = open-still (rules U) o (one-frame 0x15) w refl refl e x;
                    came = ap some (since-more h (0x15 ∷ []) goes_on d (one-frame 0x15)) ∙ some_more (since h) (taken d) came;
                    unbegun = begun-sent h goes_on (0x15 ∷ []) d refl;
                    wait = omega (arith, z, y);
                  } in
                  subst (λ (put : List ℕ). Follows (rules U) w (done d put goes_on ∷ h)) (sym (one-put r 0x15 long))
                  (still-follows (rules U) o (one-frame 0x15) w t (λ c. refl) refl refl may later)

              -- a bad frame, or a late one
              bad-good : some (since h) ≡ true → (left : ℕ) → Good s h d (bad_step U (waits s.line left) s.asks r) store
              unfolding bad_step bad_frame
              bad-good came left =
                  pick (λ (u : Turn). Good s h d (acted U u.todo u.line s.asks r) store) (under s.line.naks (nak_limit - 1)) _ _
                  (λ g. nak-good came (s.line.naks + 1) refl)
                  (λ n. nak-lose-good)

    -- ---- a byte

    module _ (s : Box R A) (h : History R O Ending) (k : Sound U s) (t : Tracks U s h) (b : ℕ) (r : List ℕ) (long : 16 ≤ length r) where
      -- what the exchange says of a byte is what the history then says
      abbrev Heard : Hearing → Type 0
      Heard u =
          let w = byte_acted U u.heard u.line s.asks s.store s.line.gathered b r in
          Good s h (hears b) w.step w.store

      -- a byte that is ignored, or skipped
      idle-heard : s.line.phase ≡ Idle → (left : ℕ) → left ≡ s.line.quiet → Heard (hearing (waits s.line left) (Do Nothing))
      unfolding quiet_time
      idle-heard e left whole =
          let m = waits s.line left in
          quiet-good s h k t (hears b) tt m s.store refl refl
          (subst (λ (p : Phase). At (rules U) (stage p) (view U (moved U s m s.store)) (done (hears b) [] goes_on ∷ h)) (sym e)
          (idle-still (rules U) tt none-frame (view U (moved U s m s.store)) refl (omega (arith, whole)) (at U s h t e)))

      still-came : some (since h) ≡ true → some (since (done (hears b) [] goes_on ∷ h)) ≡ true
      still-came c = ap some (since-more h [] goes_on (hears b) none-frame) ∙ some_more (since h) (b ∷ []) c

      skip-heard : s.line.phase ≡ Start → (b ≡ 0x01 → ⊥) → Heard (hearing (waits s.line s.line.left) (Do Nothing))
      skip-heard e n =
          let x = at U s h t e in
          let z : eqb b 0x01 ≡ false = fails-false (same b 0x01) n in
          let m = waits s.line s.line.left in
          quiet-good s h k t (hears b) tt m s.store refl refl
          (subst (λ (p : Phase). At (rules U) (stage p) (view U (moved U s m s.store)) (done (hears b) [] goes_on ∷ h)) (sym e)
          (record {
            is = open-still (rules U) tt none-frame (view U (moved U s m s.store)) refl refl (omega arith) x.is;
            came = still-came x.came;
            unbegun = begun-next h goes_on b x.unbegun ∙ cond-false _ _ z;
            wait = omega (arith, x.wait, waited-skip h goes_on b x.came x.unbegun z);
          }))

      -- the first byte since a hand-over; at 15h the frame is handed over again, and that is counted
      again-heard : FirstIn (rules U) (view U s) h → Live U s.line s.asks → b ≡ 0x15 → s.line.handed < hand_overs
          → (n : ℕ) → n ≡ s.line.handed + 1 → Heard (hearing (handed_again s.line n) (Do HandOver))
      again-heard y op z few n more =
          let w = view U (moved U s (handed_again s.line n) s.store) in
          subst (λ (put : List ℕ). Follows (rules U) w (done (hears b) put goes_on ∷ h)) (sym (layout-put U K s.asks r op.sent long))
          (subst (λ (b : ℕ). Follows (rules U) w (done (hears b) (U.layout s.asks) goes_on ∷ h)) (sym z)
          (again-follows (rules U) (view U s) h t y.is w refl refl more (omega arith) refl refl (λ c. refl) refl refl y (layout-frame U K s.asks op.sent)))

      first-heard : s.line.phase ≡ First → Heard (first_byte s.line b)
      unfolding first_byte
      first-heard e =
          let y = at U s h t e in
          let x = y.is in
          let op = stood U s k e in
          pick Heard (same b 0x06) _ _
          (λ g.
          let m = starting s.line answer_wait s.line.naks in
          let z : cond (eqb s.line.naks 0) answer_wait nak_wait ≡ answer_wait = cond-true _ _ (holds-true (same s.line.naks 0) y.unsent) in
          quiet-good s h k t (hears b) tt m s.store refl refl
          (record {
            is = open-still (rules U) tt none-frame (view U (moved U s m s.store)) refl refl (omega arith) x;
            came = ap some (since-more h [] goes_on (hears b) none-frame) ∙ some-added (since h) b;
            unbegun = begun-next h goes_on b (unbegun-first h y.fresh) ∙ cond-false _ _ (fails-false (same b 0x01) (λ w. omega (arith, g)));
            wait = omega (arith, waited-first h goes_on b y.fresh, z);
          }))
          (λ n. pick Heard (same b _) _ _
          (λ g. pick Heard (under s.line.handed hand_overs) _ _
          (λ f. again-heard y op (omega (arith, g)) f _ (omega arith))
          (λ f. refuse-good s h k t (hears b) tt x op r s.store))
          (λ m. lose-good s h k t (hears b) tt x op r s.store))

      -- bytes of an answer: the store holds the last that came
      kept-last : s.line.gathered < U.longest → take (s.line.gathered + 1) (set s.store s.line.gathered b) ≡ take s.line.gathered s.store ++ (b ∷ [])
      kept-last g = rw add-one (take-suc-set s.store s.line.gathered b (omega (arith, k.store)))

      keep-heard : (left gathered : ℕ) → 1 ≤ gathered → gathered ≤ U.longest → OpenIn (rules U) (view U s) h
          → begun (done (hears b) [] goes_on ∷ h) ≡ take gathered (set s.store s.line.gathered b) → left ≡ frame_wait - waited turns (done (hears b) [] goes_on ∷ h)
          → Heard (hearing (within s.line left gathered) Keep)
      keep-heard left gathered least most x y z =
          let m = within s.line left gathered in
          let store = set s.store s.line.gathered b in
          quiet-good s h k t (hears b) tt m store refl refl
          (record {
            is = open-still (rules U) tt none-frame (view U (moved U s m store)) refl refl (omega arith) x;
            gathers = y;
            some-gathered = some-long (take gathered store) (omega (arith, length-take-le gathered store (omega (arith, length-set s.store s.line.gathered b, k.store))));
            wait = z;
          })

      start-heard : s.line.phase ≡ Start → Heard (start_byte s.line b)
      unfolding start_byte
      start-heard e =
          let z = (stood U s k e).1 in
          let op = (stood U s k e).0 in
          let x = at U s h t e in
          let most : 1 ≤ U.longest = omega (arith, K.least s.asks op.sent, K.most s.asks op.sent) in
          pick Heard (same b 0x01) _ _
          (λ g.
          let one = holds-true (same b 0x01) g in
          let store = set s.store s.line.gathered b in
          keep-heard frame_wait 1 (lit≤ tt) most x.is
          (begun-next h goes_on b x.unbegun ∙ cond-true _ _ one
          ∙ sym (ap (λ (i : ℕ). take i s.store ++ (b ∷ [])) z) ∙ sym (kept-last (omega (arith, z))) ∙ ap (λ (i : ℕ). take (i + 1) store) z)
          (omega (arith, waited-start h goes_on b x.came x.unbegun one)))
          (λ n. skip-heard e n)

      -- the frame is full and is judged: it is the last bytes that came
      module _ (x : OpenIn (rules U) (view U s) h) (op : Live U s.line s.asks) (store f : List ℕ)
          (came : some (since h) ≡ true) (last : last_of (U.bytes.span s.asks) (bytes h ++ (b ∷ [])) ≡ f) where
        answer-good : (v : X) → U.judges s.asks f ≡ good v → (left : ℕ)
            → Good s h (hears b) (done_after (shut U s.asks answered (waits s.line left)) 1 (by_answer v) (set r 0 0x06)) store
        unfolding bytes
        answer-good v e left =
            subst (λ (put : List ℕ). Tracks U (next U s (done_after (shut U s.asks answered s.line) 1 (by_answer v) (set r 0 0x06)) store) (done (hears b) put (closes answered) ∷ h))
            (sym (one-put r 0x06 (omega arith)))
            (closes-good s h k t (hears b) tt x op (0x06 ∷ []) (one-frame 0x06) (inr (inl refl)) answered _ store
            (λ c.
            answered-kept s h k t (hears b) tt x op f v e c
            ∙ ap (λ (w : List ℕ). with-share U.bytes (totals U.bytes x.older c) (answered_by w) s.asks c) (sym last)))

        -- an answer which says that nothing was done
        void-good : (left : ℕ) → Good s h (hears b) (done_after (shut U s.asks refused (waits s.line left)) 1 by_refusal (set r 0 0x06)) store
        void-good left =
            subst (λ (put : List ℕ). Tracks U (next U s (done_after (shut U s.asks refused s.line) 1 by_refusal (set r 0 0x06)) store) (done (hears b) put (closes refused) ∷ h))
            (sym (one-put r 0x06 (omega arith)))
            (closes-good s h k t (hears b) tt x op (0x06 ∷ []) (one-frame 0x06) (inr (inl refl)) refused _ store (refused-kept s h k t (hears b) tt x op))

        judged-good : (v : Verdict X) → U.judges s.asks f ≡ v → (left : ℕ) → Good s h (hears b) (judged_step U v (waits s.line left) s.asks r) store
        judged-good bad e left = bad-good s h k t (hears b) tt x op r store (omega arith) (inr (inr (inl refl))) came left
        judged-good (good v) e left = answer-good v e left
        judged-good void e left = void-good left

      inside-heard : s.line.phase ≡ Inside → Heard (inside_byte s.line (U.bytes.span s.asks))
      unfolding inside_byte judge_step
      inside-heard e =
          let n = U.bytes.span s.asks in
          let y = at U s h t e in
          let x = y.is in
          let op = (stood U s k e).0 in
          let few = (stood U s k e).2 in
          let most = K.most s.asks op.sent in
          let store = set s.store s.line.gathered b in
          pick Heard (under (s.line.gathered + 1) n) _ _
          (λ g. keep-heard s.line.left (s.line.gathered + 1) (omega arith) (omega (arith, few, most)) x (grown U K s h k t b e) (omega (arith, y.wait, waited-inside h goes_on b (yet U K s h k t b e))))
          (λ m.
          let full : n ≡ s.line.gathered + 1 = omega (arith, few) in
          let f = take n store in
          judged-good x op store f (begun-came h (yet U K s h k t b e)) (full-last U K s h k t b e full) (U.judges s.asks f) refl s.line.left)

      heard-good : Heard (heard s.line (U.bytes.span s.asks) b)
      unfolding heard
      heard-good = by s.line.phase refl
        where
          by : (p : Phase) → s.line.phase ≡ p → Heard (heard_in p s.line (U.bytes.span s.asks) b)
          by Idle e = idle-heard e _ refl
          by First e = first-heard e
          by Start e = start-heard e
          by Inside e = inside-heard e

    -- ---- a tick

    module _ (s : Box R A) (h : History R O Ending) (k : Sound U s) (t : Tracks U s h) (ms : ℕ) (r : List ℕ) (long : 16 ≤ length r) where
      -- what the exchange says of a tick is what the history then says
      abbrev Passed : Turn → Type 0
      Passed u = Good s h (passes ms) (acted U u.todo u.line s.asks r) s.store

      -- with so much left of the wait
      abbrev left-with : ℕ → View R C
      left-with left = view U (moved U s (waits s.line left) s.store)

      same-since : since (done (passes ms) [] goes_on ∷ h) ≡ since h
      same-since = since-more h [] goes_on (passes ms) none-frame ∙ append-nil (since h)

      -- a wait that goes on, or quiet that has been reached
      waiting-on : (left : ℕ) → left ≡ s.line.left - ms → Passed (turn (waits s.line left) Nothing)
      unfolding quiet_time
      waiting-on left q =
          quiet-good s h k t (passes ms) tt (waits s.line left) s.store refl refl (by s.line.phase t.place)
        where
          longer : waited turns (done (passes ms) [] goes_on ∷ h) ≡ waited turns h + ms
          longer = waited-tick h goes_on ms

          same-begun : begun (done (passes ms) [] goes_on ∷ h) ≡ begun h
          same-begun = begun-tick h goes_on ms

          still : OpenIn (rules U) (view U s) h → OpenIn (rules U) (left-with left) (done (passes ms) [] goes_on ∷ h)
          still x = open-still (rules U) tt none-frame (left-with left) refl refl (omega arith) x

          by : (p : Phase) → At (rules U) (stage p) (view U s) h → At (rules U) (stage p) (left-with left) (done (passes ms) [] goes_on ∷ h)
          by Idle x = idle-still (rules U) tt none-frame (left-with left) refl (omega (arith, q, x.wait)) x
          by First x = record { is = still x.is; fresh = same-since ∙ x.fresh; unsent = x.unsent; wait = omega (arith, q, x.wait, longer) }
          by Start x =
              record {
                is = still x.is;
                came = ap some same-since ∙ x.came;
                unbegun = same-begun ∙ x.unbegun;
                wait = omega (arith, q, x.wait, longer);
              }
          by Inside x =
              record { is = still x.is; gathers = same-begun ∙ x.gathers; some-gathered = x.some-gathered; wait = omega (arith, q, x.wait, longer) }

      expired-good : (ms < s.line.left → ⊥) → Passed (expired s.line)
      unfolding expired bad_frame bad_step
      expired-good n = by s.line.phase refl
        where
          by : (p : Phase) → s.line.phase ≡ p → Passed (expired_in p s.line)
          by Idle e = waiting-on 0 (omega (arith, certain (at_most s.line.left ms) (λ w. n (omega arith))))
          by First e = lose-good s h k t (passes ms) tt (at U s h t e).is (stood U s k e) r s.store
          by Start e = lose-good s h k t (passes ms) tt (at U s h t e).is (stood U s k e).0 r s.store
          by Inside e =
              let x = at U s h t e in
              bad-good s h k t (passes ms) tt x.is (stood U s k e).0 r s.store (omega arith) (inr refl)
              (begun-came h (yet U K s h k t 0 e)) s.line.left

      passed-good : Passed (passed s.line ms)
      unfolding passed
      passed-good =
          pick Passed (under ms s.line.left) _ _ (λ g. waiting-on (s.line.left - ms) refl) (λ n. expired-good n)

    -- ---- the calls

    module _ (s : Box R A) (h : History R O Ending) (k : Sound U s) (t : Tracks U s h) where
      -- with nothing open, the line is idle
      idle-at : (p : Phase) → (is_open p ≡ true → ⊥) → At (rules U) (stage p) (view U s) h → IdleIn (rules U) (view U s) h
      idle-at Idle n x = x
      idle-at First n x = absurd (n refl)
      idle-at Start n x = absurd (n refl)
      idle-at Inside n x = absurd (n refl)

      idle-stage : (p : Phase) → (is_open p ≡ true → ⊥) → stage p ≡ idle
      idle-stage Idle n = refl
      idle-stage First n = absurd (n refl)
      idle-stage Start n = absurd (n refl)
      idle-stage Inside n = absurd (n refl)

      -- a request is accepted on an idle line
      opened-good : (q : R) (r : List ℕ) → (U.sendable q).holds → 16 ≤ length r → IdleIn (rules U) (view U s) h
          → Tracks U (opening U s q) (done (asks q) (take (U.hands q r).put (U.hands q r).room) goes_on ∷ h)
      opened-good q r sent long x =
          let w = view U (opening U s q) in
          subst (λ (put : List ℕ). Follows (rules U) w (done (asks q) put goes_on ∷ h)) (sym (layout-put U K q r sent long))
          (opened-follows (rules U) (view U s) w h t x refl refl refl refl (lit≤ tt) refl refl (layout-frame U K q sent)
          (λ c.
          ap plain (K.opens s.account q c)
          ∙ together (shows-opened U.bytes (U.cassette s.account c) (sums U.bytes h c) q c (roomy U K s k c) (apart (t.books c)) (x.over c) (le_trans (K.modest q c sent) K.small))))

      pub request-tracks : (q : R) (r : List ℕ) → Tracks U (called-request U s q r).session (told ending (asks q) (called-request U s q r).reply (called-request U s q r).room ∷ h)
      unfolding called-request request_refusals
      request-tracks q r =
          either_way (λ (w : After (Box R A) (Reply X)). Tracks U w.session (told ending (asks q) w.reply w.room ∷ h)) (request_refusals U s.line q r) (left U s r) _
          (λ why. declined-follows (rules U) (view U s) h t)
          (λ n.
          opened-good q r (certain (U.sendable q) n.1.0) (certain (at_most 16 (length r)) (λ w. n.0 (omega arith)))
          (idle-at s.line.phase n.1.1.0 t.place))

      pub byte-tracks : (b : ℕ) (r : List ℕ) → Tracks U (called-byte U s b r).session (told ending (hears b) (called-byte U s b r).reply (called-byte U s b r).room ∷ h)
      unfolding called-byte heard_step byte_refusals
      byte-tracks b r =
          either_way (λ (w : After (Box R A) (Reply X)). Tracks U w.session (told ending (hears b) w.reply w.room ∷ h)) (byte_refusals U r) (left U s r) _
          (λ why. declined-follows (rules U) (view U s) h t)
          (λ n. heard-good s h k t b r (certain (at_most 16 (length r)) (λ w. n.0 (omega arith))))

      pub tick-tracks : (ms : ℕ) (r : List ℕ) → Tracks U (called-tick U s ms r).session (told ending (passes ms) (called-tick U s ms r).reply (called-tick U s ms r).room ∷ h)
      unfolding called-tick tick_refusals
      tick-tracks ms r =
          either_way (λ (w : After (Box R A) (Reply X)). Tracks U w.session (told ending (passes ms) w.reply w.room ∷ h)) (tick_refusals U ms r) (left U s r) _
          (λ why. declined-follows (rules U) (view U s) h t)
          (λ n. passed-good s h k t ms r (certain (at_most 16 (length r)) (λ w. n.0 (omega arith))))

      pub clear-tracks : (o : O) → Tracks U (called-clear U s).session (told ending (own o) (called-clear U s).reply (called-clear U s).room ∷ h)
      unfolding called-clear clear_refusals least
      clear-tracks o =
          either_way (λ (w : After (Box R A) (Reply X)). Tracks U w.session (told ending (own o) w.reply w.room ∷ h)) (clear_refusals U s.line) (left U s []) _
          (λ why. declined-follows (rules U) (view U s) h t)
          (λ n.
          let x = idle-at s.line.phase n.0 t.place in
          cleared-follows (rules U) (view U s) (view U (cleared U s)) h o t x (idle-stage s.line.phase n.0) refl refl refl refl (λ c. refl))

      -- while a command is open, what is open of a cassette is what was asked of it
      pub open-pending : (c : C) → is_open s.line.phase ≡ true → (U.cassette s.account c).pending.0 ≡ U.bytes.wants s.asks c
      open-pending c o = by s.line.phase o refl
        where
          by : (p : Phase) → is_open p ≡ true → s.line.phase ≡ p → (U.cassette s.account c).pending.0 ≡ U.bytes.wants s.asks c
          by Idle o e = let z : ◌≡◌ {A = ℕ} 0 1 = cc in absurd (omega arith)
          by First o e = pending s h k t (hears 0) tt (at U s h t e).is (stood U s k e) c
          by Start o e = pending s h k t (hears 0) tt (at U s h t e).is (stood U s k e).0 c
          by Inside o e = pending s h k t (hears 0) tt (at U s h t e).is (stood U s k e).0 c
