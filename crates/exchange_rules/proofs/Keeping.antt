-- Every session over a lawful unit that calls lead to from a sound one is sound, and so none of its sums is ever cut. Assumes nothing.
use Prim.Native.Nat.{ℕ, ◌+◌, ◌-◌, ◌*◌, ◌≤◌, ◌<◌}
use mathlib.Core.Path.{◌≡◌, refl, sym, ap, ◌∙◌, subst}
use mathlib.Core.Bool.{true}
use mathlib.Core.List.{List, []}
use native.Mathlib.Nat.{le_refl, le_of_eq}
use native.Mathlib.Omega.{arith}
use lib.Dec.{lit≤, lit<}
use lib.ListN.{length, set, take, length-set}
use Rattle.refusals.specs.Rules.{under, same, NoneOf}
use Rattle.ledger.specs.Told.{Verdict, bad, good, void}
use Rattle.ledger.specs.Calls.{After}
use Rattle.refusals.proofs.Rules.{pick, either_way, certain}
use Rattle.exchange_rules.specs.Limits.{quiet, answer_wait, nak_wait, frame_wait, hand_overs, nak_limit, command_limit}
use Rattle.exchange_rules.specs.Exchange.{is_open, handed_again, closed, starting, inside, waits, doubted, first_byte, bad_frame, start_byte, inside_byte, heard_in, heard, expired_in, expired, passed}
use Rattle.exchange_rules.specs.Machine.{Model, Reply, Box, acted, bad_step, judged_step, judge_step, byte_acted, byte_refusals, tick_refusals, request_refusals, next, opening, left, called-request, heard_step, called-byte, called-tick, clear_refusals, called-clear}
use Rattle.exchange_rules.specs.Kept.{Live, Stands, settled, Within, Sound}
use Rattle.exchange_rules.specs.Owed.{Lawful}
use Rattle.exchange_rules.specs.declared.line.Phase.{Phase}
use Rattle.exchange_rules.specs.declared.line.Phase.TheVariants.{Idle, First, Start, Inside}
use Rattle.exchange_rules.specs.declared.line.Line.{Line}
use Rattle.exchange_rules.specs.declared.line.Todo.{Todo}
use Rattle.exchange_rules.specs.declared.line.Todo.TheVariants.{Nothing, HandOver, Nak, LastNak, CloseRefused, CloseUnknown}
use Rattle.exchange_rules.specs.declared.line.Heard.{Heard}
use Rattle.exchange_rules.specs.declared.line.Heard.TheVariants.{Keep, Judge, Do}
use Rattle.exchange_rules.specs.declared.line.Hearing.{Hearing}
use Rattle.exchange_rules.specs.declared.line.Turn.{Turn}
use Rattle.exchange_rules.proofs.Bounds.{one_more, bounded-longer, sums-opened, sums-answered, sums-refused, sums-unknown}

-- how many commands of a line have been closed
abbrev done-with : Line → ℕ
done-with l = settled l.phase l.accepted

-- no more commands have been closed than were accepted
pub settled-most : (p : Phase) (n : ℕ) → settled p n ≤ n
settled-most Idle n = le_refl n
settled-most First n = omega arith
settled-most Start n = omega arith
settled-most Inside n = omega arith

-- a frame is judged only where a command is open
judging-in : (p : Phase) (l : Line) (n b : ℕ) → (heard_in p l n b).heard ≡ Judge → is_open p ≡ true
judging-in Idle l n b e = let x : ◌≡◌ {A = ℕ} 0 1 = cc in absurd (omega arith)
judging-in First l n b e = refl
judging-in Start l n b e = refl
judging-in Inside l n b e = refl

judging : (l : Line) (n b : ℕ) → (heard l n b).heard ≡ Judge → is_open l.phase ≡ true
unfolding heard
judging l n b e = judging-in l.phase l n b e

module _ {R X A C : Type 0} (U : Model R X A C) where
  -- ---- the line

  -- a line with a command open
  record Busy (l : Line) (q : R) : Type 0 where
    is : Live U l q
    count : done-with l ≡ l.accepted - 1

  -- from l to m no command is accepted or closed
  record Still (l m : Line) (q : R) : Type 0 where
    accepted : m.accepted ≡ l.accepted
    count : done-with m ≡ done-with l
    stands : Stands U m.phase m q

  -- from l to m one command is closed
  record Closes (l m : Line) (q : R) : Type 0 where
    accepted : m.accepted ≡ l.accepted
    count : done-with l < m.accepted
    sent : (U.sendable q).holds

  -- what a turn of the line does, by what is to be done
  abbrev Does : Todo → Line → Line → R → Type 0
  Does Nothing l m q = Still l m q
  Does HandOver l m q = Still l m q
  Does Nak l m q = Still l m q
  Does LastNak l m q = Closes l m q
  Does CloseRefused l m q = Closes l m q
  Does CloseUnknown l m q = Closes l m q

  abbrev Turns : Line → R → Turn → Type 0
  Turns l q t = Does t.todo l t.line q

  -- and what a byte does
  abbrev Hears : Heard → Line → Line → R → Type 0
  Hears Keep l m q = Still l m q
  Hears Judge l m q = Still l m q × Busy m q
  Hears (Do t) l m q = Does t l m q

  abbrev Heeds : Line → R → Hearing → Type 0
  Heeds l q t = Hears t.heard l t.line q

  module _ (l : Line) (q : R) where
    -- the command stays open on a line with as many accepted
    open-on : (m : Line) → Live U l q → 1 ≤ m.handed → m.handed ≤ hand_overs → m.naks < nak_limit → m.accepted ≡ l.accepted → Live U m q
    open-on m o least most naks e = record { sent = o.sent; least = least; most = most; naks = naks; one = omega (arith, o.one) }

    -- a line that differs in a wait or in its count of doubts alone
    same-stands : (left doubts : ℕ) (p : Phase) → Stands U p l q → Stands U p (doubted (waits l left) doubts) q
    same-stands left doubts Idle st = tt
    same-stands left doubts First st = open-on (doubted (waits l left) doubts) st st.least st.most st.naks refl
    same-stands left doubts Start st = (open-on (doubted (waits l left) doubts) st.0 st.0.least st.0.most st.0.naks refl, st.1)
    same-stands left doubts Inside st = (open-on (doubted (waits l left) doubts) st.0 st.0.least st.0.most st.0.naks refl, st.1, st.2)

    same-still : (left doubts : ℕ) → Stands U l.phase l q → Still l (doubted (waits l left) doubts) q
    same-still left doubts st = record { accepted = refl; count = refl; stands = same-stands left doubts l.phase st }

    goes_on : (left : ℕ) → Stands U l.phase l q → Still l (waits l left) q
    goes_on left st = same-still left l.doubts st

  module _ (K : Lawful U) (l : Line) (q : R) (w : Busy l q) where
    -- the command closes
    closes : (need : ℕ) → Closes l (closed l need) q
    closes need = record { accepted = refl; count = omega (arith, w.is.one, w.count); sent = w.is.sent }

    -- an answer is waited for
    starts : (left naks : ℕ) → naks < nak_limit → Still l (starting l left naks) q
    starts left naks h =
        record { accepted = refl; count = sym w.count; stands = (open-on l q (starting l left naks) w.is w.is.least w.is.most h refl, refl) }

    -- so many bytes of an answer are inside_byte
    gathers : (left gathered : ℕ) → 1 ≤ gathered → gathered < U.bytes.span q → Still l (inside l left gathered) q
    gathers left gathered g h =
        record {
          accepted = refl;
          count = sym w.count;
          stands = (open-on l q (inside l left gathered) w.is w.is.least w.is.most w.is.naks refl, g, h);
        }

    -- the frame is handed over again
    hands : (n : ℕ) → 1 ≤ n → n ≤ hand_overs → Still l (handed_again l n) q
    hands n g h = record { accepted = refl; count = sym w.count; stands = open-on l q (handed_again l n) w.is g h w.is.naks refl }

    -- each turn of a line with a command open
    first-turns : (b : ℕ) → Heeds l q (first_byte l b)
    unfolding first_byte
    first-turns b =
        pick (Heeds l q) (same b 0x06) _ _
        (λ h. starts answer_wait l.naks w.is.naks)
        (λ n. pick (Heeds l q) (same b _) _ _
        (λ h. pick (Heeds l q) (under l.handed _) _ _ (λ g. hands (l.handed + 1) (omega (arith, w.is.least)) (omega arith)) (λ g. closes _))
        (λ m. closes _))

    bad-turns : Turns l q (bad_frame l)
    unfolding bad_frame
    bad-turns =
        pick (Turns l q) (under l.naks (nak_limit - 1)) _ _ (λ h. starts nak_wait (l.naks + 1) (omega arith)) (λ n. closes _)

    start-turns : (b : ℕ) → Stands U l.phase l q → Heeds l q (start_byte l b)
    unfolding start_byte
    start-turns b st =
        pick (Heeds l q) (same b 0x01) _ _
        (λ h. gathers frame_wait 1 (lit≤ tt) (K.least q w.is.sent))
        (λ n. goes_on l q l.left st)

    gathered-turns : Stands U l.phase l q → Heeds l q (inside_byte l (U.bytes.span q))
    unfolding inside_byte
    gathered-turns st =
        pick (Heeds l q) (under (l.gathered + 1) (U.bytes.span q)) _ _
        (λ h. gathers l.left (l.gathered + 1) (omega arith) h)
        (λ n. (goes_on l q l.left st, w))

  module _ (K : Lawful U) (l : Line) (q : R) (st : Stands U l.phase l q) where
    -- where a command is open
    live : (p : Phase) → l.phase ≡ p → is_open p ≡ true → Busy l q
    live Idle e o = let z : ◌≡◌ {A = ℕ} 0 1 = cc in absurd (omega arith)
    live First e o = record { is = subst (λ (p : Phase). Stands U p l q) e st; count = ap (λ (p : Phase). settled p l.accepted) e }
    live Start e o = record { is = (subst (λ (p : Phase). Stands U p l q) e st).0; count = ap (λ (p : Phase). settled p l.accepted) e }
    live Inside e o = record { is = (subst (λ (p : Phase). Stands U p l q) e st).0; count = ap (λ (p : Phase). settled p l.accepted) e }

    -- a byte, and a tick
    heard-turns : (b : ℕ) → Heeds l q (heard l (U.bytes.span q) b)
    unfolding heard
    heard-turns b = by l.phase refl
      where
        by : (p : Phase) → l.phase ≡ p → Heeds l q (heard_in p l (U.bytes.span q) b)
        by Idle e = goes_on l q _ st
        by First e = first-turns K l q (live First e refl) b
        by Start e = start-turns K l q (live Start e refl) b st
        by Inside e = gathered-turns K l q (live Inside e refl) st

    expired-turns : Turns l q (expired l)
    unfolding expired
    expired-turns = by l.phase refl
      where
        by : (p : Phase) → l.phase ≡ p → Turns l q (expired_in p l)
        by Idle e = goes_on l q 0 st
        by First e = closes K l q (live First e refl) _
        by Start e = closes K l q (live Start e refl) _
        by Inside e = bad-turns K l q (live Inside e refl)

    passed-turns : (ms : ℕ) → Turns l q (passed l ms)
    unfolding passed
    passed-turns ms = pick (Turns l q) (under ms l.left) _ _ (λ h. goes_on l q (l.left - ms) st) (λ n. expired-turns)

  -- ---- the session after a step

  module _ (K : Lawful U) (s : Box R A) (k : Sound U s) (m : Line) (store : List ℕ) (full : length store ≡ U.longest) where
    -- the session with a line and store, and some account
    abbrev with : Line → A → Box R A
    with n x = record { line = n; asks = s.asks; account = x; store = store }

    -- no command accepted or closed, nothing booked
    still-sound : Still s.line m s.asks → Sound U (with m s.account)
    still-sound t =
        record {
          stands = t.stands;
          commands = omega (arith, k.commands, t.accepted);
          books = λ c. bounded-longer (k.books c) (le_of_eq (ap (λ (n : ℕ). U.greatest * n) (sym t.accepted))) (le_of_eq (ap (λ (n : ℕ). U.greatest * n) (sym t.count)));
          store = full;
        }

    -- a command closed, its notes booked
    closes-sound : (need doubts : ℕ) (x : A) → Closes s.line m s.asks
        → ((c : C) → Within U.greatest s.line.accepted m.accepted (U.cassette x c)) → Sound U (with (doubted (closed m need) doubts) x)
    closes-sound need doubts x t b =
        record {
          stands = tt;
          commands = omega (arith, k.commands, t.accepted);
          books = λ c. bounded-longer (b c) (le_of_eq (ap (λ (n : ℕ). U.greatest * n) (sym t.accepted))) (le_refl _);
          store = full;
        }

    -- by what is to be done
    refused-sound : (need doubts : ℕ) → Closes s.line m s.asks → Sound U (with (doubted (closed m need) doubts) (U.closes_refused s.account s.asks))
    refused-sound need doubts t =
        closes-sound need doubts _ t (λ c.
        subst (Within U.greatest s.line.accepted m.accepted) (sym (K.closes_refused s.account s.asks c))
        (sums-refused (k.books c) (U.bytes.wants s.asks c) (K.modest s.asks c t.sent) (one_more U.greatest _ _ t.count)))

    unknown-sound : (need doubts : ℕ) → Closes s.line m s.asks → Sound U (with (doubted (closed m need) doubts) (U.closes_unknown s.account s.asks))
    unknown-sound need doubts t =
        closes-sound need doubts _ t (λ c.
        subst (Within U.greatest s.line.accepted m.accepted) (sym (K.closes_unknown s.account s.asks c))
        (sums-unknown (k.books c) (U.bytes.wants s.asks c) (K.modest s.asks c t.sent) (one_more U.greatest _ _ t.count)))

    acted-sound : (t : Todo) (r : List ℕ) → Does t s.line m s.asks → Sound U (next U s (acted U t m s.asks r) store)
    acted-sound Nothing r d = still-sound d
    acted-sound HandOver r d = still-sound d
    acted-sound Nak r d = still-sound d
    acted-sound LastNak r d = unknown-sound _ _ d
    acted-sound CloseRefused r d = refused-sound _ _ d
    acted-sound CloseUnknown r d = unknown-sound _ _ d

  -- ---- a frame that is judged

  module _ (K : Lawful U) (s : Box R A) (k : Sound U s) (w : Busy s.line s.asks) (r : List ℕ) where
    bad-sound : Sound U (next U s (bad_step U s.line s.asks r) s.store)
    unfolding bad_step
    bad-sound = acted-sound K s k (bad_frame s.line).line s.store k.store (bad_frame s.line).todo r (bad-turns K s.line s.asks w)

    -- what is open of a cassette is what was asked of it
    abbrev Pending : Type 0
    Pending = (c : C) → (U.cassette s.account c).pending.0 ≡ U.bytes.wants s.asks c

    judged-sound : Pending → (frame : List ℕ) (v : Verdict X) → U.judges s.asks frame ≡ v
        → Sound U (next U s (judged_step U v s.line s.asks r) s.store)
    judged-sound p frame bad e = bad-sound
    judged-sound p frame (good x) e =
        let c = closes K s.line s.asks w quiet in
        closes-sound K s k (closed s.line quiet) s.store k.store _ _ _ c (λ i.
        subst (Within U.greatest s.line.accepted s.line.accepted) (sym (K.answers s.account s.asks frame x i c.sent e (p i)))
        (sums-answered (k.books i) _ _ _ (K.modest s.asks i c.sent) (K.paid s.asks frame x i c.sent e) (K.spoilt s.asks frame x i c.sent e) (one_more U.greatest _ _ c.count)))
    judged-sound p frame void e = refused-sound K s k (closed s.line quiet) s.store k.store _ _ (closes K s.line s.asks w quiet)

  -- ---- a byte

  module _ (K : Lawful U) (s : Box R A) (k : Sound U s) (m : Line) (at b : ℕ) (r : List ℕ) where
    -- a byte laid in the store leaves its length
    set_full : length (set s.store at b) ≡ U.longest
    set_full = length-set s.store at b ∙ k.store

    byte-sound : (t : Heard) → (t ≡ Judge → (c : C) → (U.cassette s.account c).pending.0 ≡ U.bytes.wants s.asks c) → Hears t s.line m s.asks
        → Sound U (next U s (byte_acted U t m s.asks s.store at b r).step (byte_acted U t m s.asks s.store at b r).store)
    unfolding judge_step
    byte-sound Keep g d = still-sound K s k m (set s.store at b) set_full d
    byte-sound Judge g d =
        let store = set s.store at b in
        let v : Box R A = record { line = m; asks = s.asks; account = s.account; store = store } in
        let frame = take (U.bytes.span s.asks) store in
        judged-sound K v (still-sound K s k m store set_full d.0) d.1 r (g refl) frame (U.judges s.asks frame) refl
    byte-sound (Do t) g d = acted-sound K s k m s.store k.store t r d

  -- ---- the calls

  -- with nothing open every command accepted has been closed
  idle-count : (p : Phase) (n : ℕ) → (is_open p ≡ true → ⊥) → settled p n ≡ n
  idle-count Idle n h = refl
  idle-count First n h = absurd (h refl)
  idle-count Start n h = absurd (h refl)
  idle-count Inside n h = absurd (h refl)

  module _ (K : Lawful U) (s : Box R A) (k : Sound U s) where
    -- the calls, each refused or done
    request-done : (q : R) (r : List ℕ) → NoneOf (request_refusals U s.line q r) → Sound U (opening U s q)
    unfolding request_refusals
    request-done q r n =
        let sent = certain (U.sendable q) n.1.0 in
        let few : s.line.accepted < command_limit = certain (under s.line.accepted command_limit) (λ h. n.1.1.1.1.0 (omega arith)) in
        let e = idle-count s.line.phase s.line.accepted n.1.1.0 in
        record {
          stands = record { sent = sent; least = lit≤ tt; most = lit≤ tt; naks = lit< tt; one = omega arith };
          commands = omega arith;
          books = λ c.
              subst (Within U.greatest (s.line.accepted + 1) (s.line.accepted + 1 - 1)) (sym (K.opens s.account q c))
              (bounded-longer (sums-opened (k.books c) (U.bytes.wants q c) (K.modest q c sent) (le_refl _)) (one_more U.greatest _ _ (omega arith))
              (le_of_eq (ap (λ (n : ℕ). U.greatest * n) (omega (arith, e)))));
          store = k.store;
        }

    pub request-sound : (q : R) (r : List ℕ) → Sound U (called-request U s q r).session
    unfolding called-request
    request-sound q r = either_way (λ (w : After (Box R A) (Reply X)). Sound U w.session) (request_refusals U s.line q r) (left U s r) _ (λ why. k) (request-done q r)

    -- while bytes of an answer are inside_byte, what is open of a cassette is what was asked of it
    pub heard-sound : (b : ℕ) (r : List ℕ) → ((c : C) → is_open s.line.phase ≡ true → (U.cassette s.account c).pending.0 ≡ U.bytes.wants s.asks c)
        → Sound U (called-byte U s b r).session
    unfolding called-byte heard_step
    heard-sound b r g =
        let t = heard s.line (U.bytes.span s.asks) b in
        either_way (λ (w : After (Box R A) (Reply X)). Sound U w.session) (byte_refusals U r) (left U s r) _
        (λ why. k)
        (λ n. byte-sound K s k t.line s.line.gathered b r t.heard (λ e c. g c (judging s.line (U.bytes.span s.asks) b e)) (heard-turns K s.line s.asks k.stands b))

    pub passed-sound : (ms : ℕ) (r : List ℕ) → Sound U (called-tick U s ms r).session
    unfolding called-tick
    passed-sound ms r =
        let t = passed s.line ms in
        either_way (λ (w : After (Box R A) (Reply X)). Sound U w.session) (tick_refusals U ms r) (left U s r) _
        (λ why. k)
        (λ n. acted-sound K s k t.line s.store k.store t.todo r (passed-turns K s.line s.asks k.stands ms))

    -- the operator's clear leaves the phase, the commands, the books and the store
    pub clear-sound : Sound U (called-clear U s).session
    unfolding called-clear
    clear-sound =
        either_way (λ (w : After (Box R A) (Reply X)). Sound U w.session) (clear_refusals U s.line) (left U s []) _
        (λ why. k)
        (λ n. still-sound K s k _ s.store k.store (same-still s.line s.asks _ _ k.stands))
