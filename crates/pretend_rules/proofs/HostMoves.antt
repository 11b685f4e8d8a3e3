-- The host's moves keep the two ends together. Assumes nothing.
use Prim.Native.Nat.{ℕ, ◌+◌, ◌≤◌, ◌<◌}
use mathlib.Core.Path.{◌≡◌, refl, sym, ap, ◌∙◌, subst}
use mathlib.Core.Bool.{true, true≢false}
use mathlib.Core.List.{List, [], ◌∷◌, ◌++◌, append_assoc, append-nil}
use mathlib.Core.Logic.{inr, ⊎_elim}
use native.Mathlib.Numerals.{add-one}
use native.Mathlib.Omega.{arith}
use lib.ListN.{length, take, set, get_or, length-append, length-set}
use lib.Seq.{length-take-le, take-suc-set}
use Rattle.refusals.specs.Rules.{under, at_most}
use Rattle.refusals.proofs.Rules.{by_cases, certain}
use Rattle.refusals.proofs.Writing.{take-over}
use Rattle.error_codes.specs.Errors.{error_class}
use Rattle.dispenser_frame_rules.specs.Table.{answer_length}
use Rattle.dispenser_frame_rules.specs.Command.{sendable}
use Rattle.dispenser_frame_rules.specs.Answer.{answer_error, answer_frame, read_answer}
use Rattle.dispenser_frame_rules.specs.declared.answer.Cassette.TheVariants.{Upper, Lower}
use Rattle.dispenser_frame_rules.specs.declared.answer.Answer.{Answer}
use Rattle.dispenser_frame_rules.specs.declared.answer.Answer.TheVariants.{Purged, PaidOne, PaidBoth, Tested, Status}
use Rattle.dispenser_frame_rules.proofs.Codes.{answer-sized, answer-most}
use Rattle.dispenser_frame_rules.proofs.Trips.{answer_back, answer-length}
use Rattle.ledger.specs.Calls.{IsDone}
use Rattle.exchange_rules.specs.Exchange.{is_open}
use Rattle.exchange_rules.specs.Sums.{sums_opened, sums_answered, sums_rejected}
use Rattle.exchange_rules.specs.Kept.{Stands}
use Rattle.exchange_rules.specs.declared.line.Phase.{Phase}
use Rattle.exchange_rules.specs.declared.line.Phase.TheVariants.{Idle, First, Start, Inside}
use Rattle.exchange_rules.proofs.Views.{one-put}
use Rattle.dispenser_rules.specs.Account.{account_opened}
use Rattle.error_codes.specs.declared.ErrorClass.{ErrorClass}
use Rattle.dispenser_rules.specs.declared.session.Closing.TheVariants.{Nothing, Answered}
use Rattle.dispenser_rules.specs.Reply.{Done}
use Rattle.dispenser_rules.specs.Session.{After, account_asked, account_heard, hand_over, command, tick_refusals, request_refusals, clear_refusals, session_request, session_byte, session_tick, session_clear}
use Rattle.dispenser_rules.specs.Calls.{returned}
use Rattle.dispenser_rules.specs.Unit.{layout, unit, request_of}
use Rattle.dispenser_rules.specs.declared.account.Account.{Account}
use Rattle.dispenser_rules.specs.declared.session.Asked.{Asked}
use Rattle.dispenser_rules.proofs.Shown.{lawful}
use Rattle.dispenser_rules.proofs.Exact.{exactly-when}
use Rattle.dispenser_rules.proofs.Steps.{opens, either-outcome, request-opens, clear-clears, tick-passes, byte-acknowledges, byte-starts, byte-gathers, byte-closes}
use Rattle.pretend_rules.specs.Tally.{more, rejected_more, told}
use Rattle.pretend_rules.specs.Bench.{Bench, asks, clears, host-waits, host_called, host_heard, moved, HostInTime, shown}
use Rattle.pretend_rules.specs.declared.wire.Stand.{Stand}
use Rattle.pretend_rules.specs.declared.wire.Stand.TheVariants.{Idle as Resting, Reading, Awaiting, Sent}
use Rattle.pretend_rules.proofs.Together.{view, Settled, Asking, Answering, Joint, JointOf, Together, none-down, none_left, answer-opens}

-- ---- what the host's account shows of notes paid and rejected

-- a request that is accepted pays and rejects nothing
opened-shows : (a : Account) (c : Asked) (n put : ℕ) → shown (account_asked a c n (Done put Nothing)) ≡ shown a
unfolding account_asked account_opened sums_opened
opened-shows a c n put = refl

-- an answer is booked by the host as by the device
answered-shows : (a : Account) (c : Asked) (n : ℕ) (class : ErrorClass) (answer : Answer) → shown (account_heard a c n (Done 1 (Answered answer class))) ≡ told (shown a) answer
unfolding account_heard sums_answered sums_rejected more rejected_more
answered-shows a c n class (Purged e) = refl
answered-shows a c n class (PaidOne Upper chk x e s r) = refl
answered-shows a c n class (PaidOne Lower chk x e s r) = refl
answered-shows a c n class (PaidBoth uc ux lc lx e us ls ur lr) = refl
answered-shows a c n class (Tested Upper chk e s r) = refl
answered-shows a c n class (Tested Lower chk e s r) = refl
answered-shows a c n class (Status e s0 s1) = refl

-- ---- a tick

-- in time, where a command is open
open-in-time : (p : Phase) (left ms : ℕ) → HostInTime p left ms → is_open p ≡ true → ms < left
open-in-time Idle left ms h o = absurd (true≢false (sym o))
open-in-time First left ms h o = h
open-in-time Start left ms h o = h
open-in-time Inside left ms h o = h

module _ (b : Bench) (j : JointOf b) where
  pub host-waits-joint : (ms : ℕ) (r : List ℕ)
      → (IsDone (returned (session_tick b.host ms r).reply) → HostInTime b.host.line.phase b.host.line.left ms)
      → JointOf (moved b (host-waits ms r))
  host-waits-joint ms r fair =
      let still = none-down b.host.line.phase b.device.wire.stand (view b) j in
      let exact = exactly-when.tick b.host ms r in
      either-outcome (λ (w : After). JointOf (host_called b w)) (tick_refusals ms r) b.host r (session_tick b.host ms r) exact
      (λ why. still)
      (λ n.
      let t = tick-passes b.host ms r n (open-in-time b.host.line.phase b.host.line.left ms (fair (exact.done.1 n))) in
      subst (λ (w : After). JointOf (host_called b w)) (sym t.1) still)

-- ---- clear

module _ (b : Bench) (j : JointOf b) where
  pub clears-joint : JointOf (moved b clears)
  clears-joint =
      let still = none-down b.host.line.phase b.device.wire.stand (view b) j in
      either-outcome (λ (w : After). JointOf (host_called b w)) (clear_refusals b.host.line) b.host [] (session_clear b.host)
      (exactly-when.clear b.host)
      (λ why. still)
      (λ n. subst (λ (w : After). JointOf (host_called b w)) (sym (clear-clears b.host n)) still)

-- ---- a request

-- the command's frame is handed over whole
handed-put : (a : Asked) (r : List ℕ) → (sendable a.code a.upper a.lower).holds → 16 ≤ length r
    → take (hand_over (command a.code a.upper a.lower) r).put (hand_over (command a.code a.upper a.lower) r).room ≡ layout (request_of a)
handed-put a r h long = ap (λ w. take w.put w.room) (lawful.laid (request_of a) r h long) ∙ take-over (layout (request_of a)) r

module _ (b : Bench) (j : JointOf b) (code upper lower : ℕ) (r : List ℕ) where
  -- the command's frame is on its way, behind what was
  opened-asks : (lead : List ℕ) → Settled lead [] (view b) → (sendable code upper lower).holds → 16 ≤ length r
      → Asking [] lead (view (host_called b (opens b.host code upper lower r)))
  opened-asks lead z sends long =
      let a = command code upper lower in
      record {
        agree = opened-shows b.host.account a 1 (hand_over a r).put ∙ z.agree;
        owed = ap (λ (i : ℕ). i + 1) z.even;
        whole = ap (λ (l : List ℕ). l ++ take (hand_over a r).put (hand_over a r).room) z.below ∙ ap (λ (l : List ℕ). lead ++ l) (handed-put a r sends long);
        above = z.above;
      }

  opens-joint : (p : Phase) (q : Stand) → Joint p q (view b) → (is_open p ≡ true → ⊥)
      → (sendable code upper lower).holds → 16 ≤ length r → Joint First q (view (host_called b (opens b.host code upper lower r)))
  opens-joint Idle Resting j n sends long = (opened-asks [] j.0 sends long, j.1)
  opens-joint Idle Reading j n sends long = absurd j
  opens-joint Idle Awaiting j n sends long = absurd j
  opens-joint Idle Sent j n sends long = inr (opened-asks (0x06 ∷ []) j sends long)
  opens-joint First q j n sends long = absurd (n refl)
  opens-joint Start q j n sends long = absurd (n refl)
  opens-joint Inside q j n sends long = absurd (n refl)

  pub asks-joint : JointOf (moved b (asks code upper lower r))
  unfolding request_refusals
  asks-joint =
      either-outcome (λ (w : After). JointOf (host_called b w)) (request_refusals b.host.line code upper lower r) b.host r
      (session_request b.host code upper lower r) (exactly-when.request b.host code upper lower r)
      (λ why. none-down b.host.line.phase b.device.wire.stand (view b) j)
      (λ n.
      subst (λ (w : After). JointOf (host_called b w)) (sym (request-opens b.host code upper lower r n))
      (opens-joint b.host.line.phase b.device.wire.stand j n.1.1.0
      (certain (sendable code upper lower) n.1.0) (certain (at_most 16 (length r)) (λ w. n.0 (omega arith)))))

-- ---- a byte

module _ (b : Bench) (k : Together b) (x : ℕ) (rest r : List ℕ) (e : b.to_host ≡ x ∷ rest) (long : 16 ≤ length r) where
  -- after a call with the byte
  abbrev heard : After → Bench
  heard w = host_called (record { host = b.host; device = b.device; to_device = b.to_device; to_host = rest }) w

  abbrev Hears : Type 0
  Hears = JointOf (heard (session_byte b.host x r))

  -- the byte does this, with the device where it stood
  does : {p : Phase} {q : Stand} (w : After) → session_byte b.host x r ≡ w → w.session.line.phase ≡ p → b.device.wire.stand ≡ q
      → Joint p q (view (heard w)) → Hears
  does {p} {q} w g m d j =
      subst (λ (w : After). JointOf (heard w)) (sym g)
      (subst (λ (p : Phase). Joint p b.device.wire.stand (view (heard w))) (sym m) (subst (λ (q : Stand). Joint p q (view (heard w))) (sym d) j))

  -- nothing was on its way
  nothing : {A : Type 0} → b.to_host ≡ [] → A
  nothing n = absurd (let z : ◌≡◌ {A = ℕ} 0 1 = cc in omega arith)

  none-put : {l : List ℕ} → b.to_device ≡ l → b.to_device ++ [] ≡ l
  none-put g = append-nil b.to_device ∙ g

  -- 06h, with the answer right behind it
  answer-next : b.host.line.phase ≡ First → b.device.wire.stand ≡ Sent → Answering [] (0x06 ∷ []) (view b) → Hears
  answer-next p d j =
      let up : x ∷ rest ≡ 0x06 ∷ answer_frame j.answer = sym e ∙ j.whole in
      does _ (byte-acknowledges b.host x r long p (cc)) refl d
      (record { answer = j.answer; suits = j.suits; fits = j.fits; owes = j.owes; even = j.even; below = none-put j.below; whole = cc })

  -- 06h: from now on an answer is waited for
  acknowledged : (q : Stand) → b.host.line.phase ≡ First → b.device.wire.stand ≡ q → Joint First q (view b) → Hears
  acknowledged Resting p d j = nothing j.0.above
  acknowledged Reading p d j = nothing j.0.above
  acknowledged Awaiting p d j =
      let up : x ∷ rest ≡ 0x06 ∷ [] = sym e ∙ j.0.above in
      does _ (byte-acknowledges b.host x r long p (cc)) refl d
      (record { agree = j.0.agree; even = j.0.even; below = none-put j.0.below; above = cc }, j.1)
  acknowledged Sent p d j = ⊎_elim (λ a. answer-next p d a) (λ a. nothing a.above) j

  stood : {p : Phase} → b.host.line.phase ≡ p → Stands unit p b.host.line (request_of b.host.asked)
  stood g = subst (λ (p : Phase). Stands unit p b.host.line (request_of b.host.asked)) g k.kept.sound.stands

  -- 01h: the answer starts
  started : (q : Stand) → b.host.line.phase ≡ Start → b.device.wire.stand ≡ q → Joint Start q (view b) → Hears
  started Resting p d j = absurd j
  started Reading p d j = absurd j
  started Awaiting p d j = nothing j.0.above
  started Sent p d j =
      let up : x ∷ rest ≡ answer_frame j.answer = sym e ∙ j.whole in
      let kept : take 1 (set b.host.store b.host.line.gathered x) ≡ x ∷ [] =
      ap (λ (i : ℕ). take 1 (set b.host.store i x)) (stood p).1 ∙ take-suc-set b.host.store 0 x (omega (arith, k.kept.sound.store)) in
      does _ (byte-starts b.host x r long p (ap (λ (l : List ℕ). get_or l 0 0) up ∙ answer-opens j.answer)) refl d
      (record {
        answer = j.answer;
        suits = j.suits;
        fits = j.fits;
        owes = j.owes;
        even = j.even;
        below = none-put j.below;
        whole = ap (λ (l : List ℕ). l ++ rest) kept ∙ up;
      })

  -- a further byte of the answer, and its last
  gathers : b.host.line.phase ≡ Inside → b.device.wire.stand ≡ Sent → Joint Inside Sent (view b) → Hears
  gathers p d j =
      let s = b.host in
      let a = j.answer in
      let got = s.line.gathered in
      let store = set s.store got x in
      let span : s.asked.span ≡ answer_length s.asked.code = k.kept.own in
      let few : got < s.asked.span = omega (arith, (stood p).2, span) in
      let room : got + 1 ≤ length store = omega (arith, few, span, answer-most s.asked.code, length-set s.store got x, k.kept.sound.store) in
      let kept : take (got + 1) store ≡ take got s.store ++ (x ∷ []) =
      rw add-one (take-suc-set s.store got x (omega (arith, room, length-set s.store got x))) in
      let whole : take (got + 1) store ++ rest ≡ answer_frame a =
      ap (λ (l : List ℕ). l ++ rest) kept ∙ append_assoc (take got s.store) (x ∷ []) rest
      ∙ ap (λ (l : List ℕ). take got s.store ++ l) (sym e) ∙ j.whole in
      by_cases (under (got + 1) s.asked.span)
      (λ g.
      does _ (byte-gathers s x r long p g) refl d
      (record { answer = a; suits = j.suits; fits = j.fits; owes = j.owes; even = j.even; below = none-put j.below; whole = whole }))
      (λ n.
      let size : length (answer_frame a) ≡ s.asked.span = answer-length a j.fits ∙ sym (answer-sized a) ∙ ap answer_length j.suits ∙ sym span in
      let full : s.asked.span ≡ got + 1 = omega (arith, few, certain (at_most s.asked.span (got + 1)) (λ m. n (omega (arith, certain (under (got + 1) s.asked.span) (λ z. m (omega (arith, z))))))) in
      let last : rest ≡ [] =
      none_left rest (omega (arith, full, size, length-take-le (got + 1) store room, ap length whole, length-append (take (got + 1) store) rest)) in
      let found : take s.asked.span store ≡ answer_frame a =
      ap (λ (i : ℕ). take i store) full ∙ sym (append-nil (take (got + 1) store)) ∙ ap (λ (l : List ℕ). take (got + 1) store ++ l) (sym last) ∙ whole in
      does _ (byte-closes s x r long p n a (error_class (answer_error a)) (ap read_answer found ∙ answer_back a j.fits) j.suits) refl d
      (record {
        agree = answered-shows s.account s.asked s.line.handed (error_class (answer_error a)) a ∙ j.owes;
        even = j.even;
        below = ap (λ (l : List ℕ). l ++ take 1 (set r 0 0x06)) j.below ∙ one-put r 0x06 (omega arith);
        above = last;
      }))

  pub host-hears-joint : JointOf (host_heard b (x ∷ rest) r)
  host-hears-joint = by b.host.line.phase b.device.wire.stand refl refl k.joint
    where
      by : (p : Phase) (q : Stand) → b.host.line.phase ≡ p → b.device.wire.stand ≡ q → Joint p q (view b) → Hears
      by Idle Resting p d j = nothing j.0.above
      by Idle Reading p d j = absurd j
      by Idle Awaiting p d j = absurd j
      by Idle Sent p d j = nothing j.above
      by First q p d j = acknowledged q p d j
      by Start q p d j = started q p d j
      by Inside Resting p d j = absurd j
      by Inside Reading p d j = absurd j
      by Inside Awaiting p d j = absurd j
      by Inside Sent p d j = gathers p d j
