-- The device's moves keep the two ends together. Assumes nothing.
use Prim.Native.Nat.{ℕ, ◌+◌, ◌-◌, ◌≤◌, ◌<◌}
use mathlib.Core.Path.{◌≡◌, refl, sym, ap, ◌∙◌, subst}
use mathlib.Core.Bool.{true, true≢false}
use mathlib.Core.List.{List, [], ◌∷◌, ◌++◌, append_assoc, append-nil}
use mathlib.Core.Logic.{inl, ⊎_elim}
use native.Mathlib.Numerals.{add-one}
use native.Mathlib.Omega.{arith}
use lib.ListN.{length, take, set, get_or, length-append, length-set}
use lib.Seq.{length-take-le, take-suc-set, get_or_at}
use Rattle.refusals.specs.Rules.{says, under, at_most, same}
use Rattle.refusals.proofs.Rules.{pick, either_way, by_cases, certain, none-judged, holds-true, fails-false}
use Rattle.refusals.proofs.Writing.{take-over}
use Rattle.xor_frame.proofs.Lengths.{length-known}
use Rattle.dispenser_frame_rules.specs.Table.{known, command_fields, command_length}
use Rattle.dispenser_frame_rules.specs.Command.{sendable, read_command}
use Rattle.dispenser_frame_rules.specs.Answer.{answer_fits, answer_frame}
use Rattle.dispenser_frame_rules.specs.declared.answer.Answer.{Answer}
use Rattle.dispenser_frame_rules.specs.CommandRead.{CommandRead}
use Rattle.dispenser_frame_rules.proofs.Codes.{command-longest}
use Rattle.dispenser_frame_rules.proofs.Trips.{command-back, command-length}
use Rattle.ledger.specs.Calls.{IsDone}
use Rattle.exchange_rules.specs.Kept.{Stands}
use Rattle.exchange_rules.specs.declared.line.Phase.{Phase}
use Rattle.exchange_rules.specs.declared.line.Phase.TheVariants.{Idle, First, Start, Inside}
use Rattle.exchange_rules.proofs.Views.{one-put}
use Rattle.dispenser_rules.specs.Unit.{unit, request_of}
use Rattle.pretend_rules.specs.Limits.{command_wait, code_place, answer_limit}
use Rattle.pretend_rules.specs.Wire.{turn, hearing, reading, sent, waits, is_awaiting, idle_byte, code_byte, last_byte, command_byte, answer_byte, heard_in, heard, expired_in, expired, passed}
use Rattle.pretend_rules.specs.Tally.{told}
use Rattle.pretend_rules.specs.Device.{StepAfter, ByteAfter, step_after, byte_after, done_after, refused_step, send, acted, judged_step, judge_step, byte_acted, byte_refusals, tick_refusals, tell_refusals, byte_step, tick_step, tell_step, suits, by_byte, by_tick, by_telling, device_byte, device_tick, device_tell}
use Rattle.pretend_rules.specs.Calls.{returned}
use Rattle.pretend_rules.specs.Bench.{Bench, tells, device-waits, device_called, device_heard, moved, DeviceInTime}
use Rattle.pretend_rules.specs.declared.wire.Stand.{Stand}
use Rattle.pretend_rules.specs.declared.wire.Stand.TheVariants.{Idle as Resting, Reading, Awaiting, Sent}
use Rattle.pretend_rules.specs.declared.wire.Wire.{Wire}
use Rattle.pretend_rules.specs.declared.wire.Act.TheVariants.{Nothing}
use Rattle.pretend_rules.specs.declared.wire.Turn.{Turn}
use Rattle.pretend_rules.specs.declared.wire.Heard.{Heard}
use Rattle.pretend_rules.specs.declared.wire.Heard.TheVariants.{Keep, Judge, Do}
use Rattle.pretend_rules.specs.declared.wire.Hearing.{Hearing}
use Rattle.pretend_rules.specs.declared.device.Happening.TheVariants.{Nothing as NoHappening}
use Rattle.pretend_rules.specs.declared.device.Device.{Device}
use Rattle.pretend_rules.proofs.Exact.{exactly-when}
use Rattle.pretend_rules.proofs.Sending.{sent-laid}
use Rattle.pretend_rules.proofs.Together.{View, view, asking, due, Settled, Asking, Answering, Joint, JointOf, Together, none-up, none_left, command-opens, command-says}

-- ---- a tick

-- a tick in time takes of the wait, and does nothing else
in-time : (w : Wire) (ms : ℕ) → DeviceInTime w.stand w.left ms → (left : ℕ) × (passed w ms ≡ turn (waits w left) Nothing)
unfolding passed expired
in-time w ms h =
    pick (λ (t : Turn). (left : ℕ) × (t ≡ turn (waits w left) Nothing)) (under ms w.left) _ _
    (λ g. (w.left - ms, refl))
    (λ n. by w.stand h n)
  where
    by : (q : Stand) → DeviceInTime q w.left ms → (ms < w.left → ⊥) → (left : ℕ) × (expired_in q w ≡ turn (waits w left) Nothing)
    by Resting h n = (0, refl)
    by Reading h n = absurd (n h)
    by Awaiting h n = (0, refl)
    by Sent h n = absurd (n h)

module _ (b : Bench) (j : JointOf b) where
  -- the device after a step that a tick makes
  abbrev ticked : StepAfter → Bench
  ticked w = device_called b (by_tick b.device w)

  pub device-waits-joint : (ms : ℕ) (r : List ℕ)
      → (IsDone (returned (device_tick b.device ms r).reply) → DeviceInTime b.device.wire.stand b.device.wire.left ms)
      → JointOf (moved b (device-waits ms r))
  unfolding device_tick tick_step
  device-waits-joint ms r fair =
      let quiet = none-up b.host.line.phase b.device.wire.stand (view b) j in
      either_way (λ (w : StepAfter). JointOf (ticked w)) (tick_refusals ms r) _ _
      (λ why. quiet)
      (λ n.
      let t = in-time b.device.wire ms (fair ((exactly-when.tick b.device ms r).done.1 n)) in
      subst (λ (u : Turn). JointOf (ticked (acted u.act u.wire b.device.answer r))) (sym t.1) quiet)

-- ---- the answer's fields

-- an answer that fits is put whole
sent-put : (a : Answer) (r : List ℕ) → (answer_fits a).holds → 21 ≤ length r → take (send a r).put (send a r).room ≡ answer_frame a
sent-put a r h long = ap (λ v. take v.put v.room) (sent-laid a r h long) ∙ take-over (answer_frame a) r

module _ (b : Bench) (j : JointOf b) (a : Answer) (r : List ℕ) where
  -- the device after what telling makes
  abbrev told_by : StepAfter → Bench
  told_by w = device_called b (by_telling b.device a w)

  abbrev sends : StepAfter
  sends = done_after (sent b.device.wire 1) (send a r).put NoHappening (send a r).room

  -- the answer is on its way behind what was
  answers : (lead : List ℕ) → Settled [] lead (view b) → b.device.code ≡ b.host.asked.code → (suits a b.device.code).holds → 21 ≤ length r
      → Answering [] lead (view (told_by sends))
  answers lead z same_code fit long =
      record {
        answer = a;
        suits = fit.0 ∙ same_code;
        fits = fit.1;
        owes = ap (λ t. told t a) z.agree;
        even = z.even;
        below = z.below;
        whole = ap (λ (l : List ℕ). l ++ take (send a r).put (send a r).room) z.above ∙ ap (λ (l : List ℕ). lead ++ l) (sent-put a r fit.1 long);
      }

  tells-by : (p : Phase) (q : Stand) → Joint p q (view b) → is_awaiting q ≡ true → (suits a b.device.code).holds → 21 ≤ length r
      → Joint p Sent (view (told_by sends))
  tells-by p Resting j n fit long = absurd (true≢false (sym n))
  tells-by p Reading j n fit long = absurd (true≢false (sym n))
  tells-by Idle Awaiting j n fit long = absurd j
  tells-by First Awaiting j n fit long = inl (answers (0x06 ∷ []) j.0 j.1 fit long)
  tells-by Start Awaiting j n fit long = answers [] j.0 j.1 fit long
  tells-by Inside Awaiting j n fit long = absurd j
  tells-by p Sent j n fit long = absurd (true≢false (sym n))

  pub tells-joint : JointOf (moved b (tells a r))
  unfolding device_tell tell_step tell_refusals
  tells-joint =
      either_way (λ (w : StepAfter). JointOf (told_by w)) (tell_refusals b.device.wire b.device.code a r)
      (λ why. step_after (refused_step b.device.wire why) r) sends
      (λ why. none-up b.host.line.phase b.device.wire.stand (view b) j)
      (λ n.
      let waited : is_awaiting b.device.wire.stand ≡ true = certain (says (is_awaiting b.device.wire.stand)) n.1.1.0 in
      tells-by b.host.line.phase b.device.wire.stand j waited
      (certain (suits a b.device.code) (λ m. n.1.0 (waited, m))) (certain (at_most 21 (length r)) (λ w. n.0 (omega arith))))

-- ---- a byte

-- how many bytes are due
due-early : (got code : ℕ) → got < 4 → due got code ≡ 4
due-early got code h = rw (holds-true (under got 4) h)

due-late : (got code : ℕ) → 4 ≤ got → due got code ≡ command_length code
due-late got code h = rw (fails-false (under got 4) (λ g. omega arith))

module _ (b : Bench) (k : Together b) (x : ℕ) (rest r : List ℕ) (e : b.to_device ≡ x ∷ rest) (long : 21 ≤ length r) where
  -- the device after what a byte makes
  abbrev heard_by : ByteAfter → Bench
  heard_by w = device_called (record { host = b.host; device = b.device; to_device = rest; to_host = b.to_host }) (by_byte b.device w)

  abbrev Hears : Hearing → Type 0
  Hears u = JointOf (heard_by (byte_acted u.heard u.wire b.device.answer b.device.store b.device.wire.gathered x r))

  -- nothing was on its way
  nothing : {A : Type 0} → b.to_device ≡ [] → A
  nothing n = absurd (let z : ◌≡◌ {A = ℕ} 0 1 = cc in omega arith)

  -- the host stands where it stood
  on : {p : Phase} (q : Stand) (v : View) → b.host.line.phase ≡ p → Joint p q v → Joint b.host.line.phase q v
  on q v d j = subst (λ (p : Phase). Joint p q v) (sym d) j

  none-put : {l : List ℕ} → b.to_host ≡ l → b.to_host ++ [] ≡ l
  none-put g = append-nil b.to_host ∙ g

  -- 06h to an answer ends the exchange
  ends : b.host.line.phase ≡ Idle → Settled (0x06 ∷ []) [] (view b) → Hears (answer_byte b.device.wire x)
  unfolding answer_byte
  ends p j =
      let down : x ∷ rest ≡ 0x06 ∷ [] = sym e ∙ j.below in
      let six : x ≡ 0x06 = cc in
      let last : rest ≡ [] = cc in
      pick Hears (same x 0x06) _ _
      (λ g. on Resting _ p (record { agree = j.agree; even = j.even; below = last; above = none-put j.above }, refl))
      (λ n. absurd (n six))

  -- also where the host has opened its next command behind it
  next-asks : b.host.line.phase ≡ First → Asking [] (0x06 ∷ []) (view b) → Hears (answer_byte b.device.wire x)
  unfolding answer_byte
  next-asks p j =
      let down : x ∷ rest ≡ 0x06 ∷ asking b.host.asked = sym e ∙ j.whole in
      let six : x ≡ 0x06 = cc in
      let last : rest ≡ asking b.host.asked = cc in
      pick Hears (same x 0x06) _ _
      (λ g. on Resting _ p (record { agree = j.agree; owed = j.owed; whole = last; above = none-put j.above }, refl))
      (λ n. absurd (n six))

  -- a command's opening byte
  begins : b.host.line.phase ≡ First → Asking [] [] (view b) → b.device.wire.gathered ≡ 0 → Hears (idle_byte b.device.wire x)
  unfolding idle_byte
  begins p j none =
      let a = b.host.asked in
      let down : x ∷ rest ≡ asking a = sym e ∙ j.whole in
      let four : x ≡ 0x04 = ap (λ (l : List ℕ). get_or l 0 0) down ∙ command-opens a.code a.upper a.lower in
      let kept : take 1 (set b.device.store b.device.wire.gathered x) ≡ x ∷ [] =
      ap (λ (i : ℕ). take 1 (set b.device.store i x)) none ∙ take-suc-set b.device.store 0 x (omega (arith, k.store)) in
      pick Hears (same x 0x04) (hearing (reading b.device.wire command_wait 1 (code_place + 1)) Keep)
      (hearing (waits b.device.wire b.device.wire.left) (Do Nothing))
      (λ g.
      on Reading _ p (
        record { agree = j.agree; owed = j.owed; whole = ap (λ (l : List ℕ). l ++ rest) kept ∙ down; above = none-put j.above },
        (ap length kept, refl),
      ))
      (λ n. absurd (n four))

  -- the command's further bytes
  module _ (p : b.host.line.phase ≡ First) (j : Asking (take b.device.wire.gathered b.device.store) [] (view b))
      (many : length (take b.device.wire.gathered b.device.store) ≡ b.device.wire.gathered)
      (spans : b.device.wire.span ≡ due b.device.wire.gathered b.host.asked.code) where
    abbrev got : ℕ
    got = b.device.wire.gathered

    abbrev store : List ℕ
    store = set b.device.store got x

    op : Stands unit First b.host.line (request_of b.host.asked)
    op = subst (λ (p : Phase). Stands unit p b.host.line (request_of b.host.asked)) p k.kept.sound.stands

    down : take got b.device.store ++ (x ∷ rest) ≡ asking b.host.asked
    down = ap (λ (l : List ℕ). take got b.device.store ++ l) (sym e) ∙ j.whole

    known-code : (known b.host.asked.code).holds
    unfolding sendable
    known-code = op.sent.0

    size : length (asking b.host.asked) ≡ command_length b.host.asked.code
    size =
        command-length b.host.asked.code b.host.asked.upper b.host.asked.lower op.sent
        ∙ sym (length-known known command_fields b.host.asked.code (holds-true (known b.host.asked.code) known-code))

    ten : command_length b.host.asked.code ≤ 10
    ten = command-longest b.host.asked.code

    -- one more at least
    lengths : got + (1 + length rest) ≡ command_length b.host.asked.code
    lengths = omega (arith, many, size, ap length down, length-append (take got b.device.store) (x ∷ rest))

    kept : take (got + 1) store ≡ take got b.device.store ++ (x ∷ [])
    kept = rw add-one (take-suc-set b.device.store got x (omega (arith, k.store, lengths, ten)))

    whole : take (got + 1) store ++ rest ≡ asking b.host.asked
    whole = ap (λ (l : List ℕ). l ++ rest) kept ∙ append_assoc (take got b.device.store) (x ∷ []) rest ∙ down

    front : length (take (got + 1) store) ≡ got + 1
    front = length-take-le (got + 1) store (omega (arith, length-set b.device.store got x, k.store, lengths, ten))

    -- it goes on: the n-th byte, with so many due
    goes_on : (n span : ℕ) → n ≡ got + 1 → span ≡ due n b.host.asked.code
        → Hears (hearing (reading b.device.wire b.device.wire.left n span) Keep)
    goes_on n span is w =
        on Reading _ p (
          record {
            agree = j.agree;
            owed = j.owed;
            whole = ap (λ (i : ℕ). take i store ++ rest) is ∙ whole;
            above = none-put j.above;
          },
          (ap (λ (i : ℕ). length (take i store)) is ∙ front ∙ sym is, w),
        )

    due-next : got + 1 < b.device.wire.span → b.device.wire.span ≡ due (got + 1) b.host.asked.code
    due-next h =
        by_cases (under got 4)
        (λ g.
        let four : b.device.wire.span ≡ 4 = spans ∙ due-early got b.host.asked.code g in
        four ∙ sym (due-early (got + 1) b.host.asked.code (omega arith)))
        (λ n. spans ∙ due-late got b.host.asked.code (omega (arith, n)) ∙ sym (due-late (got + 1) b.host.asked.code (omega (arith, n))))

    code_reads : got ≡ code_place → Hears (code_byte b.device.wire (code_place + 1) x)
    unfolding code_byte
    code_reads three =
        let a = b.host.asked in
        let is : x ≡ a.code =
        sym (get_or_at (take got b.device.store) x rest 0 code_place (many ∙ three)) ∙ ap (λ (l : List ℕ). get_or l code_place 0) down
        ∙ command-says a.code a.upper a.lower in
        pick Hears (known x) _ _
        (λ g. goes_on (code_place + 1) (command_length x) (ap (λ (i : ℕ). i + 1) (sym three)) (ap command_length is))
        (λ n. absurd (n (subst (λ (c : ℕ). (known c).holds) (sym is) known-code)))

    judges : 4 ≤ got → (got + 1 < b.device.wire.span → ⊥) → Hears (hearing (waits b.device.wire b.device.wire.left) Judge)
    unfolding judge_step
    judges late full =
        let a = b.host.asked in
        let w = b.device.wire in
        let want : w.span ≡ command_length a.code = spans ∙ due-late got a.code late in
        let last : rest ≡ [] = none_left rest (omega (arith, lengths, full)) in
        let is : w.span ≡ got + 1 = omega (arith, lengths, ap length last) in
        let found : take w.span store ≡ asking a =
        ap (λ (i : ℕ). take i store) is ∙ sym (append-nil (take (got + 1) store)) ∙ ap (λ (l : List ℕ). take (got + 1) store ++ l) (sym last) ∙ whole in
        subst (λ (y : CommandRead). JointOf (heard_by (record { step = judged_step y (waits w w.left) r; store = store })))
        (sym (ap read_command found ∙ command-back a.code a.upper a.lower op.sent))
        (pick (λ (v : StepAfter). JointOf (heard_by (record { step = v; store = store }))) (under w.answered answer_limit) _ _
        (λ g.
        on Awaiting _ p (
          record {
            agree = j.agree;
            even = j.owed;
            below = last;
            above = ap (λ (l : List ℕ). l ++ take 1 (set r 0 0x06)) j.above ∙ one-put r 0x06 (omega arith);
          },
          refl,
        ))
        (λ n. absurd (n (omega (arith, j.owed, k.kept.sound.commands)))))

    reads : Hears (command_byte b.device.wire x)
    unfolding command_byte last_byte
    reads =
        pick Hears (under (got + 1) b.device.wire.span) _ _
        (λ g. goes_on (got + 1) b.device.wire.span refl (due-next g))
        (λ n.
        pick Hears (same got code_place) _ _
        (λ g. code_reads g)
        (λ m.
        judges
        (certain (at_most 4 got) (λ few.
        m (omega (arith, few, n, spans ∙ due-early got b.host.asked.code (certain (under got 4) (λ z. few (omega (arith, z))))))))
        n))

  pub device-hears-joint : JointOf (device_heard b (x ∷ rest) r)
  unfolding device_byte byte_step byte_refusals heard
  device-hears-joint =
      subst (λ (w : ByteAfter). JointOf (heard_by w))
      (sym (none-judged (λ why. byte_after (refused_step b.device.wire why) b.device.store r) _ (byte_refusals r) ((λ h. omega arith), tt)))
      (by b.host.line.phase b.device.wire.stand refl k.joint)
    where
      by : (p : Phase) (q : Stand) → b.host.line.phase ≡ p → Joint p q (view b) → Hears (heard_in q b.device.wire x)
      by Idle Resting p j = nothing j.0.below
      by Idle Reading p j = absurd j
      by Idle Awaiting p j = absurd j
      by Idle Sent p j = ends p j
      by First Resting p j = begins p j.0 j.1
      by First Reading p j = reads p j.0 j.1.0 j.1.1
      by First Awaiting p j = nothing j.0.below
      by First Sent p j = ⊎_elim (λ a. nothing a.below) (λ a. next-asks p a) j
      by Start Resting p j = absurd j
      by Start Reading p j = absurd j
      by Start Awaiting p j = nothing j.0.below
      by Start Sent p j = nothing j.below
      by Inside Resting p j = absurd j
      by Inside Reading p j = absurd j
      by Inside Awaiting p j = absurd j
      by Inside Sent p j = nothing j.below

-- ---- the store keeps its length

pub store_kept : (d : Device) (x : ℕ) (r : List ℕ) → length (device_byte d x r).session.store ≡ length d.store
unfolding device_byte byte_step
store_kept d x r =
    either_way (λ (w : ByteAfter). length w.store ≡ length d.store) (byte_refusals r) _ _
    (λ why. refl)
    (λ n. by (heard d.wire x).heard)
  where
    by : (t : Heard) → length (byte_acted t (heard d.wire x).wire d.answer d.store d.wire.gathered x r).store ≡ length d.store
    by Keep = length-set d.store d.wire.gathered x
    by Judge = length-set d.store d.wire.gathered x
    by (Do t) = refl
