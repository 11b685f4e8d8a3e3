-- The kept requests are the newest 32 of the history's paying commands: at every call they change as those do. Assumes nothing.
use Rattle.std.specs.Prelude.{Ok}
use Prim.Native.Nat.{ℕ, ◌+◌, ◌≤◌, ◌<◌}
use mathlib.Core.Path.{◌≡◌, refl, sym, ap, subst, ◌∙◌}
use mathlib.Core.Bool.{Bool, true, false, cond, true≢false}
use mathlib.Core.List.{List, [], ◌∷◌}
use mathlib.Core.Logic.{◌⊎◌, inl, inr, ⊎_elim}
use native.Mathlib.Omega.{arith}
use lib.ListN.{length, take, length-take}
use Rattle.refusals.specs.Rules.{under, at_most}
use Rattle.refusals.specs.Put.{over}
use Rattle.refusals.proofs.Writing.{take-over}
use Rattle.refusals.proofs.Rules.{by_cases, either_way, certain, holds-true, fails-false}
use Rattle.ledger.specs.Events.{Deed, asks, hears, waits, own, goes_on, closes as closes_by, done, History, is_frame, bytes}
use Rattle.ledger.specs.Line.{is_open}
use Rattle.ledger.specs.Account.{Ending, answered, refused, unknown, Fate, waiting, answered_by, fate_after, last_of, Command, commands, counted}
use Rattle.ledger.specs.Calls.{told, seen, run, history_from}
use Rattle.ledger.specs.Told.{none, Due, nothing, due_by, while_open, Answers, AnsweredBy}
use Rattle.ledger.proofs.Laws.{OnLine, line-open, commands-still, commands-own, commands-again, commands-closed}
use Rattle.ledger.proofs.Follows.{as-open, OpenIn, At, while-shut}
use Rattle.exchange_rules.specs.Machine.{Box, Handed, discipline}
use Rattle.exchange_rules.specs.Sums.{notes}
use Rattle.exchange_rules.proofs.Views.{stage, view, rules, Tracks}
use Rattle.exchange_rules.proofs.Demand3.{Kept, next-kept, call-told, call-carries}
use Rattle.exchange_rules.specs.declared.line.Phase.{Phase}
use Rattle.exchange_rules.specs.declared.line.Phase.TheVariants.{Idle, First, Start, Inside}
use Rattle.exchange_rules.specs.declared.line.Line.{Line}
use Rattle.error_codes.specs.declared.ErrorClass.{ErrorClass}
use Rattle.dispenser_frame_rules.specs.Answer.{answer_code, read_answer}
use Rattle.dispenser_frame_rules.specs.declared.answer.Cassette.TheVariants.{Upper, Lower}
use Rattle.dispenser_frame_rules.specs.declared.answer.Answer.{Answer}
use Rattle.dispenser_frame_rules.specs.declared.answer.Answer.TheVariants.{Purged, PaidOne, PaidBoth, Tested, Status}
use Rattle.dispenser_rules.specs.Requests.{advanced, newest_slot, slots_after}
use Rattle.dispenser_rules.specs.Session.{pays, paid_by, wrote, requests_at, place_after, account_asked, account_heard, fresh_session, OpeningAfter, opening_after, refused_opening, request_refusals, request_step, byte_step, tick_step, hand_over, clear_refusals, refused_step, clear_step, session_request, session_byte, session_tick, session_clear}
use Rattle.dispenser_rules.specs.Calls.{Call, request, byte, tick, clear, called, Request, Own, clears, returned, ending, host, history}
use Rattle.dispenser_rules.specs.Unit.{two, model2000_t, layout, unit, Good, asked_of, request_of, box, plain_closing}
use Rattle.dispenser_rules.specs.Kept.{stands, entry_of, entries, at_place, KeptByHistory}
use Rattle.dispenser_rules.specs.declared.account.Cassettes.{Cassettes}
use Rattle.dispenser_rules.specs.declared.requests.Standing.{Standing}
use Rattle.dispenser_rules.specs.declared.requests.Standing.TheVariants.{Open as StillOpen, Answered as WasAnswered, Refused as WasRefused, Unknown as WasUnknown}
use Rattle.dispenser_rules.specs.declared.requests.KeptRequest.{KeptRequest}
use Rattle.dispenser_rules.specs.declared.requests.Requests.{Requests}
use Rattle.dispenser_rules.specs.declared.session.Asked.{Asked}
use Rattle.dispenser_rules.specs.declared.session.Closing.{Closing}
use Rattle.dispenser_rules.specs.declared.session.Closing.TheVariants.{Nothing, Answered, Refused, Unknown}
use Rattle.dispenser_rules.specs.Reply.{Reply}
use Rattle.dispenser_rules.specs.Reply.{NotDone, Done}
use Rattle.dispenser_rules.specs.Step.{Step}
use Rattle.dispenser_rules.specs.declared.session.Session.{Session}
use Rattle.dispenser_rules.proofs.Shown.{lawful, Says, says, answers_by}
use Rattle.dispenser_rules.proofs.Same.{session}
use Rattle.dispenser_rules.proofs.Demand3.{fresh_kept}
use Rattle.dispenser_rules.proofs.Ring.{Holds, fresh_holds, push, settle, held-list, held_at}
use Rattle.dispenser_rules.proofs.Closings.{closes, put_by, byte-step-closed, tick-step-closed}

-- ---- lists of commands

-- a request as it is kept
abbrev kept-as : Request → ℕ → Standing → KeptRequest
kept-as q n standing = record { code = q.code; upper = q.upper; lower = q.lower; handed = n; standing = standing }

abbrev with-newest : Request → KeptRequest → List KeptRequest → List KeptRequest
with-newest q y es = cond (pays q.code) (y ∷ es) es

entries-split : (ks : List (Command Request)) (k : Command Request) (older : List (Command Request)) → ks ≡ k ∷ older
    → entries ks ≡ with-newest k.asks (entry_of k) (entries older)
unfolding entries
entries-split ks k older e = ap entries e

-- the newest request is written down, if it pays
noted : (r : Requests) (c : Asked) (x : KeptRequest) (es : List KeptRequest) (n : ℕ) (standing : Standing) → Holds r (with-newest (request_of c) x es)
    → Holds (record { place = r.place; slots = slots_after r.slots (wrote r.place c n standing) }) (with-newest (request_of c) (kept-as (request_of c) n standing) es)
unfolding wrote
noted r c x es n standing = by (pays c.code)
  where
    y : KeptRequest
    y = kept-as (request_of c) n standing

    by : (t : Bool) → Holds r (cond t (x ∷ es) es)
        → Holds (record { place = r.place; slots = slots_after r.slots (cond t (record { slot = newest_slot r.place; request = y }) (record { slot = 32; request = record { code = 0; upper = 0; lower = 0; handed = 0; standing = StillOpen } })) })
        (cond t (y ∷ es) es)
    by true h = settle r x es y h
    by false h = h

-- a request that pays takes a slot of its own
opened : (r : Requests) (c : Asked) (es : List KeptRequest) (n put : ℕ) → 1 < put → Holds r es
    → Holds (requests_at (place_after r.place c (Done put Nothing)) r c n (Done put Nothing)) (with-newest (request_of c) (kept-as (request_of c) n StillOpen) es)
unfolding wrote
opened r c es n put long h = rw (holds-true (under 1 put) long) (by (pays c.code))
  where
    y : KeptRequest
    y = kept-as (request_of c) n StillOpen

    by : (t : Bool)
        → Holds (record { place = cond t (advanced r.place) r.place; slots = slots_after r.slots (cond t (record { slot = newest_slot (cond t (advanced r.place) r.place); request = y }) (record { slot = 32; request = record { code = 0; upper = 0; lower = 0; handed = 0; standing = StillOpen } })) })
        (cond t (y ∷ es) es)
    by true = push r es y h
    by false = h

-- the first of some commands, and how often it was handed over
abbrev newest-of : List (Command Request) → Command Request
newest-of [] = record { asks = record { code = 0; upper = 0; lower = 0 }; frame = []; handed = 0; fate = waiting }
newest-of (k ∷ ks) = k

abbrev handed-first : List (Command Request) → ℕ
handed-first ks = (newest-of ks).handed

-- ---- what an answer says was paid

paid-same : (answer : Answer) (f : List ℕ) → Says answer f → paid_by answer ≡ stands (answered_by f) (answer_code answer)
paid-same (Purged e) f y = refl
paid-same (PaidOne Upper chk x e s r) f y = ap (λ (n : ℕ). WasAnswered (notes n) (notes 0)) y.0
paid-same (PaidOne Lower chk x e s r) f y = ap (λ (n : ℕ). WasAnswered (notes 0) (notes n)) y.0
paid-same (PaidBoth uc ux lc lx e us ls ur lr) f y =
    ap (λ (n : ℕ). WasAnswered (notes n) (notes lx)) y.0 ∙ ap (λ (n : ℕ). WasAnswered (notes (two 6 f)) (notes n)) y.1.0
paid-same (Tested Upper chk e s r) f y = refl
paid-same (Tested Lower chk e s r) f y = refl
paid-same (Status e s0 s1) f y = refl

-- ---- a byte or a tick

module _ (s : Session) (h : History Request Own Ending) (k : Kept lawful session s h) where
  abbrev opened-by : Command Request
  opened-by = as-open (rules unit) (view unit (box s))

  -- a command is open, or nothing is due
  open-or-none : OpenIn (rules unit) (view unit (box s)) h ⊎ ((f : Command Request → Due Good) → while_open model2000_t (discipline unit) h f ≡ nothing)
  open-or-none = by s.line.phase k.tracks.place
    where
      by : (p : Phase) → At (rules unit) (stage p) (view unit (box s)) h
          → OpenIn (rules unit) (view unit (box s)) h ⊎ ((f : Command Request → Due Good) → while_open model2000_t (discipline unit) h f ≡ nothing)
      by Idle x = inr (λ f. while-shut (rules unit) x f)
      by First x = inl x.is
      by Start x = inl x.is
      by Inside x = inl x.is

  due-or-none : (d : Deed Request Own) → OnLine d → OpenIn (rules unit) (view unit (box s)) h ⊎ (due_by model2000_t (discipline unit) h d ≡ nothing)
  due-or-none (asks r) o = absurd o
  due-or-none (hears b) o = ⊎_elim inl (λ n. inr (n _)) open-or-none
  due-or-none (waits ms) o = ⊎_elim inl (λ n. inr (n _)) open-or-none
  due-or-none (own x) o = absurd o

  module _ (d : Deed Request Own) (o : OnLine d) (l : Line) (room given : List ℕ) (r : Requests) (i : Holds r (entries (commands model2000_t h))) where
    -- the history after it
    abbrev after : Reply → History Request Own Ending
    after p = told ending d (returned p) room ∷ h

    abbrev Due-is : Reply → Type 0
    Due-is p = Answers plain_closing (due_by model2000_t (discipline unit) h d) given (returned p) room

    -- the newest command, with the others behind it
    still-holds : (x : OpenIn (rules unit) (view unit (box s)) h) → Holds r (with-newest (request_of s.asked) (entry_of opened-by) (entries x.older))
    still-holds x = subst (Holds r) (entries-split _ opened-by x.older x.split) i

    abbrev Goal : Reply → Type 0
    Goal p = Holds (requests_at r.place r s.asked l.handed p) (entries (commands model2000_t (after p)))

    -- what became of the command that is closed
    abbrev fate-by : ℕ → Ending → Fate
    fate-by n end = fate_after (closes_by end) (last_of (model2000_t.span (request_of s.asked)) (bytes (done d (take n room) (closes_by end) ∷ h))) waiting

    closed-split : (n : ℕ) (end : Ending) → n ≤ 1 → (x : OpenIn (rules unit) (view unit (box s)) h)
        → commands model2000_t (done d (take n room) (closes_by end) ∷ h)
        ≡ record { asks = request_of s.asked; frame = layout (request_of s.asked); handed = s.line.handed; fate = fate-by n end } ∷ x.older
    unfolding is_frame
    closed-split n end few x =
        let e = length-take n room in
        let short : is_frame (take n room) ≡ false = fails-false (under 1 (length (take n room))) (λ w. omega (arith, few, e)) in
        commands-closed model2000_t h (take n room) d opened-by x.older end o short x.split

    closed-holds : (n : ℕ) (end : Ending) → n ≤ 1 → l.handed ≡ s.line.handed → (x : OpenIn (rules unit) (view unit (box s)) h) (standing : Standing)
        → standing ≡ stands (fate-by n end) s.asked.code
        → Holds (record { place = r.place; slots = slots_after r.slots (wrote r.place s.asked l.handed standing) }) (entries (commands model2000_t (done d (take n room) (closes_by end) ∷ h)))
    closed-holds n end few e x standing is =
        subst (λ (es : List KeptRequest). Holds (record { place = r.place; slots = slots_after r.slots (wrote r.place s.asked l.handed standing) }) es)
        (ap (λ (y : KeptRequest). with-newest (request_of s.asked) y (entries x.older))
        (ap (λ (m : ℕ). kept-as (request_of s.asked) m standing) e ∙ ap (kept-as (request_of s.asked) s.line.handed) is)
        ∙ sym (entries-split _ _ x.older (closed-split n end few x)))
        (noted r s.asked (entry_of opened-by) (entries x.older) l.handed standing (still-holds x))

    -- a closing is one of an open command
    by-closing : (p : Reply) (c : Closing) (n : ℕ) → p ≡ Done n c → Due-is (Done n c) → (plain_closing c ≡ none → ⊥) → OpenIn (rules unit) (view unit (box s)) h
    by-closing p c n e t some =
        ⊎_elim (λ x. x) (λ w. absurd (some (t.1.0 ∙ ap (λ (u : Due Good). u.closing) w))) (due-or-none d o)

    module _ (b : Box Request Cassettes) (same_line : b.line ≡ l) where
      -- handed over again: it is the newest, and so often handed over
      again-holds : (n : ℕ) → 1 < n → Due-is (Done n Nothing) → Tracks unit b (after (Done n Nothing)) → Goal (Done n Nothing)
      unfolding is_frame
      again-holds n long t y =
          let u = due_by model2000_t (discipline unit) h d in
          let put : take n room ≡ u.put = ap (take n) t.1.1 ∙ ap (λ (m : ℕ). take m (over u.put given)) t.0 ∙ take-over u.put given in
          let frame : is_frame (take n room) ≡ true = holds-true (under 1 (length (take n room))) (subst (λ (m : ℕ). 1 < m) (t.0 ∙ ap length (sym put)) long) in
          ⊎_elim
          (λ x.
          let split = commands-again model2000_t h (take n room) d opened-by x.older o frame x.split in
          let open-still : is_open (after (Done n Nothing)) ≡ true = line-open h (take n room) goes_on d o ∙ x.still in
          let more : s.line.handed + 1 ≡ l.handed = newest-handed b.line.phase y.place open-still split ∙ ap (λ (m : Line). m.handed) same_line in
          rw (holds-true (under 1 n) long)
          (subst (λ (es : List KeptRequest). Holds (record { place = r.place; slots = slots_after r.slots (wrote r.place s.asked l.handed StillOpen) }) es)
          (ap (λ (m : ℕ). with-newest (request_of s.asked) (kept-as (request_of s.asked) m StillOpen) (entries x.older)) (sym more)
          ∙ sym (entries-split _ _ x.older split))
          (noted r s.asked (entry_of opened-by) (entries x.older) l.handed StillOpen (still-holds x))))
          (λ w. absurd (let z : n ≡ 0 = t.0 ∙ ap (λ (u : Due Good). length u.put) w in omega (arith, z)))
          (due-or-none d o)
        where
          newest-handed : (p : Phase) → At (rules unit) (stage p) (view unit b) (after (Done n Nothing)) → is_open (after (Done n Nothing)) ≡ true
              → {k : Command Request} {older : List (Command Request)} → commands model2000_t (after (Done n Nothing)) ≡ k ∷ older → k.handed ≡ b.line.handed
          newest-handed Idle x g e = absurd (true≢false (sym g ∙ x.shut))
          newest-handed First x g e = ap handed-first (sym e ∙ x.is.split)
          newest-handed Start x g e = ap handed-first (sym e ∙ x.is.split)
          newest-handed Inside x g e = ap handed-first (sym e ∙ x.is.split)

      -- what a byte or a tick answered, where it did its step
      done-holds : (n : ℕ) (x : Closing) → Due-is (Done n x) → (closes (Done n x) ≡ true → (n ≤ 1) × (l.handed ≡ s.line.handed)) → Tracks unit b (after (Done n x))
          → ((m : ℕ) (answer : Answer) (class : ErrorClass) → Done n x ≡ Done m (Answered answer class) → AnsweredBy model2000_t (discipline unit) (after (Done n x)) (record { answer = answer; class = class }))
          → Goal (Done n x)
      unfolding is_frame commands
      done-holds n Nothing t c y a =
          by_cases (under 1 n)
          (λ long. again-holds n long t y)
          (λ short.
          let e = length-take n room in
          let none-put : is_frame (take n room) ≡ false = fails-false (under 1 (length (take n room))) (λ w. short (omega (arith, e))) in
          rw (fails-false (under 1 n) short) (subst (Holds r) (ap entries (sym (commands-still model2000_t h (take n room) d o none-put))) i))
      done-holds n (Answered answer class) t c y a =
          let x = by-closing (Done n (Answered answer class)) (Answered answer class) n refl t (λ e. let z : ◌≡◌ {A = ℕ} 0 1 = cc in omega arith) in
          let w = a n answer class refl in
          let code = w.newest.asks.code in
          let g = answers_by code (record { answer = answer; class = class }) (read_answer w.frame) w.says in
          let same : newest-of (commands model2000_t (done d (take n room) (closes_by answered) ∷ h)) ≡ w.newest = ap newest-of w.split in
          let is : record { asks = request_of s.asked; frame = layout (request_of s.asked); handed = s.line.handed; fate = fate-by n answered } ≡ w.newest =
          ap newest-of (sym (closed-split n answered (c refl).0 x)) ∙ same in
          closed-holds n answered (c refl).0 (c refl).1 x (paid_by answer)
          (paid-same answer w.frame (says w.frame answer class g.read)
          ∙ ap (stands (answered_by w.frame)) g.same_code
          ∙ ap (λ (f : Fate). stands f code) (sym w.fate)
          ∙ ap (λ (k : Command Request). stands k.fate k.asks.code) (sym is))
      done-holds n Refused t c y a =
          closed-holds n refused (c refl).0 (c refl).1 (by-closing (Done n Refused) Refused n refl t (λ e. let z : ◌≡◌ {A = ℕ} 0 1 = cc in omega arith)) WasRefused refl
      done-holds n Unknown t c y a =
          closed-holds n unknown (c refl).0 (c refl).1 (by-closing (Done n Unknown) Unknown n refl t (λ e. let z : ◌≡◌ {A = ℕ} 0 1 = cc in omega arith)) WasUnknown refl

      -- what a byte or a tick answered
      heard-holds : (p : Reply) → Due-is p → (closes p ≡ true → (put_by p ≤ 1) × (l.handed ≡ s.line.handed)) → Tracks unit b (after p)
          → ((n : ℕ) (answer : Answer) (class : ErrorClass) → p ≡ Done n (Answered answer class) → AnsweredBy model2000_t (discipline unit) (after p) (record { answer = answer; class = class }))
          → Goal p
      unfolding commands
      heard-holds (NotDone why) t c y a = i
      heard-holds (Ok w) t c y a = done-holds w.put w.closing t c y a

-- ---- a clear and a request

clear-holds : (s : Session) (h : History Request Own Ending) (r : Requests) → Holds r (entries (commands model2000_t h))
    → Holds r (entries (commands model2000_t (told ending (own clears) (returned (clear_step s.line).reply) [] ∷ h)))
unfolding clear_step commands is_frame
clear-holds s h r i =
    either_way (λ (w : Step). Holds r (entries (commands model2000_t (told ending (own clears) (returned w.reply) [] ∷ h)))) (clear_refusals s.line) (refused_step s.line) _
    (λ why. i)
    (λ n. subst (Holds r) (ap entries (sym (commands-own model2000_t h [] clears refl))) i)

-- a request that is accepted is handed over once
request-holds : (s : Session) (h : History Request Own Ending) (q : Request) (r : List ℕ) (kept : Requests) → Holds kept (entries (commands model2000_t h))
    → let w = request_step s.line s.asked q.code q.upper q.lower r in
    Holds (requests_at (place_after kept.place w.asked w.reply) kept w.asked w.line.handed w.reply)
    (entries (commands model2000_t (told ending (asks q) (returned w.reply) w.room ∷ h)))
unfolding request_step request_refusals commands entries counted is_frame
request-holds s h q r kept i =
    either_way
    (λ (w : OpeningAfter).
    Holds (requests_at (place_after kept.place w.asked w.reply) kept w.asked w.line.handed w.reply)
    (entries (commands model2000_t (told ending (asks q) (returned w.reply) w.room ∷ h))))
    (request_refusals s.line q.code q.upper q.lower r) (λ why. opening_after (refused_opening s.line s.asked why) r) _
    (λ why. i)
    (λ n.
    let sent = certain (unit.sendable q) n.1.0 in
    let long : 16 ≤ length r = certain (at_most 16 (length r)) (λ w. n.0 (omega arith)) in
    let laid = lawful.laid q r sent long in
    let more = lawful.long q sent in
    let many : (hand_over (asked_of q) r).put ≡ length (layout q) = ap (λ (w : Handed). w.put) laid in
    let put : take (hand_over (asked_of q) r).put (hand_over (asked_of q) r).room ≡ layout q = ap (λ (w : Handed). take w.put w.room) laid ∙ take-over (layout q) r in
    let once : counted (take (hand_over (asked_of q) r).put (hand_over (asked_of q) r).room) 0 ≡ 1 = ap (λ (f : List ℕ). counted f 0) put ∙ rw (holds-true (under 1 (length (layout q))) more) in
    subst (λ (m : ℕ). Holds (requests_at (place_after kept.place (asked_of q) (Done (hand_over (asked_of q) r).put Nothing)) kept (asked_of q) 1 (Done (hand_over (asked_of q) r).put Nothing))
    (with-newest q (kept-as q m StillOpen) (entries (commands model2000_t h)))) (sym once)
    (opened kept (asked_of q) (entries (commands model2000_t h)) 1 (hand_over (asked_of q) r).put (omega (arith, more, many)) i))

-- ---- any call

call-holds : (s : Session) (h : History Request Own Ending) (t : Call) → Kept lawful session s h → Holds s.account.requests (entries (commands model2000_t h))
    → Holds (called s t).session.account.requests (entries (commands model2000_t (seen host s t ∷ h)))
unfolding session_byte session_tick session_clear session_request account_heard account_asked
call-holds s h (byte b r) k i =
    let w = byte_step s.line s.asked s.store b r in
    heard-holds s h k (hears b) tt w.step.line w.step.room r s.account.requests i (box (called s (byte b r)).session) refl w.step.reply
    (call-told lawful session s h (byte b r) k)
    (byte-step-closed s.line s.asked s.store b r)
    (next-kept lawful session s h (byte b r) k).tracks
    (λ n answer class e. call-carries lawful session s h (byte b r) n (Answered answer class) (record { answer = answer; class = class }) k (ap returned e) refl)
call-holds s h (tick ms r) k i =
    let w = tick_step s.line s.asked ms r in
    heard-holds s h k (waits ms) tt w.line w.room r s.account.requests i (box (called s (tick ms r)).session) refl w.reply
    (call-told lawful session s h (tick ms r) k)
    (tick-step-closed s.line s.asked ms r)
    (next-kept lawful session s h (tick ms r) k).tracks
    (λ n answer class e. call-carries lawful session s h (tick ms r) n (Answered answer class) (record { answer = answer; class = class }) k (ap returned e) refl)
call-holds s h clear k i = clear-holds s h s.account.requests i
call-holds s h (request code upper lower r) k i = request-holds s h (record { code = code; upper = upper; lower = lower }) r s.account.requests i

from-holds : (s : Session) (h : History Request Own Ending) (ts : List Call) → Kept lawful session s h → Holds s.account.requests (entries (commands model2000_t h))
    → Holds (run host s ts).account.requests (entries (commands model2000_t (history_from host s h ts)))
unfolding run history_from
from-holds s h [] k i = i
from-holds s h (t ∷ ts) k i = from-holds (called s t).session (seen host s t ∷ h) ts (next-kept lawful session s h t k) (call-holds s h t k i)

after-calls : (cs : List Call) → Holds (run host fresh_session cs).account.requests (entries (commands model2000_t (history cs)))
unfolding fresh_session entries commands
after-calls cs = from-holds fresh_session [] cs fresh_kept fresh_holds

pub kept-by-history : KeptByHistory
kept-by-history =
    record {
      kept = λ cs. held-list (run host fresh_session cs).account.requests _ (after-calls cs);
      handed_out = λ cs i.
          let h = after-calls cs in
          let r = (run host fresh_session cs).account.requests in
          held_at r _ h i ∙ ap (λ (l : List KeptRequest). at_place l i) (held-list r _ h);
    }
