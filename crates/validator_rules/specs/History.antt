-- The history of calls on the validator, and what it gives (01, "The validator session"): from the calls, what they returned and the bytes
-- accepted. Events, and what the numbers 3, 4 and 5 speak of, are defined in the room `ledger`. The newest call stands first. Proved in
-- proofs/Agreeing.antt.
use Rattle.std.specs.Prelude.{ℕ, ◌+◌, ◌-◌, ◌≤◌, ◌<◌, ◌≡◌, refl, Bool, true, false, cond, ◌&&◌, List, [], ◌∷◌, ◌++◌, eqb, length, get_or, take, drop, replicate}
use Rattle.std.proofs.Common.{sym, ap, ap₂, true≢false, arith}
use Rattle.refusals.specs.Rules.{Tells, Condition, Rule, says, under, at_most, within, same, both, isnt, and-tells, ◌gives◌}
use Rattle.ccnet_frame.specs.Frame.{frame}
use Rattle.ccnet_class.specs.Class.{listed, class_of}
use Rattle.ccnet_class.specs.declared.Class.{Class}
use Rattle.ccnet_class.specs.declared.Class.TheVariants.{Unknown, Table}
use Rattle.ledger.specs.Events.{Deed, asks, hears, waits, own, Left, goes_on, closes, declined, done, since}
use Rattle.ledger.specs.Line.{is_open, quiet_time, of_newest, accepted}
use Rattle.ledger.specs.Waiting.{waited}
use Rattle.ledger.specs.Calls.{run, Declines}
use Rattle.validator_rules.specs.Limits.{quiet, start_wait, frame_wait, least_room, command_limit, store_size, types}
use Rattle.validator_rules.specs.Bills.{bills, poll}
use Rattle.validator_rules.specs.Session.{is_command, ack, nak, fresh_session, session_request}
use Rattle.validator_rules.specs.Calls.{Call, Request, Own, Ending, acknowledged, not_acknowledged, illegal_command, answered, damaged, silent, Known, Past, host, history}
use Rattle.refusals.specs.declared.Declined.{Declined}
use Rattle.refusals.specs.declared.Declined.TheVariants.{Room, Range, Open, Unquiet, Spent}

-- ---- what it gives

-- the code of the last command accepted; 0 before the first
abbrev pub last_code : Past → ℕ
last_code h = of_newest (λ (q : Request). q.code) 0 h

-- "other bytes before 02h are skipped": the bytes from the first 02h on
unfoldable pub from_start : List ℕ → List ℕ
from_start [] = []
from_start (b ∷ s) = cond (eqb b 0x02) (b ∷ s) (from_start s)

-- the bytes of an answer that have come, while a command is open: since its frame was sent, from 02h on
abbrev pub gathered : Past → List ℕ
gathered h = cond (is_open h) (from_start (since h)) []

-- "02h, address, length, body, two check bytes": the body, by its place
unfoldable pub between : List ℕ → List ℕ
between f = take (length f - 5) (drop 3 f)

-- the body of the answer to a command with that code that ends with the byte b after h, by how the command closed; none where it was not
-- answered, or had another code
abbrev pub body_by : Ending → ℕ → Past → ℕ → List ℕ
body_by acknowledged code h b = []
body_by not_acknowledged code h b = []
body_by illegal_command code h b = []
body_by (answered c) code h b = cond (eqb (last_code h) code) (between (from_start (since h ++ (b ∷ [])))) []
body_by damaged code h b = []
body_by silent code h b = []

abbrev pub body_once : Left Ending → ℕ → Past → ℕ → List ℕ
body_once goes_on code h b = []
body_once (closes k) code h b = body_by k code h b

-- the body of the answer to a command with that code that a call completed after h; none where it completed none
abbrev pub answer_to : ℕ → Known → Past → List ℕ
answer_to code declined h = []
answer_to code (done (asks q) put left) h = []
answer_to code (done (hears b) put left) h = body_once left code h b
answer_to code (done (waits ms) put left) h = []
answer_to code (done (own o) put left) h = []

-- "the last listed poll answer received to a POLL"; none before the first
unfoldable pub reported : Past → List ℕ
reported [] = []
reported (e ∷ h) = cond (listed (answer_to poll e h)).test (answer_to poll e h) (reported h)

-- "the last table read holds, its words' bytes kept"; "unsent bytes count as zero"; "A body over 120 bytes is unknown" (02, Q-1): the body of the last answer to GET BILL
-- TABLE that is a table, filled up to 120 bytes; 120 zeros before the first
unfoldable pub table_by : Past → List ℕ
table_by [] = replicate 120 0
table_by (e ∷ h) =
    cond (within 1 120 (length (answer_to 0x41 e h))).test
    (answer_to 0x41 e h ++ replicate (120 - length (answer_to 0x41 e h)) 0)
    (table_by h)

-- two lists of bytes are the same
abbrev pub same_test : List ℕ → List ℕ → Bool
same_test [] [] = true
same_test [] (b ∷ t) = false
same_test (a ∷ s) [] = false
same_test (a ∷ s) (b ∷ t) = eqb a b && same_test s t

pub same-tells : (s t : List ℕ) → Tells (same_test s t) (s ≡ t)
same-tells [] [] = record { shown = λ e. refl; denied = λ e h. true≢false e }
same-tells [] (b ∷ t) = record { shown = λ e. absurd (true≢false (sym e)); denied = λ e h. differ (ap length h) }
  where
    differ : length {A = ℕ} [] ≡ length (b ∷ t) → ⊥
    differ f = omega arith
same-tells (a ∷ s) [] = record { shown = λ e. absurd (true≢false (sym e)); denied = λ e h. differ (ap length h) }
  where
    differ : length (a ∷ s) ≡ length {A = ℕ} [] → ⊥
    differ f = omega arith
same-tells (a ∷ s) (b ∷ t) =
    let w = and-tells (same a b).tells (same-tells s t) in
    record { shown = λ e. ap₂ ◌∷◌ (w.shown e).0 (w.shown e).1; denied = λ e h. w.denied e (let p : a ≡ b = cc in p, let p : s ≡ t = cc in p) }

abbrev pub alike : List ℕ → List ℕ → Condition
alike s t = record { holds = s ≡ t; test = same_test s t; tells = same-tells s t }

-- "In an answer to POLL only, 81h with type y adds one bill of type y, unless the last listed poll answer received to a POLL was the same two
-- bytes"
abbrev pub adds : ℕ → Known → Past → Condition
adds y e h = both (alike (answer_to poll e h) (0x81 ∷ y ∷ [])) (isnt (alike (reported h) (0x81 ∷ y ∷ [])))

-- how many bills of type y the history gives
unfoldable pub counted : ℕ → Past → ℕ
counted y [] = 0
counted y (e ∷ h) = cond (adds y e h).test (counted y h + 1) (counted y h)

-- f is a good frame from address 03h with that body: "an answer's body is 1 to 250 data bytes"
abbrev pub Carries : List ℕ → List ℕ → Type 0
Carries f body = (f ≡ frame 0x03 body) × (within 1 250 (length body)).holds

-- a body other than these: "A body of one byte 00h is ACK, FFh is NAK, 30h is 'illegal command'"
abbrev pub Other : List ℕ → Type 0
Other body = (body ≡ 0x00 ∷ [] → ⊥) × ((body ≡ 0xFF ∷ [] → ⊥) × (body ≡ 0x30 ∷ [] → ⊥))

-- what such a body says in answer to a command: to GET BILL TABLE a body of up to 120 bytes is the table, whatever else it could say, and a longer one is unknown; to any other
-- command its class
abbrev pub Means : ℕ → List ℕ → Class → Type 0
Means code body c =
    (code ≡ 0x41 → (length body ≤ 120 → c ≡ Table) × (120 < length body → c ≡ Unknown)) × ((code ≡ 0x41 → ⊥) → c ≡ class_of body)

-- bytes from 02h on that close nothing yet: an address, if it has come, of 03h; a length byte, if it has come, of at least 6 and of more than have come
abbrev pub Unfinished : List ℕ → Type 0
Unfinished f = (2 ≤ length f → get_or f 1 0 ≡ 0x03) × (3 ≤ length f → (6 ≤ get_or f 2 0) × (length f < get_or f 2 0))

-- what the bytes from 02h on are where a byte closes a command with that code: a good frame from address 03h, and the closing is what its body says; or, where it is damaged ("a wrong
-- address (not 03h) or length byte, at that byte, a wrong check"), neither that nor unfinished. No byte closes as silent
abbrev pub Says : ℕ → Ending → List ℕ → Type 0
Says code acknowledged f = Carries f (0x00 ∷ [])
Says code not_acknowledged f = Carries f (0xFF ∷ [])
Says code illegal_command f = Carries f (0x30 ∷ [])
Says code (answered c) f = Carries f (between f) × (Other (between f) × Means code (between f) c)
Says code damaged f = (Unfinished f → ⊥) × ((body : List ℕ) → Carries f body → ⊥)
Says code silent f = ⊥

-- "The answer's 02h must come within 10 ms, the whole within 400 ms of it": the wait begins anew with a request, and with the first byte of an answer
abbrev pub starts : Past → Deed Request Own → Bool
starts h (asks q) = true
starts h (hears b) = eqb (length (from_start (since h ++ (b ∷ [])))) 1
starts h (waits ms) = false
starts h (own o) = false

-- what the bytes from 02h on are where a tick that brings the wait to t closes the command: "a late frame sends a NAK frame and closes as damaged; nothing started,
-- closes as silent"
abbrev pub Lapses : Ending → List ℕ → ℕ → Type 0
Lapses acknowledged f t = ⊥
Lapses not_acknowledged f t = ⊥
Lapses illegal_command f t = ⊥
Lapses (answered c) f t = ⊥
Lapses damaged f t = (f ≡ [] → ⊥) × (frame_wait ≤ t)
Lapses silent f t = (f ≡ []) × (start_wait ≤ t)

-- and where it closes nothing
abbrev pub InTime : List ℕ → ℕ → Type 0
InTime f t = (f ≡ [] → t < start_wait) × ((f ≡ [] → ⊥) → t < frame_wait)

-- an open command is closed by what was called after h; a request closes nothing
abbrev pub ClosesBy : Deed Request Own → Ending → Past → Type 0
ClosesBy (asks q) k h = ⊥
ClosesBy (hears b) k h = Says (last_code h) k (from_start (since h ++ (b ∷ [])))
ClosesBy (waits ms) k h = Lapses k (from_start (since h)) (waited starts h + ms)
ClosesBy (own o) k h = ⊥

-- it stays open
abbrev pub GoesOnBy : Deed Request Own → Past → Type 0
GoesOnBy (asks q) h = Unit {0}
GoesOnBy (hears b) h = Unfinished (from_start (since h ++ (b ∷ [])))
GoesOnBy (waits ms) h = InTime (from_start (since h)) (waited starts h + ms)
GoesOnBy (own o) h = Unit {0}

-- what a closing says, or that there was none; only an open command is closed
abbrev pub Due : Left Ending → Deed Request Own → Past → Type 0
Due goes_on d h = is_open h ≡ true → GoesOnBy d h
Due (closes k) d h = (is_open h ≡ true) × ClosesBy d k h

-- "ACK, NAK and 'illegal' close without a reply; any other body gets an ACK frame"; damaged "sends a NAK frame"; else nothing is sent
abbrev pub reply : Left Ending → List ℕ
reply goes_on = []
reply (closes acknowledged) = []
reply (closes not_acknowledged) = []
reply (closes illegal_command) = []
reply (closes (answered c)) = ack
reply (closes damaged) = nak
reply (closes silent) = []

-- the bytes that a call puts: a request its frame, any other its reply
abbrev pub puts : Deed Request Own → Left Ending → List ℕ
puts (asks q) left = frame 0x03 (q.code ∷ q.given)
puts (hears b) left = reply left
puts (waits ms) left = reply left
puts (own o) left = reply left

-- every closing that a call returned is what the bytes said, or that they did not come in time; where it returned none, none was due; and what it put is its frame or
-- its reply
unfoldable pub Truly : Past → Type 0
Truly [] = Unit {0}
Truly (declined ∷ h) = Truly h
Truly (done d put left ∷ h) = Due left d h × ((put ≡ puts d left) × Truly h)

-- ---- what is promised, from a fresh session and after any calls at all

-- the count of each type is what the history gives, so that none is ever cut; it is at most the number of commands that may be accepted; the bill table is the one that
-- the history gives; the gathering store holds the bytes gathered from 02h on, and then zeros: "all zero when fresh and again after each closing"; and every call
-- closes what is due and puts what is due
pub record KeptByHistory : Type 0 where
  pub bills : (cs : List Call) (y : ℕ) → y < types → (get_or (run host fresh_session cs).bills y (bills 0)).0 ≡ counted y (history cs)
  pub few : (cs : List Call) (y : ℕ) → y < types → counted y (history cs) ≤ command_limit
  pub table : (cs : List Call) → (run host fresh_session cs).table ≡ table_by (history cs)
  pub store : (cs : List Call)
      → (run host fresh_session cs).store ≡ gathered (history cs) ++ replicate (store_size - length (gathered (history cs))) 0
  pub closings : (cs : List Call) → Truly (history cs)

-- and that is no choice: after a history one closing at most is due by a call, or none
abbrev pub OneDue : Type 0
OneDue = (h : Past) (d : Deed Request Own) (x y : Left Ending) → Due x d h → Due y d h → x ≡ y

-- "Requests can meet 1 to 5", told from the history
abbrev pub history_refusals : Past → ℕ → List ℕ → List ℕ → List (Rule Declined)
history_refusals h code given r =
    under (length r) least_room gives Room
    ∷ isnt (is_command code (length given)) gives Range
    ∷ says (is_open h) gives Open
    ∷ under (quiet_time h) quiet gives Unquiet
    ∷ at_most command_limit (accepted h) gives Spent
    ∷ []

-- a request is declined exactly as the history says
abbrev pub DeclinesByHistory : Type 0
DeclinesByHistory = (cs : List Call) (code : ℕ) (given r : List ℕ)
    → Declines host (history_refusals (history cs) code given r) (run host fresh_session cs) r
    (session_request (run host fresh_session cs) code given r)
