-- What every accepted call puts and which closing it returns, told from the history alone (01, "The dispenser session"), on any unit: its waits, its limits
-- and what a full frame is to a command are parameters. Nothing here names a session, a phase or a store.
use Rattle.std.specs.Prelude.{ℕ, ◌+◌, ◌≡◌, Bool, false, cond, not, ◌&&◌, ◌||◌, List, [], ◌∷◌, ◌++◌, eqb, ltb, length}
use Rattle.refusals.specs.Put.{over}
use Rattle.ledger.specs.Events.{Deed, asks, hears, waits, own, Left, goes_on, closes, declined, done, History, since}
use Rattle.ledger.specs.Line.{is_open}
use Rattle.ledger.specs.Account.{Ending, answered, refused, unknown, Dispenser, answered_by, Command, commands}
use Rattle.ledger.specs.Calls.{Returned, gave, did, Host, seen, run, history_from}
use Rattle.ledger.specs.Waiting.{some, from, heard, waited}

-- what a full frame is to the command that is open: bad; its answer; or an answer which says that nothing was done, so that it is acknowledged and
-- the command closes as refused
pub data Verdict (X : Type 0) : Type 0 where
  bad : Verdict X
  good : X → Verdict X
  void : Verdict X

-- how a call closed the open command, if it did; X is what a good answer says
pub data Closing (X : Type 0) : Type 0 where
  none : Closing X
  by_answer : X → Closing X
  by_refusal : Closing X
  by_doubt : Closing X

-- of an answer the history has no more than that it came
abbrev pub ending : {X : Type 0} → Closing X → Left Ending
ending none = goes_on
ending (by_answer x) = closes answered
ending by_refusal = closes refused
ending by_doubt = closes unknown

-- what differs from unit to unit: in which bytes a command is handed over, and what a full frame is to it; how often it may be handed over, and how many
-- 15h of ours close it; and the waits: for the first byte, for an answer to start after 06h and after a 15h of ours, and from 01h to the check
pub record Discipline (R X : Type 0) : Type 0 where
  pub layout : R → List ℕ
  pub judges : R → List ℕ → Verdict X
  pub hand-overs : ℕ
  pub naks : ℕ
  pub first : ℕ
  pub answer : ℕ
  pub after_nak : ℕ
  pub frame : ℕ

-- what is due: the bytes to put, and the closing to return
pub record Due (X : Type 0) : Type 0 where
  pub put : List ℕ
  pub closing : Closing X

abbrev pub due : {X : Type 0} → List ℕ → Closing X → Due X
due put closing = record { put = put; closing = closing }

abbrev pub nothing : {X : Type 0} → Due X
nothing = due [] none

-- ---- what has come

-- one where what was put is a 15h of ours
abbrev pub nak_in : List ℕ → ℕ
nak_in [] = 0
nak_in (b ∷ []) = cond (eqb b 0x15) 1 0
nak_in (b ∷ c ∷ s) = 0

module _ {R O K : Type 0} where
  -- our 15h since the last request
  unfoldable pub naks : History R O K → ℕ
  naks [] = 0
  naks (declined ∷ h) = naks h
  naks (done (asks r) put left ∷ h) = 0
  naks (done (hears b) put left ∷ h) = naks h + nak_in put
  naks (done (waits ms) put left ∷ h) = naks h + nak_in put
  naks (done (own o) put left ∷ h) = naks h + nak_in put

  -- what has come of an answer: the bytes since anything was put, from 01h on
  unfoldable pub begun : History R O K → List ℕ
  begun h = from 0x01 (heard h)

  -- a byte that ends one wait and begins the next: the first since a hand-over, and the 01h of an answer
  abbrev pub turns : History R O K → Deed R O → Bool
  turns h (asks r) = false
  turns h (hears b) = not (some (since h)) || (not (some (begun h)) && eqb b 0x01)
  turns h (waits ms) = false
  turns h (own o) = false

-- ---- what is due

-- what f says of the first command
abbrev pub of_first : {R X : Type 0} → (Command R → Due X) → List (Command R) → Due X
of_first f [] = nothing
of_first f (k ∷ ks) = f k

module _ {R X C : Type 0} (D : Dispenser R C) (G : Discipline R X) where
  -- "send 15h; the third 15h of a command is sent and closes it as unknown"; n were sent before
  unfoldable pub due_nak : ℕ → Due X
  due_nak n = due (0x15 ∷ []) (cond (ltb (n + 1) G.naks) none by_doubt)

  -- "First byte since a hand-over: 06h, wait for the answer; 15h, hand over the same frame again at once, or after the [fourth] hand-over
  -- close as refused; any other byte, close as unknown at once." (as 02, Q-2, amends it)
  unfoldable pub due_first : Command R → ℕ → Due X
  due_first k b =
      cond (eqb b 0x06) nothing
      (cond (eqb b 0x15) (cond (ltb k.handed G.hand-overs) (due k.frame none) (due [] by_refusal)) (due [] by_doubt))

  -- "Good answer with the code asked: send 06h and close as answered. Any other full frame (bad) ..: send 15h"
  abbrev pub due_full : Verdict X → ℕ → Due X
  due_full bad n = due_nak n
  due_full (good x) n = due (0x06 ∷ []) (by_answer x)
  due_full void n = due (0x06 ∷ []) by_refusal

  -- "From 01h the answer's length follows from the command that was sent, and the frame is judged when it is full"; f is what has come of it
  unfoldable pub due_later : Command R → List ℕ → ℕ → Due X
  due_later k f n = cond (ltb (length f) (D.span k.asks)) nothing (due_full (G.judges k.asks f) n)

  module _ {O : Type 0} where
    unfoldable pub due_byte : History R O Ending → ℕ → Command R → Due X
    due_byte h b k = cond (some (since h)) (due_later k (from 0x01 (heard h ++ (b ∷ []))) (naks h)) (due_first k b)

    -- the wait that goes on
    unfoldable pub wait : History R O Ending → ℕ
    wait h = cond (some (begun h)) G.frame (cond (some (since h)) (cond (eqb (naks h) 0) G.answer G.after_nak) G.first)

    -- "A wait ends by the tick that brings its sum to the limit or past it"; "No byte within the wait: unknown"; "lateness inside one: send 15h"; "No start
    -- within the wait: unknown"
    unfoldable pub due_tick : History R O Ending → ℕ → Due X
    due_tick h ms = cond (ltb (waited turns h + ms) (wait h)) nothing (cond (some (begun h)) (due_nak (naks h)) (due [] by_doubt))

    -- what f says of the open command; "With nothing open, each byte is ignored"
    unfoldable pub while_open : History R O Ending → (Command R → Due X) → Due X
    while_open h f = cond (is_open h) (of_first f (commands D h)) nothing

    -- what is due at a call after a history; "Request accepted: the frame is handed over"
    abbrev pub due_by : History R O Ending → Deed R O → Due X
    due_by h (asks r) = due (G.layout r) none
    due_by h (hears b) = while_open h (due_byte h b)
    due_by h (waits ms) = while_open h (λ k. due_tick h ms)
    due_by h (own o) = nothing

-- ---- the promise

-- "An accepted session call returns how many bytes it put at the room's start and which closing it made, if any. Every byte of the room past the frame's end is
-- unchanged, and all of it if nothing is sent": what is due, and nothing else. `says` tells which closing a returned one is
abbrev pub Answers : {Q X : Type 0} → (Q → Closing X) → Due X → List ℕ → Returned Q → List ℕ → Type 0
Answers says w lent (gave why) room = room ≡ lent
Answers says w lent (did n c) room = (n ≡ length w.put) × ((says c ≡ w.closing) × (room ≡ over w.put lent))

-- every call answers what is due by the history, after any calls at all on the session s; `lent` is the room that a call is lent
abbrev pub Told : {S T P R O Q X C : Type 0} → Host S T P R O Q Ending → (Q → Closing X) → (T → List ℕ) → Dispenser R C → Discipline R X → S → Type 0
Told {T = T} H says lent D G s = (ts : List T) (t : T)
    → Answers says (due_by D G (history_from H s [] ts) (H.deed (run H s ts) t)) (lent t) (H.returned (H.called (run H s ts) t).reply) (H.called (run H s ts) t).room

-- the history has its newest command answered, by bytes that say x. Those bytes are the last accepted (`commands`), and what it paid is read off them
pub record AnsweredBy {R X C O : Type 0} (D : Dispenser R C) (G : Discipline R X) (h : History R O Ending) (x : X) : Type 0 where
  pub newest : Command R
  pub older : List (Command R)
  pub split : commands D h ≡ newest ∷ older
  pub frame : List ℕ
  pub fate : newest.fate ≡ answered_by frame
  pub says : G.judges newest.asks frame ≡ good x

-- the answer that a closing carries is what the very bytes say from which the sums are read
abbrev pub Carried : {S T P R O Q X C : Type 0} → Host S T P R O Q Ending → (Q → Closing X) → Dispenser R C → Discipline R X → S → Type 0
Carried {T = T} {Q = Q} {X = X} H says D G s = (ts : List T) (t : T) (n : ℕ) (c : Q) (x : X) → H.returned (H.called (run H s ts) t).reply ≡ did n c
    → says c ≡ by_answer x → AnsweredBy D G (seen H (run H s ts) t ∷ history_from H s [] ts) x
