-- The same, told from the history of calls alone: what is promised of a view after any calls at all on a fresh session. Nothing here names a session's field. Proved in proofs/Told.antt.
use Rattle.std.specs.Prelude.{ℕ, ◌≡◌, Bool, cond, List, [], ◌∷◌, ltb, length, get_or}
use Rattle.ledger.specs.Events.{History, since}
use Rattle.ledger.specs.Line.{is_open, quiet_time, quiet_needed}
use Rattle.ledger.specs.Account.{Ending, Command, commands}
use Rattle.ledger.specs.Waiting.{some, waited}
use Rattle.ledger.specs.Told.{naks, begun, turns, wait}
use Rattle.ledger.specs.Calls.{run}
use Rattle.exchange_rules.specs.Limits.{quiet}
use Rattle.exchange_rules.specs.Machine.{discipline, quiet_after}
use Rattle.exchange_rules.specs.declared.line.Phase.{Phase}
use Rattle.exchange_rules.specs.declared.line.Phase.TheVariants.{Idle, First, Start, Inside}
use Rattle.dispenser_rules.specs.Session.{fresh_session}
use Rattle.dispenser_rules.specs.Calls.{Call, Request, Own, host, history}
use Rattle.dispenser_rules.specs.Unit.{model2000_t, unit}
use Rattle.validator_rules.specs.Limits.{quiet as taker_quiet, start_wait, frame_wait}
use Rattle.validator_rules.specs.Session.{fresh_session as fresh_taker}
use Rattle.validator_rules.specs.Calls.{Call as TakerCall, Past as TakerPast, host as taker, history as taker_history}
use Rattle.validator_rules.specs.History.{from_start, starts}
use Rattle.views.specs.View.{view, dispenser_view, validator_view}
use Rattle.views.specs.declared.View.{View}

-- a time, up to the limit of a wait
unfoldable pub up_to : ℕ → ℕ → ℕ
up_to limit t = cond (ltb t limit) t limit

-- ---- the dispenser

abbrev pub Past : Type 0
Past = History Request Own Ending

-- how often the newest command was handed over, and how many bytes its answer has
abbrev pub handed_of : List (Command Request) → ℕ
handed_of [] = 0
handed_of (k ∷ ks) = k.handed

abbrev pub span_of : List (Command Request) → ℕ
span_of [] = 0
span_of (k ∷ ks) = model2000_t.span k.asks

-- bytes of an answer have come; or others since the hand-over; or none
abbrev pub standing : Bool → Bool → Phase
standing started came = cond started Inside (cond came Start First)

-- the wait that goes on, and what has passed of it since the call that began it; our 15h since the request
abbrev pub open_by : Past → View
open_by h =
    view (standing (some (begun h)) (some (since h))) (up_to (wait model2000_t (discipline unit) h) (waited turns h)) (wait model2000_t (discipline unit) h)
    (handed_of (commands model2000_t h)) (naks h) (length (begun h)) (span_of (commands model2000_t h))

-- the quiet that the last closing asks for, and how long the line has been quiet
abbrev pub idle_by : Past → View
idle_by h = view Idle (up_to (quiet_needed (quiet_after unit) quiet h) (quiet_time h)) (quiet_needed (quiet_after unit) quiet h) 0 0 0 0

unfoldable pub view_by : Past → View
view_by h = cond (is_open h) (open_by h) (idle_by h)

-- after any calls at all, a view of the dispenser is what their history says
abbrev pub DispenserTold : Type 0
DispenserTold = (cs : List Call) → dispenser_view (run host fresh_session cs) ≡ view_by (history cs)

-- ---- the validator

-- the wait that goes on: by whether an answer has started
abbrev pub taker_limit : Bool → ℕ
taker_limit started = cond started frame_wait start_wait

-- by what has come of an answer since the frame was sent
abbrev pub taker_open : TakerPast → List ℕ → View
taker_open h f =
    view (cond (some f) Inside Start) (up_to (taker_limit (some f)) (waited starts h)) (taker_limit (some f)) 1 0 (length f) (cond (ltb (length f) 3) 0 (get_or f 2 0))

unfoldable pub taker_by : TakerPast → View
taker_by h = cond (is_open h) (taker_open h (from_start (since h))) (view Idle (up_to taker_quiet (quiet_time h)) taker_quiet 0 0 0 0)

abbrev pub ValidatorTold : Type 0
ValidatorTold = (cs : List TakerCall) → validator_view (run taker fresh_taker cs) ≡ taker_by (taker_history cs)
