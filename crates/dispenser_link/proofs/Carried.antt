-- Nothing that a call needs is lost at the border (`Carried`): a session that is held is the session that it was made of, but for the kept requests, and no call reads those.
-- Assumes nothing.
use mathlib.Core.Path.{◌≡◌, refl, ap, ◌∙◌}
use mathlib.Core.List.{List, [], ◌∷◌}
use Rattle.ledger.specs.Calls.{run}
use Rattle.exchange_rules.specs.declared.line.Phase.{Phase}
use Rattle.exchange_rules.specs.declared.line.Phase.TheVariants.{Idle, First, Start, Inside}
use Rattle.dispenser_rules.specs.Requests.{fresh_requests}
use Rattle.dispenser_rules.specs.Session.{fresh_session, session_request, session_byte, session_tick, session_clear, account_asked, account_heard}
use Rattle.dispenser_rules.specs.Calls.{Call, request, byte, tick, clear, called, host}
use Rattle.dispenser_rules.specs.declared.session.Session.{Session}
use Rattle.dispenser_link.specs.Held.{phase_number, phase_of, held, session_of, HeldAfter, leaves_after}
use Rattle.dispenser_link.specs.Promises.{held_called, held_run, Carried}

phase-back : (p : Phase) → phase_of (phase_number p) ≡ p
unfolding phase_of
phase-back Idle = refl
phase-back First = refl
phase-back Start = refl
phase-back Inside = refl

-- the session, with no request kept
abbrev bare : Session → Session
bare s = record { line = s.line; asked = s.asked; account = record { cassettes = s.account.cassettes; requests = fresh_requests }; store = s.store }

pub session-back : (s : Session) → session_of (held s) ≡ bare s
unfolding held session_of
session-back s =
    ap (λ (p : Phase). record {
      line =
          record {
            left = s.line.left;
            quiet = s.line.quiet;
            accepted = s.line.accepted;
            handed = s.line.handed;
            naks = s.line.naks;
            gathered = s.line.gathered;
            doubts = s.line.doubts;
            phase = p;
          };
      asked = s.asked;
      account = record { cassettes = s.account.cassettes; requests = fresh_requests };
      store = s.store;
    })
    (phase-back s.line.phase)

-- no call reads the kept requests
unread : (s : Session) (c : Call) → leaves_after (called (bare s) c) ≡ leaves_after (called s c)
unfolding held session_request session_byte session_tick session_clear account_asked account_heard
unread s (request code upper lower r) = refl
unread s (byte b r) = refl
unread s (tick ms r) = refl
unread s clear = refl

each : (s : Session) (c : Call) → held_called (held s) c ≡ leaves_after (called s c)
each s c = ap (λ (x : Session). leaves_after (called x c)) (session-back s) ∙ unread s c

all : (s : Session) (cs : List Call) → held_run (held s) cs ≡ held (run host s cs)
unfolding held_run run
all s [] = refl
all s (c ∷ cs) = ap (λ (w : HeldAfter). held_run w.session cs) (each s c) ∙ all (called s c).session cs

pub carried : Carried
carried = record { each = each; all = all fresh_session }
