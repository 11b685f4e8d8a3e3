-- What a call of a line does: what the session's own does. Clear is lent no room.
use Rattle.std.specs.Prelude.{ℕ, List, []}
use Rattle.dispenser_rules.specs.Session.{After, after, session_request, session_byte, session_tick, session_clear}
use Rattle.dispenser_rules.specs.Outcome.{Outcome}
use Rattle.dispenser_rules.specs.declared.session.Session.{Session}
use Rattle.sheet_session.specs.declared.Call.{Call}
use Rattle.sheet_session.specs.declared.Call.TheVariants.{Request, Byte, Tick, Clear}

abbrev pub left : Call → Outcome → List ℕ → After
left (Request code upper lower) o room = after o room
left (Byte b) o room = after o room
left (Tick ms) o room = after o room
left Clear o room = after o []

abbrev pub made : Session → Call → List ℕ → After
made s (Request code upper lower) room = session_request s code upper lower room
made s (Byte b) room = session_byte s b room
made s (Tick ms) room = session_tick s ms room
made s Clear room = session_clear s
