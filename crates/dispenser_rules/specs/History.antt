-- What is promised of a session of the Model 2000T after any calls at all from a fresh one, told from their history: demand 3, what every call answers, and the
-- numbers 1 to 7. What a history gives is defined in the room `ledger`: from the calls, what they returned and the bytes accepted. Nothing there names the session.
-- Proved in proofs/Demand3.antt.
use Rattle.std.specs.Prelude.{List}
use Rattle.ledger.specs.Calls.{run, Declines}
use Rattle.ledger.specs.Sent.{Demand3}
use Rattle.ledger.specs.Told.{Told, Carried}
use Rattle.exchange_rules.specs.Limits.{hand_overs, command_limit}
use Rattle.exchange_rules.specs.Machine.{discipline, plain, history_refusals}
use Rattle.exchange_rules.specs.Kept.{Within, Sound}
use Rattle.dispenser_frame_rules.specs.declared.answer.Cassette.{Cassette}
use Rattle.dispenser_rules.specs.Session.{fresh_session}
use Rattle.dispenser_rules.specs.Calls.{Call, called, host, history}
use Rattle.dispenser_rules.specs.Unit.{model2000_t, layout, cassette, unit, box, means, lent, plain_closing}

-- demand 3 (`ledger`), of the two cassettes
abbrev pub TwoCassettes : Type 0
TwoCassettes = Demand3 model2000_t layout hand_overs (λ (cs : List Call) (c : Cassette). plain (cassette (run host fresh_session cs).account c)) history

-- what every session keeps: an open command can be sent, was handed over at least once and no more often than the limit, and our 15h stayed below theirs; at most 1,000,000 commands
abbrev pub AlwaysSound : Type 0
AlwaysSound = (cs : List Call) → Sound unit (box (run host fresh_session cs))

-- no sum is more than 99 for each of 1,000,000 commands: so none is ever cut, since each is far from the end of u32, with room for one more answer
abbrev pub NeverCut : Type 0
NeverCut = (cs : List Call) (c : Cassette) → Within 99 command_limit command_limit (cassette (run host fresh_session cs).account c)

-- every accepted call puts the bytes and returns the closing that are due by the history (`ledger`), and leaves every other byte of the room as it was
abbrev pub ToldByHistory : Type 0
ToldByHistory = Told host plain_closing lent model2000_t (discipline unit) fresh_session

-- the fields that a closing by an answer carries are those of the last bytes accepted, from which the sums are read
abbrev pub CarriedByBytes : Type 0
CarriedByBytes = Carried host plain_closing model2000_t (discipline unit) fresh_session

-- "Requests can meet 1 to 5, received bytes 1, ticks 1 and 6"; paying requests can meet 7, and clear 3 (02, Q-9): a call is declined exactly as the history says
abbrev pub DeclinesByHistory : Type 0
DeclinesByHistory = (cs : List Call) (c : Call)
    → Declines host (history_refusals unit (history cs) (means c)) (run host fresh_session cs) (lent c) (called (run host fresh_session cs) c)
