-- Demand 3 of the two cassettes, what every call answers and the numbers 1 to 7, told from the history: the one theorem, used for the Model 2000T. Assumes nothing.
use Prim.Native.Nat.{ℕ, ◌≤◌}
use mathlib.Core.Path.{◌≡◌, refl}
use mathlib.Core.Bool.{true}
use mathlib.Core.List.{List, []}
use native.Mathlib.Nat.{le_trans, mul-le-mul_left}
use lib.ListN.{replicate, length-replicate}
use Rattle.ledger.specs.Events.{History}
use Rattle.ledger.specs.Account.{Ending}
use Rattle.ledger.specs.Calls.{run}
use Rattle.ledger.proofs.Declining.{rising, given-alike}
use Rattle.xor_frame.specs.Frame.{length_with}
use Rattle.dispenser_frame_rules.specs.Table.{table, code_in}
use Rattle.dispenser_frame_rules.specs.declared.answer.Cassette.{Cassette}
use Rattle.dispenser_frame_rules.specs.declared.answer.Cassette.TheVariants.{Upper, Lower}
use Rattle.exchange_rules.specs.Limits.{command_limit}
use Rattle.exchange_rules.specs.Sums.{fresh_sums}
use Rattle.exchange_rules.specs.Machine.{request as asks, clear as clears-line, request_refusals as refusals, clear_refusals as clear-rules, history_refusals}
use Rattle.exchange_rules.specs.Kept.{settled}
use Rattle.exchange_rules.proofs.Bounds.{bounded-longer}
use Rattle.exchange_rules.proofs.Keeping.{settled-most}
use Rattle.exchange_rules.proofs.Demand3.{Kept, new-sound, new-tracks, demand3 as demand3-of, told-by-history as told_of, carried-by-bytes as Carried-of, run-kept, alike_at, clear-alike}
use Rattle.dispenser_rules.specs.Session.{fresh_session, request_refusals, byte_refusals, tick_refusals, clear_refusals}
use Rattle.dispenser_rules.specs.Account.{fresh_cassettes}
use Rattle.dispenser_rules.specs.Calls.{Call, request, byte, tick, clear, Request, Own, clears, host, history}
use Rattle.dispenser_rules.specs.Unit.{sums_of, unit, box}
use Rattle.dispenser_rules.specs.History.{TwoCassettes, AlwaysSound, NeverCut, ToldByHistory, CarriedByBytes, DeclinesByHistory}
use Rattle.dispenser_rules.proofs.Shown.{lawful}
use Rattle.dispenser_rules.proofs.Same.{session}
use Rattle.dispenser_rules.proofs.Exact.{exactly-when}

fresh-sums : (c : Cassette) → sums_of fresh_cassettes c ≡ fresh_sums
fresh-sums Upper = refl
fresh-sums Lower = refl

pub fresh_kept : Kept lawful session fresh_session []
unfolding fresh_session length_with code_in table
fresh_kept =
    record {
      own = refl;
      sound = new-sound unit _ fresh_cassettes (replicate 21 0) fresh-sums (length-replicate {A = ℕ} 21 0);
      tracks = new-tracks unit _ fresh_cassettes (replicate 21 0) fresh-sums (length-replicate {A = ℕ} 21 0);
    }

rises : (h : History Request Own Ending) (q : Request) (r : List ℕ) → rising (history_refusals unit h (asks q r)) ≡ true
unfolding history_refusals
rises h q r = refl

clear-rises : (h : History Request Own Ending) → rising (history_refusals unit h (clears-line clears)) ≡ true
unfolding history_refusals
clear-rises h = refl

pub demand3 : TwoCassettes
demand3 = demand3-of lawful session fresh_session fresh_kept

after-calls : (cs : List Call) → Kept lawful session (run host fresh_session cs) (history cs)
after-calls cs = run-kept lawful session fresh_session [] cs fresh_kept

pub always-sound : AlwaysSound
always-sound cs = (after-calls cs).sound

pub never_cut : NeverCut
never_cut cs c =
    let k = (after-calls cs).sound in
    let s = run host fresh_session cs in
    let few : settled s.line.phase s.line.accepted ≤ command_limit = le_trans (settled-most s.line.phase s.line.accepted) k.commands in
    bounded-longer (k.books c) (mul-le-mul_left 99 k.commands) (mul-le-mul_left 99 few)

pub told-by-history : ToldByHistory
told-by-history = told_of lawful session fresh_session fresh_kept

pub carried-by-bytes : CarriedByBytes
carried-by-bytes = Carried-of lawful session fresh_session fresh_kept

-- the numbers of the history
pub declines-by-history : DeclinesByHistory
unfolding request_refusals refusals byte_refusals tick_refusals clear_refusals clear-rules history_refusals
declines-by-history cs (request code upper lower r) =
    let s = run host fresh_session cs in
    let q : Request = record { code = code; upper = upper; lower = lower } in
    given-alike (exactly-when.request s code upper lower r) (alike_at unit (box s) (history cs) q r (after-calls cs).tracks) (rises (history cs) q r)
declines-by-history cs (byte b r) = exactly-when.byte (run host fresh_session cs) b r
declines-by-history cs (tick ms r) = exactly-when.tick (run host fresh_session cs) ms r
declines-by-history cs clear =
    let s = run host fresh_session cs in
    given-alike (exactly-when.clear s) (clear-alike unit (box s) (history cs) clears (after-calls cs).tracks) (clear-rises (history cs))
