-- Demand 3 of the four cassettes, what every call answers and the numbers 1 to 6, told from the history: the one theorem, used for this unit. Assumes nothing.
use Prim.Native.Nat.{ℕ, ◌≤◌}
use mathlib.Core.Path.{◌≡◌, refl, ◌∙◌}
use mathlib.Core.Bool.{true}
use mathlib.Core.List.{List, []}
use native.Mathlib.Nat.{le_trans, mul-le-mul_left}
use lib.Dec.{lit≤}
use lib.ListN.{replicate, length-replicate}
use Rattle.refusals.proofs.Rules.{Alike, holds-true}
use Rattle.ledger.specs.Events.{History}
use Rattle.ledger.specs.Account.{Ending}
use Rattle.ledger.specs.Calls.{run}
use Rattle.ledger.proofs.Declining.{rising, given-alike}
use Rattle.xor_frame.specs.Frame.{length_with}
use Rattle.vcdm_frame_rules.specs.Table.{table, code_in}
use Rattle.vcdm_frame_rules.specs.Command.{askable, sendable}
use Rattle.vcdm_frame_rules.specs.declared.command.Counts.{Counts}
use Rattle.exchange_rules.specs.Limits.{command_limit}
use Rattle.exchange_rules.specs.Sums.{fresh_sums}
use Rattle.exchange_rules.specs.Machine as machine
use Rattle.exchange_rules.specs.Kept.{settled}
use Rattle.exchange_rules.proofs.Bounds.{bounded-longer}
use Rattle.exchange_rules.proofs.Keeping.{settled-most}
use Rattle.exchange_rules.proofs.Demand3.{Kept, new-sound, new-tracks, demand3 as demand3-of, told-by-history as told_of, carried-by-bytes as Carried-of, run-kept, alike_at}
use Rattle.vcdm_rules.specs.Session.{fresh_session, serial_for, request_refusals, byte_refusals, tick_refusals}
use Rattle.vcdm_rules.specs.Account.{fresh_account}
use Rattle.vcdm_rules.specs.Calls.{Call, request, byte, tick, Request, Own, Counted, fresh_counted, host, history}
use Rattle.vcdm_rules.specs.Unit.{Cassette, top, second, third, bottom, cassette, unit, box}
use Rattle.vcdm_rules.specs.History.{FourCassettes, AlwaysSound, NeverCut, ToldByHistory, CarriedByBytes, history_refusals, DeclinesByHistory}
use Rattle.vcdm_rules.proofs.Shown.{lawful}
use Rattle.vcdm_rules.proofs.Same.{sent-asked, session}
use Rattle.vcdm_rules.proofs.Exact.{exactly-when}

fresh-sums : (c : Cassette) → cassette fresh_account c ≡ fresh_sums
fresh-sums top = refl
fresh-sums second = refl
fresh-sums third = refl
fresh-sums bottom = refl

pub fresh_kept : Kept lawful session fresh_counted []
unfolding fresh_session length_with code_in table
fresh_kept =
    record {
      own = record { span = refl; serial = refl; fits = (lit≤ tt, lit≤ tt) };
      sound = new-sound unit _ fresh_account (replicate 30 0) fresh-sums (length-replicate {A = ℕ} 30 0);
      tracks = new-tracks unit _ fresh_account (replicate 30 0) fresh-sums (length-replicate {A = ℕ} 30 0);
    }

pub demand3 : FourCassettes
demand3 = demand3-of lawful session fresh_counted fresh_kept

pub after-calls : (cs : List Call) → Kept lawful session (run host fresh_counted cs) (history cs)
after-calls cs = run-kept lawful session fresh_counted [] cs fresh_kept

pub always-sound : AlwaysSound
always-sound cs = (after-calls cs).sound

pub never_cut : NeverCut
never_cut cs c =
    let k = (after-calls cs).sound in
    let l = (run host fresh_counted cs).session.line in
    let few : settled l.phase l.accepted ≤ command_limit = le_trans (settled-most l.phase l.accepted) k.commands in
    bounded-longer (k.books c) (mul-le-mul_left 223 k.commands) (mul-le-mul_left 223 few)

pub told-by-history : ToldByHistory
told-by-history = told_of lawful session fresh_counted fresh_kept

pub carried-by-bytes : CarriedByBytes
carried-by-bytes = Carried-of lawful session fresh_counted fresh_kept

-- ---- the numbers of the history

-- the rules of a request, by the line and by the history
alike : (x : Counted) (h : History Request Own Ending) (code : ℕ) (n : Counts) (r : List ℕ) → Kept lawful session x h
    → Alike (request_refusals x.session.line code n r) (history_refusals h (request code n r))
unfolding request_refusals history_refusals machine.request_refusals machine.history_refusals
alike x h code n r k =
    let q : Request = record { code = code; counts = n; serial = serial_for code x.serial } in
    let a = alike_at unit (box x) h q r k.tracks in
    let sent : (askable code n).holds → (sendable code n (serial_for code x.serial)).holds =
    λ y. (sendable code n (serial_for code x.serial)).tells.shown (sent-asked code n x.serial k.own.fits ∙ holds-true (askable code n) y) in (
      refl,
      (
        ((λ w. w), λ w. w),
        λ y. (
          refl,
          (
            ((λ w. w), λ w. w),
            λ z.
                let b = (a.1.1 y).1.1 (λ w. z (λ v. w (sent v))) in
                (b.0, (b.1.0, λ i. ((b.1.1 i).0, ((b.1.1 i).1.0, λ j. (((b.1.1 i).1.1 j).0, (((b.1.1 i).1.1 j).1.0, λ k. tt)))))),
          ),
        ),
      ),
    )

rises : (h : History Request Own Ending) (code : ℕ) (n : Counts) (r : List ℕ) → rising (history_refusals h (request code n r)) ≡ true
unfolding history_refusals
rises h code n r = refl

pub declines-by-history : DeclinesByHistory
unfolding byte_refusals tick_refusals history_refusals
declines-by-history cs (request code n r) =
    let x = run host fresh_counted cs in
    given-alike (exactly-when.request x code n r) (alike x (history cs) code n r (after-calls cs)) (rises (history cs) code n r)
declines-by-history cs (byte b r) = exactly-when.byte (run host fresh_counted cs) b r
declines-by-history cs (tick ms r) = exactly-when.tick (run host fresh_counted cs) ms r
