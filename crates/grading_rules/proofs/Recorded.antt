-- The sessions after a replay are those that the recording's calls lead to, so that what holds after any calls at all holds of what is reported.
-- Assumes nothing.
use Prim.Native.Nat.{ℕ, ◌+◌}
use mathlib.Core.Path.{◌≡◌, refl, sym, ap, ap₂, ◌∙◌, subst}
use mathlib.Core.Bool.{Bool, true, false, cond}
use mathlib.Core.List.{List, [], ◌∷◌, flatten}
use native.Mathlib.Omega.{arith}
use lib.ListN.{length}
use Rattle.numbers.specs.Promises.{AllBytes}
use Rattle.refusals.proofs.Rules.{either_way}
use Rattle.dispenser_rules.specs.Session.{refused_step, clear_refusals, clear_step, fresh_session, session_clear}
use Rattle.ledger.specs.Calls.{run as ran}
use Rattle.dispenser_rules.specs.Calls.{host}
use Rattle.exchange_rules.specs.Machine.{plain}
use Rattle.dispenser_rules.specs.Unit.{cassette}
use Rattle.dispenser_rules.specs.Errors.{no_errors, last_of, erred_by, errors_from}
use Rattle.dispenser_rules.specs.declared.errors.LastErrors.{LastErrors}
use Rattle.dispenser_rules.proofs.Demand3.{demand3}
use Rattle.dispenser_rules.proofs.ErrorsTold.{errors-by-history}
use Rattle.dispenser_rules.proofs.Kept.{kept-by-history as requests-by-history}
use Rattle.dispenser_rules.specs.Requests.{oldest_first}
use Rattle.dispenser_rules.specs.declared.session.Session.{Session}
use Rattle.dispenser_rules.specs.Step.{Step}
use Rattle.validator_rules.specs.Session.{fresh_session as fresh_taker}
use Rattle.validator_rules.specs.Calls.{host as taker_host}
use Rattle.validator_rules.specs.declared.session.Session.{Session as Taker}
use Rattle.validator_rules.proofs.Agreeing.{kept-by-history}
use Rattle.recording.specs.Record.{AllInRange}
use Rattle.recording.proofs.Exact.{exactly-when}
use Rattle.recording.specs.Reading.{records, read_recording}
use Rattle.recording.specs.declared.Record.{Record}
use Rattle.recording.specs.declared.Record.TheVariants.{Request, DispenserByte, Tick, ValidatorByte, Command, Clear}
use Rattle.grading_rules.specs.Replay.{fresh_desk, given, run, told, replayed}
use Rattle.grading_rules.specs.Feeding.{replay_of}
use Rattle.grading_rules.specs.Promises.{calls, taker_calls, refuses, refusals, Recorded, AsRecorded}
use Rattle.grading_rules.specs.declared.desk.Desk.{Desk}
use Rattle.grading_rules.specs.declared.findings.Findings.{Findings}
use Rattle.grading_rules.proofs.Cuts.{as_read, however-cut}

pub dispenser-ran : (d : Desk) (xs : List Record) → (run d xs).dispenser ≡ ran host d.dispenser (calls xs)
unfolding run calls ran
dispenser-ran d [] = refl
dispenser-ran d (Request code upper lower ∷ xs) = dispenser-ran (given d (Request code upper lower)) xs
dispenser-ran d (DispenserByte b ∷ xs) = dispenser-ran (given d (DispenserByte b)) xs
dispenser-ran d (Tick ms ∷ xs) = dispenser-ran (given d (Tick ms)) xs
dispenser-ran d (ValidatorByte b ∷ xs) = dispenser-ran (given d (ValidatorByte b)) xs
dispenser-ran d (Command code ∷ xs) = dispenser-ran (given d (Command code)) xs
dispenser-ran d (Clear ∷ xs) = dispenser-ran (given d Clear) xs

pub validator-ran : (d : Desk) (xs : List Record) (i : AllInRange xs) → (run d xs).validator ≡ ran taker_host d.validator (taker_calls xs i)
unfolding run taker_calls ran
validator-ran d [] i = refl
validator-ran d (Request code upper lower ∷ xs) i = validator-ran (given d (Request code upper lower)) xs i.1
validator-ran d (DispenserByte b ∷ xs) i = validator-ran (given d (DispenserByte b)) xs i.1
validator-ran d (Tick ms ∷ xs) i = validator-ran (given d (Tick ms)) xs i.1
validator-ran d (ValidatorByte b ∷ xs) i = validator-ran (given d (ValidatorByte b)) xs i.1
validator-ran d (Command code ∷ xs) i = validator-ran (given d (Command code)) xs i.1
validator-ran d (Clear ∷ xs) i = validator-ran (given d Clear) xs i.1

-- the operator's clear leaves them
clear-errors : (e : LastErrors) (s : Session) → e ≡ erred_by e (session_clear s).reply
unfolding session_clear clear_step
clear-errors e s = either_way (λ (w : Step). e ≡ erred_by e w.reply) (clear_refusals s.line) (refused_step s.line) _ (λ why. refl) (λ n. refl)

-- the last errors are those after the same calls
errors-ran : (d : Desk) (xs : List Record) → (run d xs).errors ≡ errors_from d.dispenser d.errors (calls xs)
unfolding run calls errors_from
errors-ran d [] = refl
errors-ran d (Request code upper lower ∷ xs) = errors-ran (given d (Request code upper lower)) xs
errors-ran d (DispenserByte b ∷ xs) = errors-ran (given d (DispenserByte b)) xs
errors-ran d (Tick ms ∷ xs) = errors-ran (given d (Tick ms)) xs
errors-ran d (ValidatorByte b ∷ xs) = errors-ran (given d (ValidatorByte b)) xs
errors-ran d (Command code ∷ xs) = errors-ran (given d (Command code)) xs
errors-ran d (Clear ∷ xs) =
    errors-ran (given d Clear) xs ∙ ap (λ (e : LastErrors). errors_from (session_clear d.dispenser).session e (calls xs)) (clear-errors d.errors d.dispenser)

-- ---- counts

one_more : (t : Bool) (n m : ℕ) → cond t (n + 1) n + m ≡ n + (cond t 1 0 + m)
one_more true n m = omega arith
one_more false n m = omega arith

given-declined : (d : Desk) (x : Record) → (given d x).declined ≡ cond (refuses d x) (d.declined + 1) d.declined
given-declined d (Request code upper lower) = refl
given-declined d (DispenserByte b) = refl
given-declined d (Tick ms) = refl
given-declined d (ValidatorByte b) = refl
given-declined d (Command code) = refl
given-declined d Clear = refl

given-records : (d : Desk) (x : Record) → (given d x).records ≡ d.records + 1
given-records d (Request code upper lower) = refl
given-records d (DispenserByte b) = refl
given-records d (Tick ms) = refl
given-records d (ValidatorByte b) = refl
given-records d (Command code) = refl
given-records d Clear = refl

pub declined-ran : (d : Desk) (xs : List Record) → (run d xs).declined ≡ d.declined + refusals d xs
unfolding run refusals
declined-ran d [] = omega arith
declined-ran d (x ∷ xs) =
    declined-ran (given d x) xs ∙ ap (λ (n : ℕ). n + refusals (given d x) xs) (given-declined d x) ∙ one_more (refuses d x) d.declined (refusals (given d x) xs)

pub records-ran : (d : Desk) (xs : List Record) → (run d xs).records ≡ d.records + length xs
unfolding run
records-ran d [] = omega arith
records-ran d (x ∷ xs) = omega (arith, records-ran (given d x) xs, given-records d x)

-- ---- a good recording

pub good_replay : (s : List ℕ) (xs : List Record) → read_recording s ≡ records xs → replay_of s ≡ told (run fresh_desk xs)
good_replay s xs e = as_read s ∙ ap (replayed fresh_desk) e

fresh-parts : (fresh_desk.dispenser ≡ fresh_session) × (fresh_desk.validator ≡ fresh_taker)
unfolding fresh_desk
fresh-parts = (refl, refl)

fresh-errors : fresh_desk.errors ≡ no_errors
unfolding fresh_desk
fresh-errors = refl

fresh-counts : (fresh_desk.declined ≡ 0) × (fresh_desk.records ≡ 0)
unfolding fresh_desk
fresh-counts = (refl, refl)

pub session-ran : (xs : List Record) → (run fresh_desk xs).dispenser ≡ ran host fresh_session (calls xs)
session-ran xs = dispenser-ran fresh_desk xs ∙ ap (λ (s : Session). ran host s (calls xs)) fresh-parts.0

errors_told : (xs : List Record) → (run fresh_desk xs).errors ≡ errors_from fresh_session no_errors (calls xs)
errors_told xs = errors-ran fresh_desk xs ∙ ap₂ (λ (s : Session) (e : LastErrors). errors_from s e (calls xs)) fresh-parts.0 fresh-errors

pub taker-ran : (xs : List Record) (i : AllInRange xs) → (run fresh_desk xs).validator ≡ ran taker_host fresh_taker (taker_calls xs i)
taker-ran xs i = validator-ran fresh_desk xs i ∙ ap (λ (s : Taker). ran taker_host s (taker_calls xs i)) fresh-parts.1

-- in one piece
pub as-recorded-whole : (s : List ℕ) (xs : List Record) → AllBytes s → read_recording s ≡ records xs → (i : AllInRange xs) × Recorded (replay_of s) xs i
as-recorded-whole s xs h e =
    let i = ((exactly-when.good s xs h).0 e).1 in
    let g = good_replay s xs e in (
      i,
      record {
        account = λ c.
            ap (λ (f : Findings). plain (cassette f.account c)) g
            ∙ ap (λ (w : Session). plain (cassette w.account c)) (session-ran xs)
            ∙ demand3.account (calls xs) c;
        balance = demand3.balance (calls xs);
        kept =
            ap (λ (f : Findings). oldest_first f.account.requests) g
            ∙ ap (λ (w : Session). oldest_first w.account.requests) (session-ran xs)
            ∙ requests-by-history.kept (calls xs);
        errors_told = λ c.
            ap (λ (f : Findings). last_of f.errors c) g ∙ ap (λ (e : LastErrors). last_of e c) (errors_told xs) ∙ errors-by-history (calls xs) c;
        bills_told = λ y l. rw (g, taker-ran xs i) (kept-by-history.bills (taker_calls xs i) y l);
        table_told = rw (g, taker-ran xs i) (kept-by-history.table (taker_calls xs i));
        declined = ap (λ (f : Findings). f.declined) g ∙ declined-ran fresh_desk xs ∙ omega (arith, fresh-counts.0);
        all = ap (λ (f : Findings). f.records) g ∙ records-ran fresh_desk xs ∙ omega (arith, fresh-counts.1);
      },
    )

-- in any pieces
pub as-recorded : AsRecorded
as-recorded ps xs h e =
    let r = as-recorded-whole (flatten ps) xs h e in
    (r.0, subst (λ (f : Findings). Recorded f xs r.0) (sym (however-cut.same ps)) r.1)
