-- The last error of each cassette is told by the bytes of the history: at every call what the call answered changes it as the history's newest command does.
-- Assumes nothing.
use Rattle.dispenser_rules.specs.declared.session.Closing.{Closing}
use Rattle.std.specs.Prelude.{Ok}
use Prim.Native.Nat.{ℕ}
use mathlib.Core.Path.{◌≡◌, refl, sym, ap, subst, ◌∙◌}
use mathlib.Core.Bool.{Bool, true, false, cond}
use mathlib.Core.List.{List, [], ◌∷◌}
use native.Mathlib.Omega.{arith}
use lib.ListN.{take}
use Rattle.ledger.specs.Events.{Deed, asks, hears, waits, own, Left, goes_on, closes, done, History}
use Rattle.ledger.specs.Account.{Ending, answered, refused, unknown, Fate, waiting, answered_by, turned_down, in_doubt, fate_after, Command, followed, commands, last_of}
use Rattle.ledger.specs.Calls.{told, seen, history_from}
use Rattle.ledger.specs.Told.{AnsweredBy}
use Rattle.exchange_rules.specs.Machine.{discipline}
use Rattle.exchange_rules.proofs.Demand3.{Kept, next-kept, call-carries}
use Rattle.error_codes.specs.Errors.{error_class}
use Rattle.error_codes.specs.declared.ErrorClass.{ErrorClass}
use Rattle.dispenser_frame_rules.specs.Answer.{answer_code, read_answer}
use Rattle.dispenser_frame_rules.specs.Promises.{error_in}
use Rattle.dispenser_frame_rules.proofs.Told.{error-as-told}
use Rattle.dispenser_frame_rules.specs.declared.answer.Cassette.{Cassette}
use Rattle.dispenser_frame_rules.specs.declared.answer.Cassette.TheVariants.{Upper, Lower}
use Rattle.dispenser_frame_rules.specs.declared.answer.Answer.{Answer}
use Rattle.dispenser_frame_rules.specs.declared.answer.Answer.TheVariants.{Purged, PaidOne, PaidBoth, Tested, Status}
use Rattle.dispenser_rules.specs.Session.{fresh_session}
use Rattle.dispenser_rules.specs.Calls.{Call, called, Request, Own, deed, returned, ending, host}
use Rattle.dispenser_rules.specs.Unit.{model2000_t, unit}
use Rattle.dispenser_rules.specs.Errors.{no_errors, last_of as last_for, erred_by_answer, erred_by, errors_from, tells, told_by, last_error_in, ErrorsByHistory}
use Rattle.dispenser_rules.specs.LastError.{LastError}
use Rattle.dispenser_rules.specs.LastError.{Of}
use Rattle.dispenser_rules.specs.declared.errors.LastErrors.{LastErrors}
use Rattle.dispenser_rules.specs.declared.session.Closing.TheVariants.{Nothing, Answered, Refused, Unknown}
use Rattle.dispenser_rules.specs.Reply.{Reply}
use Rattle.dispenser_rules.specs.Reply.{NotDone, Done}
use Rattle.dispenser_rules.specs.declared.session.Session.{Session}
use Rattle.dispenser_rules.proofs.Shown.{lawful, answers_by}
use Rattle.dispenser_rules.proofs.Same.{session}
use Rattle.dispenser_rules.proofs.Demand3.{fresh_kept}

-- ---- a call that closes nothing by an answer

-- what a call returned is no answer
abbrev Unanswered : Left Ending → Type 0
Unanswered goes_on = Unit {0}
Unanswered (closes answered) = ⊥
Unanswered (closes refused) = Unit {0}
Unanswered (closes unknown) = Unit {0}

fate-kept : (left : Left Ending) → Unanswered left → (f : List ℕ) (x : Fate) (code : ℕ) (c : Cassette) (older : LastError)
    → told_by (fate_after left f x) code c older ≡ told_by x code c older
fate-kept goes_on u f waiting code c older = refl
fate-kept goes_on u f (answered_by g) code c older = refl
fate-kept goes_on u f turned_down code c older = refl
fate-kept goes_on u f in_doubt code c older = refl
fate-kept (closes answered) u f x code c older = absurd u
fate-kept (closes refused) u f waiting code c older = refl
fate-kept (closes refused) u f (answered_by g) code c older = refl
fate-kept (closes refused) u f turned_down code c older = refl
fate-kept (closes refused) u f in_doubt code c older = refl
fate-kept (closes unknown) u f waiting code c older = refl
fate-kept (closes unknown) u f (answered_by g) code c older = refl
fate-kept (closes unknown) u f turned_down code c older = refl
fate-kept (closes unknown) u f in_doubt code c older = refl

followed-kept : (put : List ℕ) (left : Left Ending) → Unanswered left → (l : List ℕ) (ks : List (Command Request)) (c : Cassette)
    → last_error_in (followed model2000_t put left l ks) c ≡ last_error_in ks c
unfolding last_error_in
followed-kept put left u l [] c = refl
followed-kept put left u l (k ∷ ks) c = fate-kept left u (last_of (model2000_t.span k.asks) l) k.fate k.asks.code c (last_error_in ks c)

opened-kept : (left : Left Ending) → Unanswered left → (r : Request) (put f : List ℕ) (n : ℕ) (ks : List (Command Request)) (c : Cassette)
    → last_error_in (record { asks = r; frame = put; handed = n; fate = fate_after left f waiting } ∷ ks) c ≡ last_error_in ks c
unfolding last_error_in
opened-kept left u r put f n ks c = fate-kept left u f waiting r.code c (last_error_in ks c)

done-kept : (d : Deed Request Own) (put : List ℕ) (left : Left Ending) → Unanswered left → (h : History Request Own Ending) (c : Cassette)
    → last_error_in (commands model2000_t (done d put left ∷ h)) c ≡ last_error_in (commands model2000_t h) c
unfolding commands
done-kept (asks r) put left u h c = opened-kept left u r put _ _ (commands model2000_t h) c
done-kept (hears b) put left u h c = followed-kept put left u _ (commands model2000_t h) c
done-kept (waits ms) put left u h c = followed-kept put left u _ (commands model2000_t h) c
done-kept (own o) put left u h c = followed-kept put left u _ (commands model2000_t h) c

-- ---- a call that closes by an answer

-- a command whose answer does not speak of the cassette tells nothing of it
silent : (x : Fate) (code : ℕ) (c : Cassette) (older : LastError) → tells code c ≡ false → told_by x code c older ≡ older
silent waiting code c older n = refl
silent (answered_by f) code c older n = ap (λ (t : Bool). cond t (Of (error_class (error_in f))) older) n
silent turned_down code c older n = refl
silent in_doubt code c older n = refl

followed-behind : (put : List ℕ) (left : Left Ending) (l : List ℕ) (js : List (Command Request)) (k : Command Request) (ks : List (Command Request))
    → followed model2000_t put left l js ≡ k ∷ ks → (c : Cassette) → tells k.asks.code c ≡ false → last_error_in ks c ≡ last_error_in js c
unfolding last_error_in
followed-behind put left l [] k ks e c n = absurd (let z : ◌≡◌ {A = ℕ} 0 1 = cc in omega arith)
followed-behind put left l (j ∷ js) k ks e c n =
    let behind : js ≡ ks = cc in
    let same : j.asks ≡ k.asks = cc in
    ap (λ (x : List (Command Request)). last_error_in x c) (sym behind)
    ∙ sym (silent j.fate j.asks.code c (last_error_in js c) (ap (λ (q : Request). tells q.code c) same ∙ n))

-- what stands behind the newest command says of such a cassette what was said before
behind : (d : Deed Request Own) (put : List ℕ) (left : Left Ending) (h : History Request Own Ending) (k : Command Request) (ks : List (Command Request))
    → commands model2000_t (done d put left ∷ h) ≡ k ∷ ks → (c : Cassette) → tells k.asks.code c ≡ false
    → last_error_in ks c ≡ last_error_in (commands model2000_t h) c
unfolding commands
behind (asks r) put left h k ks e c n = let same : commands model2000_t h ≡ ks = cc in ap (λ (x : List (Command Request)). last_error_in x c) (sym same)
behind (hears b) put left h k ks e c n = followed-behind put left _ (commands model2000_t h) k ks e c n
behind (waits ms) put left h k ks e c n = followed-behind put left _ (commands model2000_t h) k ks e c n
behind (own o) put left h k ks e c n = followed-behind put left _ (commands model2000_t h) k ks e c n

-- what an answer that was read changes, by its code
by_code : (e : LastErrors) (answer : Answer) (class : ErrorClass) (c : Cassette)
    → last_for (erred_by_answer e answer class) c ≡ cond (tells (answer_code answer) c) (Of class) (last_for e c)
by_code e (Purged b) class Upper = refl
by_code e (Purged b) class Lower = refl
by_code e (PaidOne Upper k x b s r) class Upper = refl
by_code e (PaidOne Upper k x b s r) class Lower = refl
by_code e (PaidOne Lower k x b s r) class Upper = refl
by_code e (PaidOne Lower k x b s r) class Lower = refl
by_code e (PaidBoth uc ux lc lx b us ls ur lr) class Upper = refl
by_code e (PaidBoth uc ux lc lx b us ls ur lr) class Lower = refl
by_code e (Tested Upper k b s r) class Upper = refl
by_code e (Tested Upper k b s r) class Lower = refl
by_code e (Tested Lower k b s r) class Upper = refl
by_code e (Tested Lower k b s r) class Lower = refl
by_code e (Status b s0 s1) class Upper = refl
by_code e (Status b s0 s1) class Lower = refl

either_side : (t : Bool) (x a b : LastError) → (t ≡ false → a ≡ b) → cond t x a ≡ cond t x b
either_side true x a b h = refl
either_side false x a b h = h refl

answered-same : (e : LastErrors) (d : Deed Request Own) (put : List ℕ) (h : History Request Own Ending) (answer : Answer) (class : ErrorClass) (c : Cassette)
    → AnsweredBy model2000_t (discipline unit) (done d put (closes answered) ∷ h) (record { answer = answer; class = class })
    → last_for e c ≡ last_error_in (commands model2000_t h) c
    → last_for (erred_by_answer e answer class) c ≡ last_error_in (commands model2000_t (done d put (closes answered) ∷ h)) c
unfolding last_error_in
answered-same e d put h answer class c a i =
    let k = a.newest in
    let code = k.asks.code in
    let g = answers_by code (record { answer = answer; class = class }) (read_answer a.frame) a.says in
    let told : class ≡ error_class (error_in a.frame) = error-as-told.told a.frame answer class g.read in
    let same : tells (answer_code answer) c ≡ tells code c = ap (λ (x : ℕ). tells x c) g.same_code in
    by_code e answer class c
    ∙ ap (λ (t : Bool). cond t (Of class) (last_for e c)) same
    ∙ either_side (tells code c) (Of class) (last_for e c) (last_error_in a.older c)
    (λ n. i ∙ sym (behind d put (closes answered) h k a.older a.split c n))
    ∙ ap (λ (x : ErrorClass). cond (tells code c) (Of x) (last_error_in a.older c)) told
    ∙ ap (λ (x : Fate). told_by x code c (last_error_in a.older c)) (sym a.fate)
    ∙ ap (λ (x : List (Command Request)). last_error_in x c) (sym a.split)

-- ---- a call

call_same : (s : Session) (h : History Request Own Ending) (e : LastErrors) (t : Call) → Kept lawful session s h → (c : Cassette)
    → last_for e c ≡ last_error_in (commands model2000_t h) c
    → last_for (erred_by e (called s t).reply) c ≡ last_error_in (commands model2000_t (seen host s t ∷ h)) c
unfolding commands
call_same s h e t k c i = by (called s t).reply refl
  where
    closed : (n : ℕ) (x : Closing) → (called s t).reply ≡ Done n x
        → last_for (erred_by e (Done n x)) c ≡ last_error_in (commands model2000_t (told ending (deed t) (returned (Done n x)) (called s t).room ∷ h)) c
    closed n Nothing q = i ∙ sym (done-kept (deed t) (take n (called s t).room) goes_on tt h c)
    closed n (Answered answer class) q =
        answered-same e (deed t) (take n (called s t).room) h answer class c
        (subst (λ (p : Reply). AnsweredBy model2000_t (discipline unit) (told ending (deed t) (returned p) (called s t).room ∷ h) (record { answer = answer; class = class })) q
        (call-carries lawful session s h t n (Answered answer class) (record { answer = answer; class = class }) k (ap returned q) refl)) i
    closed n Refused q = i ∙ sym (done-kept (deed t) (take n (called s t).room) (closes refused) tt h c)
    closed n Unknown q = i ∙ sym (done-kept (deed t) (take n (called s t).room) (closes unknown) tt h c)

    by : (p : Reply) → (called s t).reply ≡ p
        → last_for (erred_by e p) c ≡ last_error_in (commands model2000_t (told ending (deed t) (returned p) (called s t).room ∷ h)) c
    by (NotDone why) q = i
    by (Ok w) q = closed w.put w.closing q

from-same : (s : Session) (h : History Request Own Ending) (e : LastErrors) (ts : List Call) → Kept lawful session s h
    → ((c : Cassette) → last_for e c ≡ last_error_in (commands model2000_t h) c)
    → (c : Cassette) → last_for (errors_from s e ts) c ≡ last_error_in (commands model2000_t (history_from host s h ts)) c
unfolding errors_from history_from
from-same s h e [] k i c = i c
from-same s h e (t ∷ ts) k i c =
    from-same (called s t).session (seen host s t ∷ h) (erred_by e (called s t).reply) ts (next-kept lawful session s h t k)
    (λ x. call_same s h e t k x (i x)) c

fresh-same : (c : Cassette) → last_for no_errors c ≡ last_error_in (commands model2000_t {O = Own} []) c
unfolding no_errors last_error_in commands
fresh-same Upper = refl
fresh-same Lower = refl

pub errors-by-history : ErrorsByHistory
errors-by-history cs c = from-same fresh_session [] no_errors cs fresh_kept fresh-same c
