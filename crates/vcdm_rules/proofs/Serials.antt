-- The serial in every frame is the one that the history gives; and the only 04h that we send is the one that opens a command. Assumes nothing.
use Rattle.std.specs.Prelude.{Ok}
use Prim.Native.Nat.{ℕ}
use mathlib.Core.Path.{◌≡◌, refl, sym, ap, ◌∙◌, subst}
use mathlib.Core.List.{List, [], ◌∷◌}
use mathlib.Core.Logic.{inl, inr, ⊎_elim}
use Rattle.ledger.specs.Events.{Left, asks, hears, waits, own, declined, done, History, bytes}
use Rattle.ledger.specs.Account.{Ending, Command, followed, commands}
use Rattle.ledger.specs.Calls.{told, seen, run, history_from}
use Rattle.ledger.specs.Sent.{Again, Rightly}
use Rattle.vcdm_rules.specs.Session.{following, serial_after}
use Rattle.vcdm_rules.specs.Calls.{Call, request, byte, tick, Request, Own, Counted, fresh_counted, counted_by, called_counted, deed, returned, ending, host, history, next_serial}
use Rattle.vcdm_rules.specs.Unit.{vcdm, layout}
use Rattle.vcdm_rules.specs.History.{Numbered, Plainly, PutPlainly, SerialsByHistory, OnlyOpening}
use Rattle.vcdm_rules.specs.Promises.{Runs}
use Rattle.vcdm_rules.specs.Reply.{Reply}
use Rattle.vcdm_rules.specs.Reply.{NotDone}
use Rattle.vcdm_rules.proofs.Same.{following-fits}
use Rattle.vcdm_rules.proofs.Demand3.{demand3, after-calls}

-- ---- the serial

-- the caller counts as the history does
counts-on : (h : History Request Own Ending) (c : Call) (p : Reply) (room : List ℕ)
    → next_serial (told ending (deed (next_serial h) c) (returned p) room ∷ h) ≡ counted_by c p (next_serial h)
unfolding next_serial serial_after
counts-on h (request code n r) (NotDone why) room = refl
counts-on h (request code n r) (Ok effect) room = refl
counts-on h (byte b r) (NotDone why) room = refl
counts-on h (byte b r) (Ok effect) room = refl
counts-on h (tick ms r) (NotDone why) room = refl
counts-on h (tick ms r) (Ok effect) room = refl

numbers_on : (h : History Request Own Ending) (c : Call) (p : Reply) (room : List ℕ) → Numbered h
    → Numbered (told ending (deed (next_serial h) c) (returned p) room ∷ h)
numbers_on h (request code n r) (NotDone why) room k = k
numbers_on h (request code n r) (Ok effect) room k = (refl, k)
numbers_on h (byte b r) (NotDone why) room k = k
numbers_on h (byte b r) (Ok effect) room k = k
numbers_on h (tick ms r) (NotDone why) room k = k
numbers_on h (tick ms r) (Ok effect) room k = k

-- what holds of a caller that has counted so far
record Counts (x : Counted) (h : History Request Own Ending) : Type 0 where
  serial : x.serial ≡ next_serial h
  numbered : Numbered h

next-counts : (x : Counted) (h : History Request Own Ending) (c : Call) → Counts x h → Counts (called_counted x c).session (seen host x c ∷ h)
next-counts x h c k =
    let p = (called_counted x c).reply in
    let room = (called_counted x c).room in
    record {
      serial = ap (counted_by c p) k.serial
          ∙ sym (counts-on h c p room)
          ∙ ap (λ (s : ℕ). next_serial (told ending (deed s c) (returned p) room ∷ h)) (sym k.serial);
      numbered = subst (λ (s : ℕ). Numbered (told ending (deed s c) (returned p) room ∷ h)) (sym k.serial) (numbers_on h c p room k.numbered);
    }

run-counts : (x : Counted) (h : History Request Own Ending) (cs : List Call) → Counts x h → Counts (run host x cs) (history_from host x h cs)
unfolding run history_from
run-counts x h [] k = k
run-counts x h (c ∷ cs) k = run-counts (called_counted x c).session (seen host x c ∷ h) cs (next-counts x h c k)

fresh-counts : Counts fresh_counted []
unfolding next_serial
fresh-counts = record { serial = refl; numbered = tt }

pub serials-by-history : SerialsByHistory
serials-by-history =
    record {
      stored = λ cs. (after-calls cs).own.serial ∙ (run-counts fresh_counted [] cs fresh-counts).serial;
      numbered = λ cs. (run-counts fresh_counted [] cs fresh-counts).numbered;
    }

pub runs : Runs
unfolding following
runs = record { first = refl; again = refl; within = following-fits }

-- ---- the only 04h

-- every command has the frame of what was asked
abbrev Framed : List (Command Request) → Type 0
Framed [] = Unit {0}
Framed (k ∷ ks) = (k.frame ≡ layout k.asks) × Framed ks

followed-framed : (put : List ℕ) (left : Left Ending) (l : List ℕ) (ks : List (Command Request)) → Framed ks → Framed (followed vcdm put left l ks)
followed-framed put left l [] f = tt
followed-framed put left l (k ∷ ks) f = f

framed : (h : History Request Own Ending) → Rightly vcdm layout h → Framed (commands vcdm h)
unfolding commands
framed [] k = tt
framed (declined ∷ h) k = framed h k
framed (done (asks q) put left ∷ h) k = (k.0, framed h k.1)
framed (done (hears b) put left ∷ h) k = followed-framed put left (bytes (done (hears b) put left ∷ h)) (commands vcdm h) (framed h k.1)
framed (done (waits ms) put left ∷ h) k = followed-framed put left (bytes (done (waits ms) put left ∷ h)) (commands vcdm h) (framed h k.1)
framed (done (own o) put left ∷ h) k = followed-framed put left (bytes (done (own o) put left ∷ h)) (commands vcdm h) (framed h k.1)

again-plainly : (h : History Request Own Ending) (b : ℕ) (put : List ℕ) → Framed (commands vcdm h) → Again vcdm h b put → Plainly put
again-plainly h b put f g = inr (inr (inr (g.newest.asks, g.same ∙ (subst Framed g.split f).0)))

sent-plainly : (h : History Request Own Ending) → Rightly vcdm layout h → PutPlainly h
sent-plainly [] k = tt
sent-plainly (declined ∷ h) k = sent-plainly h k
sent-plainly (done (asks q) put left ∷ h) k = (inr (inr (inr (q, k.0))), sent-plainly h k.1)
sent-plainly (done (hears b) put left ∷ h) k =
    (⊎_elim (λ e. inl e) (⊎_elim (λ e. inr (inl e)) (⊎_elim (λ e. inr (inr (inl e))) (again-plainly h b put (framed h k.1)))) k.0, sent-plainly h k.1)
sent-plainly (done (waits ms) put left ∷ h) k = (⊎_elim (λ e. inl e) (λ e. inr (inr (inl e))) k.0, sent-plainly h k.1)
sent-plainly (done (own o) put left ∷ h) k = (inl k.0, sent-plainly h k.1)

pub only-opening : OnlyOpening
only-opening cs = sent-plainly (history cs) (demand3.rightly cs)
