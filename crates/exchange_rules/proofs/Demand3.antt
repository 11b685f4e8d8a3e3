-- Demand 3, what every call answers and the numbers 3, 4 and 5, told from the history, of any session over any lawful unit: once over the cassettes. Assumes
-- nothing.
use Prim.Native.Nat.{ℕ}
use mathlib.Core.Path.{◌≡◌, refl, sym, ap, ◌∙◌, subst}
use mathlib.Core.Bool.{true}
use mathlib.Core.List.{List, [], ◌∷◌}
use native.Mathlib.Omega.{arith}
use lib.Dec.{lit≤}
use lib.ListN.{length, take}
use Rattle.refusals.specs.Rules.{Rule, says, under, at_most, both, ◌gives◌}
use Rattle.refusals.proofs.Rules.{Alike}
use Rattle.ledger.specs.Events.{Deed, Left, Event, done, History}
use Rattle.ledger.specs.Calls.{Returned, gave, did, told, Host, seen, run, history_from}
use Rattle.ledger.specs.Line.{is_open as is_open_in, quiet_time, quiet_needed, accepted}
use Rattle.ledger.specs.Account.{Ending, commands, totals}
use Rattle.ledger.specs.Stopped.{since_clear, unknowns, succession}
use Rattle.ledger.specs.Sent.{Demand3}
use Rattle.ledger.specs.Told.{by_answer, ending, Due, due_by, Answers, Told, AnsweredBy, Carried}
use Rattle.refusals.specs.declared.Declined.{Declined}
use Rattle.refusals.specs.declared.Declined.TheVariants.{Open, Unquiet, Spent, Stopped}
use Rattle.ledger.proofs.Laws.{balanced}
use Rattle.ledger.proofs.Follows.{OpenIn, At, least, follows-few}
use Rattle.exchange_rules.specs.Limits.{quiet, hand_overs, command_limit, doubt_limit}
use Rattle.exchange_rules.specs.Exchange.{is_open, fresh_line}
use Rattle.exchange_rules.specs.Sums.{fresh_sums}
use Rattle.exchange_rules.specs.Machine.{Model, Box, discipline, plain, quiet_after, request_refusals, history_refusals, Call, request, byte, tick, clear, clear_refusals, called, host}
use Rattle.exchange_rules.specs.Kept.{Bounded, Within, Sound}
use Rattle.exchange_rules.specs.Owed.{Lawful, saying, Session}
use Rattle.exchange_rules.specs.declared.line.Line.{Line}
use Rattle.exchange_rules.specs.declared.line.Phase.{Phase}
use Rattle.exchange_rules.specs.declared.line.Phase.TheVariants.{Idle, First, Start, Inside}
use Rattle.exchange_rules.proofs.Views.{stage, view, rules, Tracks}
use Rattle.exchange_rules.proofs.Stopped.{stopped-same}
use Rattle.exchange_rules.proofs.Told.{called-told}
use Rattle.exchange_rules.proofs.Keeping.{request-sound, heard-sound, passed-sound, clear-sound}
use Rattle.exchange_rules.proofs.Fields.{called-carries}
use Rattle.exchange_rules.proofs.Tracks.{request-tracks, byte-tracks, tick-tracks, clear-tracks, open-pending}

-- ---- a fresh session

pub fresh-sums : (g n c : ℕ) → Bounded g n c fresh_sums
fresh-sums g n c =
    record {
      asked_most = omega arith;
      paid_most = omega arith;
      short_most = omega arith;
      over_most = omega arith;
      refused_most = omega arith;
      unknown_most = omega arith;
      pending_most = omega arith;
      rejected_most = omega arith;
    }

module _ {R X A C : Type 0} (U : Model R X A C) where
  -- a session is fresh: the line is, every sum is 0, and the store is as long as the longest answer
  module _ (q : R) (x : A) (store : List ℕ) (zero : (c : C) → U.cassette x c ≡ fresh_sums) (full : length store ≡ U.longest) where
    abbrev new : Box R A
    new = record { line = fresh_line; asks = q; account = x; store = store }

    pub new-sound : Sound U new
    new-sound = record { stands = tt; commands = lit≤ tt; books = λ c. subst (Within U.greatest 0 0) (sym (zero c)) (fresh-sums U.greatest _ _); store = full }

    pub new-tracks : {O : Type 0} → Tracks U {O = O} new []
    unfolding commands totals is_open_in quiet_time quiet_needed accepted since_clear unknowns least
    new-tracks =
        record {
          books = λ c. ap plain (zero c);
          place = record { over = λ c. refl; few = tt; shut = refl; needed = refl; wait = refl };
          many = refl;
          rightly = tt;
          stopped = refl;
        }

  -- ---- a call

  module _ {O : Type 0} (K : Lawful U) (s : Box R A) (h : History R O Ending) (k : Sound U s) (t : Tracks U s h) where
    called-sound : (c : Call R O) → Sound U (called U s c).session
    called-sound (request q r) = request-sound U K s k q r
    called-sound (byte b r) = heard-sound U K s k b r (λ c o. open-pending U K s h k t c o)
    called-sound (tick ms r) = passed-sound U K s k ms r
    called-sound (clear o) = clear-sound U K s k

    called-tracks : (c : Call R O) → Tracks U (called U s c).session (seen (host U) s c ∷ h)
    called-tracks (request q r) = request-tracks U K s h k t q r
    called-tracks (byte b r) = byte-tracks U K s h k t b r
    called-tracks (tick ms r) = tick-tracks U K s h k t ms r
    called-tracks (clear o) = clear-tracks U K s h k t o

  -- the numbers 5 and 7, by the line and by the history
  abbrev by-line : Line → R → List (Rule Declined)
  by-line l q = at_most command_limit l.accepted gives Spent ∷ both (at_most doubt_limit l.doubts) (says (U.pays q)) gives Stopped ∷ []

  abbrev by-history : {O : Type 0} → History R O Ending → R → List (Rule Declined)
  by-history h q = at_most command_limit (accepted h) gives Spent ∷ both (at_most doubt_limit (succession U.bytes U.pays h)) (says (U.pays q)) gives Stopped ∷ []

  -- on a line that follows its history, both say the same of a request
  pub alike_at : {O : Type 0} (s : Box R A) (h : History R O Ending) (q : R) (r : List ℕ) → Tracks U s h
      → Alike (request_refusals U s.line q r) (history_refusals U h (request q r))
  unfolding request_refusals history_refusals
  alike_at s h q r t =
      (refl, (((λ w. w), λ w. w), λ n. (refl, (((λ w. w), λ w. w), λ m. by s.line.phase t.place))))
    where
      rest : Alike (by-line s.line q) (by-history h q)
      rest =
          let z = stopped-same s.line.doubts (succession U.bytes U.pays h) t.stopped in
          (refl, (((λ w. omega (arith, t.many)), λ w. omega (arith, t.many)), λ n. (refl, (((λ w. (z.0 w.0, w.1)), λ w. (z.1 w.0, w.1)), λ m. tt))))

      busy : OpenIn (rules U) (view U s) h
          → Alike (says true gives Open ∷ under 0 s.line.left gives Unquiet ∷ by-line s.line q)
          (says (is_open_in h) gives Open ∷ under (quiet_time h) (quiet_needed (quiet_after U) quiet h) gives Unquiet ∷ by-history h q)
      busy x = (refl, (((λ w. x.still), λ w. refl), λ n. absurd (n refl)))

      by : (p : Phase) → At (rules U) (stage p) (view U s) h
          → Alike (says (is_open p) gives Open ∷ under 0 s.line.left gives Unquiet ∷ by-line s.line q)
          (says (is_open_in h) gives Open ∷ under (quiet_time h) (quiet_needed (quiet_after U) quiet h) gives Unquiet ∷ by-history h q)
      by Idle x = (
        refl,
        (
          ((λ w. x.shut ∙ w), λ w. sym x.shut ∙ w),
          λ n. (refl, (((λ w. omega (arith, x.wait, x.needed)), λ w. omega (arith, x.wait, x.needed)), λ m. rest)),
        ),
      )
      by First x = busy x.is
      by Start x = busy x.is
      by Inside x = busy x.is

  -- and of a clear
  pub clear-alike : {O : Type 0} (s : Box R A) (h : History R O Ending) (o : O) → Tracks U s h → Alike (clear_refusals U s.line) (history_refusals U h (clear o))
  unfolding clear_refusals history_refusals
  clear-alike s h o t = by s.line.phase t.place
    where
      busy : OpenIn (rules U) (view U s) h → Alike (says true gives Open ∷ []) (says (is_open_in h) gives Open ∷ [])
      busy x = (refl, (((λ w. x.still), λ w. refl), λ n. absurd (n refl)))

      by : (p : Phase) → At (rules U) (stage p) (view U s) h → Alike (says (is_open p) gives Open ∷ []) (says (is_open_in h) gives Open ∷ [])
      by Idle x = (refl, (((λ w. x.shut ∙ w), λ w. sym x.shut ∙ w), λ n. tt))
      by First x = busy x.is
      by Start x = busy x.is
      by Inside x = busy x.is

-- ---- any calls at all

module _ {R X A C S T P O Q : Type 0} {U : Model R X A C} {H : Host S T P R O Q Ending} (K : Lawful U) (M : Session U H) where
  -- what every session keeps
  pub record Kept (s : S) (h : History R O Ending) : Type 0 where
    pub own : M.keeps s
    pub sound : Sound U (M.box s)
    pub tracks : Tracks U (M.box s) h

  -- what its caller is told is what that of the shared session is
  told_same : (d : Deed R O) (p : Returned Q) (r : List ℕ) → told H.ending d p r ≡ told ending d (saying M.says p) r
  told_same d (gave why) r = refl
  told_same d (did n c) r = ap (λ (e : Left Ending). done d (take n r) e) (M.endings c)

  seen_same : (s : S) (t : T) → M.keeps s → Sound U (M.box s) → seen H s t ≡ seen (host U) (M.box s) (M.means s t)
  seen_same s t e k =
      told_same (H.deed s t) (H.returned (H.called s t).reply) (H.called s t).room
      ∙ (λ i. told ending (M.deeds s t i) (M.answers s t e k i) (M.room s t e k i))

  pub next-kept : (s : S) (h : History R O Ending) (t : T) → Kept s h → Kept (H.called s t).session (seen H s t ∷ h)
  next-kept s h t k =
      record {
        own = M.kept s t k.own;
        sound = subst (Sound U) (sym (M.same s t k.own k.sound)) (called-sound U K (M.box s) h k.sound k.tracks (M.means s t));
        tracks = subst (λ (e : Event R O Ending). Tracks U (M.box (H.called s t).session) (e ∷ h)) (sym (seen_same s t k.own k.sound))
            (subst (λ (b : Box R A). Tracks U b (seen (host U) (M.box s) (M.means s t) ∷ h)) (sym (M.same s t k.own k.sound))
            (called-tracks U K (M.box s) h k.sound k.tracks (M.means s t)));
      }

  pub run-kept : (s : S) (h : History R O Ending) (ts : List T) → Kept s h → Kept (run H s ts) (history_from H s h ts)
  unfolding run history_from
  run-kept s h [] k = k
  run-kept s h (t ∷ ts) k = run-kept (H.called s t).session (seen H s t ∷ h) ts (next-kept s h t k)

  -- the theorem
  pub demand3 : (s : S) → Kept s []
      → Demand3 U.bytes U.layout hand_overs (λ (ts : List T) (c : C). plain (U.cassette (M.box (run H s ts)).account c)) (history_from H s [])
  demand3 s k =
      record {
        account = λ ts c. (run-kept s [] ts k).tracks.books c;
        balance = λ ts c. balanced U.bytes (commands U.bytes (history_from H s [] ts)) c;
        few = λ ts. follows-few (rules U) (view U (M.box (run H s ts))) (history_from H s [] ts) (run-kept s [] ts k).tracks;
        rightly = λ ts. (run-kept s [] ts k).tracks.rightly;
      }

  -- and every call answers what is due
  answers-same : (w : Due X) (l : List ℕ) (p : Returned Q) (r : List ℕ) → Answers (λ c. c) w l (saying M.says p) r → Answers M.says w l p r
  answers-same w l (gave why) r a = a
  answers-same w l (did n c) r a = a

  pub call-told : (s : S) (h : History R O Ending) (t : T) → Kept s h
      → Answers M.says (due_by U.bytes (discipline U) h (H.deed s t)) (M.lends t) (H.returned (H.called s t).reply) (H.called s t).room
  call-told s h t x =
      answers-same (due_by U.bytes (discipline U) h (H.deed s t)) (M.lends t) (H.returned (H.called s t).reply) (H.called s t).room
      (rw (M.deeds s t, M.rooms s t, M.answers s t x.own x.sound, M.room s t x.own x.sound)
      (called-told U K (M.box s) h x.sound x.tracks (M.means s t)))

  pub told-by-history : (s : S) → Kept s [] → Told H M.says M.lends U.bytes (discipline U) s
  told-by-history s k ts t = call-told (run H s ts) (history_from H s [] ts) t (run-kept s [] ts k)

  -- with what the bytes say from which the sums are read
  pub call-carries : (s : S) (h : History R O Ending) (t : T) (n : ℕ) (c : Q) (x : X) → Kept s h → H.returned (H.called s t).reply ≡ did n c
      → M.says c ≡ by_answer x → AnsweredBy U.bytes (discipline U) (seen H s t ∷ h) x
  call-carries s h t n c x y e g =
      subst (λ (e : Event R O Ending). AnsweredBy U.bytes (discipline U) (e ∷ h) x) (sym (seen_same s t y.own y.sound))
      (called-carries U K (M.box s) h y.sound y.tracks (M.means s t) n x
      (sym (M.answers s t y.own y.sound) ∙ ap (saying M.says) e ∙ ap (did n) g))

  pub carried-by-bytes : (s : S) → Kept s [] → Carried H M.says U.bytes (discipline U) s
  carried-by-bytes s k ts t n c x e g = call-carries (run H s ts) (history_from H s [] ts) t n c x (run-kept s [] ts k) e g
