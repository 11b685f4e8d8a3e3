-- After any calls at all a view is what their history says. Assumes nothing.
use Prim.Native.Nat.{ℕ, ◌-◌, ◌≤◌}
use mathlib.Core.Path.{◌≡◌, refl, sym, ap, ap₂, ◌∙◌}
use mathlib.Core.Bool.{Bool, true, false, cond}
use mathlib.Core.List.{List, []}
use native.Mathlib.Omega.{arith}
use lib.Dec.{ltb, eqb}
use lib.ListN.{length, get_or}
use lib.Seq.{length-take-le}
use Rattle.refusals.specs.Rules.{under}
use Rattle.refusals.proofs.Rules.{pick, holds-true, fails-false, cond-true, cond-false}
use Rattle.ledger.specs.Events.{since}
use Rattle.ledger.specs.Line.{quiet_time}
use Rattle.ledger.specs.Waiting.{some, waited}
use Rattle.ledger.specs.Told.{naks, begun, turns, wait}
use Rattle.ledger.specs.Calls.{run}
use Rattle.ledger.proofs.Waiting.{some-long, begun-came, unbegun-first}
use Rattle.ledger.proofs.Follows.{OpenIn, At}
use Rattle.exchange_rules.specs.Limits.{first_wait, answer_wait, nak_wait, frame_wait}
use Rattle.exchange_rules.specs.Machine.{discipline}
use Rattle.exchange_rules.specs.Kept.{Stands}
use Rattle.exchange_rules.specs.declared.line.Phase.{Phase}
use Rattle.exchange_rules.specs.declared.line.Phase.TheVariants.{Idle, First, Start, Inside}
use Rattle.exchange_rules.proofs.Views.{stage, view as seen_as, rules}
use Rattle.exchange_rules.proofs.Demand3.{Kept, run-kept}
use Rattle.dispenser_rules.specs.Session.{fresh_session}
use Rattle.dispenser_rules.specs.Calls.{host, history}
use Rattle.dispenser_rules.specs.Unit.{model2000_t, unit, box}
use Rattle.dispenser_rules.specs.declared.session.Session.{Session}
use Rattle.dispenser_rules.proofs.Shown.{lawful}
use Rattle.dispenser_rules.proofs.Same.{session}
use Rattle.dispenser_rules.proofs.Demand3.{fresh_kept}
use Rattle.validator_rules.specs.Limits.{quiet as taker_quiet, start_wait, frame_wait as taker_frame}
use Rattle.validator_rules.specs.Session.{fresh_session as fresh_taker}
use Rattle.validator_rules.specs.Calls.{Past as TakerPast, host as taker, history as taker_history}
use Rattle.validator_rules.specs.History.{from_start, starts}
use Rattle.validator_rules.specs.declared.line.Phase.{Phase as TakerPhase}
use Rattle.validator_rules.specs.declared.line.Phase.TheVariants.{Idle as TakerIdle, Start as TakerStart, Inside as TakerInside}
use Rattle.validator_rules.specs.declared.line.Line.{Line as TakerLine}
use Rattle.validator_rules.proofs.Agreeing.{Placed, always-placed}
use Rattle.views.specs.View.{view, busy, start_limit, dispenser_in, dispenser_view, validator_in, validator_view}
use Rattle.views.specs.History.{up_to, Past, handed_of, span_of, standing, view_by, DispenserTold, taker_by, ValidatorTold}

-- what is not left of a wait has passed, up to its limit
pub passed_is : (limit left t : ℕ) → left ≡ limit - t → limit - left ≡ up_to limit t
unfolding up_to
passed_is limit left t e =
    pick (λ (n : ℕ). limit - left ≡ n) (under t limit) t limit (λ h. omega (arith, e)) (λ h. omega (arith, e))

-- ---- the dispenser

module _ (s : Session) (h : Past) (k : Kept lawful session s h) where
  -- the wait that goes on, by what has come
  wait-in : (begun-some came : Bool) → some (begun h) ≡ begun-some → some (since h) ≡ came
      → wait model2000_t (discipline unit) h ≡ cond begun-some frame_wait (cond came (cond (eqb (naks h) 0) answer_wait nak_wait) first_wait)
  unfolding wait
  wait-in b c e f = rw (e, f) refl

  -- a command is open: what its line says, and what the history says of it
  open_told : (p : Phase) (b c : Bool) (limit gathered : ℕ) → OpenIn (rules unit) (seen_as unit (box s)) h
      → some (begun h) ≡ b → some (since h) ≡ c → p ≡ standing b c → limit ≡ wait model2000_t (discipline unit) h → gathered ≡ length (begun h)
      → s.line.left ≡ limit - waited turns h
      → busy s.line p limit gathered s.asked.span ≡ view_by h
  unfolding view_by
  open_told p b c limit gathered x e f g m n w =
      rw x.still
      (λ i.
      view ((g ∙ sym (ap₂ standing e f)) i) ((passed_is limit s.line.left (waited turns h) w ∙ ap (λ (z : ℕ). up_to z (waited turns h)) m) i) (m i)
      (sym (ap handed_of x.split) i) (sym x.naks i) (n i) ((k.own ∙ sym (ap span_of x.split)) i))

  by-phase : (p : Phase) → At (rules unit) (stage p) (seen_as unit (box s)) h → Stands unit p s.line (box s).asks → dispenser_in p s ≡ view_by h
  unfolding start_limit view_by
  by-phase Idle x st =
      rw x.shut
      (λ i. view Idle ((passed_is s.line.quiet s.line.left (quiet_time h) x.wait ∙ ap (λ (z : ℕ). up_to z (quiet_time h)) x.needed) i) (x.needed i) 0 0 0 0)
  by-phase First x st =
      let e = ap some (unbegun-first h x.fresh) in
      let f = ap some x.fresh in
      open_told First false false first_wait 0 x.is e f refl (sym (wait-in false false e f)) (sym (ap length (unbegun-first h x.fresh))) x.wait
  by-phase Start x st =
      let e = ap some x.unbegun in
      open_told Start false true (start_limit s.line.naks) 0 x.is e x.came refl
      (sym (wait-in false true e x.came ∙ ap (λ (n : ℕ). cond (eqb n 0) answer_wait nak_wait) x.is.naks)) (sym (ap length x.unbegun)) x.wait
  by-phase Inside x st =
      let e = ap some x.gathers ∙ x.some-gathered in
      let f = begun-came h e in
      let m = lawful.most (box s).asks st.0.sent in
      let n = ap length x.gathers ∙ length-take-le s.line.gathered s.store (omega (arith, st.2, m, k.sound.store)) in
      open_told Inside true true frame_wait s.line.gathered x.is e f refl (sym (wait-in true true e f)) (sym n) x.wait

pub dispenser-told : DispenserTold
unfolding dispenser_view
dispenser-told cs =
    let s = run host fresh_session cs in
    let k = run-kept lawful session fresh_session [] cs fresh_kept in
    by-phase s (history cs) k s.line.phase k.tracks.place k.sound.stands

-- ---- the validator

-- the length that an answer's third byte tells, once it has come
length-told : (f : List ℕ) (n m : ℕ) → length f ≡ n → (3 ≤ n → get_or f 2 0 ≡ m) → cond (ltb n 3) 0 m ≡ cond (ltb (length f) 3) 0 (get_or f 2 0)
length-told f n m e g =
    rw e
    (pick (λ (x : ℕ). x ≡ cond (ltb n 3) 0 (get_or f 2 0)) (under n 3) 0 m (λ h. sym (cond-true _ _ (holds-true (under n 3) h)))
    (λ h. sym (cond-false _ _ (fails-false (under n 3) h) ∙ g (omega (arith, h)))))

module _ (l : TakerLine) (h : TakerPast) where
  taker-by : (p : TakerPhase) → Placed p l h → validator_in p l ≡ taker_by h
  unfolding taker_by
  taker-by TakerIdle (shut, time) = rw shut (ap (λ (w : ℕ). view Idle w taker_quiet 0 0 0 0) (passed_is taker_quiet l.left (quiet_time h) time))
  taker-by TakerStart (live, none, time) =
      rw live (rw none (ap (λ (w : ℕ). view Start w start_wait 1 0 0 0) (passed_is start_wait l.left (waited starts h) time)))
  taker-by TakerInside (live, size, least, sized, time) =
      let f = from_start (since h) in
      let w = passed_is taker_frame l.left (waited starts h) time in
      let e : some f ≡ true = some-long f (omega (arith, size, least)) in
      let n = length-told f l.gathered l.length size sized in
      rw live (rw e (λ i. view Inside (w i) taker_frame 1 0 (sym size i) (n i)))

pub validator-told : ValidatorTold
unfolding validator_view
validator-told cs =
    let s = run taker fresh_taker cs in
    taker-by s.line (taker_history cs) s.line.phase (always-placed cs)
