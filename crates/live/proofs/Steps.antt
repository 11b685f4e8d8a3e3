-- A record given to both sessions, untouched where it is not for one of them, is a record given as replay gives it. Assumes nothing.
use Prim.Native.Nat.{ℕ, ◌+◌}
use mathlib.Core.Path.{◌≡◌, refl, ap, ap₂, ◌∙◌}
use mathlib.Core.Bool.{Bool, true, false, cond, ◌||◌}
use mathlib.Core.List.{List, [], ◌∷◌}
use lib.ListN.{length}
use denote.Enum.Declared.{tag_of}
use package.types.Run.{OneOf, hit, miss}
use Rattle.refusals.specs.declared.Declined.TheVariants.{Open}
use Rattle.recording.specs.contracts.Record.{the_type as the-record}
use Rattle.exchange_rules.specs.Exchange.{doubted}
use Rattle.exchange_rules.specs.Limits.{least_room}
use Rattle.exchange_rules.specs.declared.line.Line.{Line}
use Rattle.dispenser_rules.specs.Errors.{erred_by}
use Rattle.dispenser_rules.specs.Session.{stepped, refused_step, opens, clear_refusals, clear_step, After, after, session_request, session_byte, session_clear}
use Rattle.dispenser_rules.specs.declared.errors.LastErrors.{LastErrors}
use Rattle.dispenser_rules.specs.declared.session.Closing.TheVariants.{Nothing}
use Rattle.dispenser_rules.specs.Outcome.{Outcome}
use Rattle.dispenser_rules.specs.declared.session.Session.{Session}
use Rattle.validator_rules.specs.Limits.{least_room as taker_room}
use Rattle.validator_rules.specs.Session.{After as TakerAfter, after as taker_after}
use Rattle.validator_rules.specs.declared.session.Closing.TheVariants.{Nothing as TakerNothing}
use Rattle.validator_rules.specs.Reply.{Done as TakerDone}
use Rattle.validator_rules.specs.declared.session.Session.{Session as Taker}
use Rattle.validator_rules.specs.Outcome.{Outcome as TakerOutcome}
use Rattle.recording.specs.declared.Record.{Record}
use Rattle.recording.specs.declared.Record.TheVariants.{Request, DispenserByte, Tick, ValidatorByte, Command, Clear}
use Rattle.grading_rules.specs.Replay.{lent_room, lent_room255, payer_declines, taker_declines, counting, by_both, given}
use Rattle.grading_rules.specs.declared.desk.Desk.{Desk}
use Rattle.live_rules.specs.Live.{untouched, taker_untouched, to_payer, to_taker, lived, lived_by}
use Rattle.live.proofs.Rooms.{outcome, session-request, session-byte, session-tick, taker-request, taker-byte, taker-tick}

or-false : (t : Bool) → (t || false) ≡ t
or-false true = refl
or-false false = refl

-- clear leaves the last errors
clear-either : (e : LastErrors) (l : Line) (t : Bool) → erred_by e (cond t (refused_step l Open) (stepped (doubted l 0) 0 Nothing)).reply ≡ e
clear-either e l true = refl
clear-either e l false = refl

clear-errors : (e : LastErrors) (s : Session) → erred_by e (session_clear s).reply ≡ e
unfolding session_clear clear_step clear_refusals
clear-errors e s = clear-either e s.line (opens s.line.phase).test

module _ (d : Desk) where
  abbrev both : Outcome → TakerOutcome → Desk
  both o p = counting (payer_declines o.reply || taker_declines p.reply) d o.session p.session (erred_by d.errors o.reply)

  -- the dispenser's alone
  abbrev payer : Outcome → Desk
  payer o = counting (payer_declines o.reply) d o.session d.validator (erred_by d.errors o.reply)

  alone : (o : Outcome) → both o (record { session = d.validator; reply = TakerDone 0 TakerNothing }) ≡ payer o
  alone o = ap (λ (t : Bool). counting t d o.session d.validator (erred_by d.errors o.reply)) (or-false (payer_declines o.reply))

  module _ (r q : List ℕ) (e : length r ≡ least_room) (f : length q ≡ taker_room) where
    pub settles : (x : Record) → by_both d (to_payer d.dispenser x r) (to_taker d.validator x q) ≡ given d x
    settles (Request code upper lower) =
        alone (outcome (session_request d.dispenser code upper lower r)) ∙ ap payer (session-request r lent_room e d.dispenser code upper lower)
    settles (DispenserByte b) = alone (outcome (session_byte d.dispenser b r)) ∙ ap payer (session-byte r lent_room e d.dispenser b)
    settles (Tick ms) = ap₂ both (session-tick r lent_room e d.dispenser ms) (taker-tick q lent_room255 f d.validator ms)
    settles (ValidatorByte b) =
        ap (λ (p : TakerOutcome). counting (taker_declines p.reply) d d.dispenser p.session d.errors) (taker-byte q lent_room255 f d.validator b)
    settles (Command code) =
        ap (λ (p : TakerOutcome). counting (taker_declines p.reply) d d.dispenser p.session d.errors) (taker-request q lent_room255 f d.validator code [])
    settles Clear =
        ap₂ (λ (t : Bool) (w : LastErrors). counting t d (session_clear d.dispenser).session d.validator w) (or-false (payer_declines (session_clear d.dispenser).reply)) (clear-errors d.errors d.dispenser)

    -- what the step's parts leave is what the step leaves
    pub lives : (x : Record) (o : Outcome) (p : TakerOutcome) (r' q' : List ℕ) (errors : LastErrors) (declined : ℕ) → after o r' ≡ to_payer d.dispenser x r
        → taker_after p q' ≡ to_taker d.validator x q → errors ≡ erred_by d.errors o.reply
        → declined ≡ cond (payer_declines o.reply || taker_declines p.reply) (d.declined + 1) d.declined
        → lived (record { desk = record { dispenser = o.session; validator = p.session; errors = errors; declined = declined; records = d.records + 1 }; dispenser = o.reply; validator = p.reply }) r' q'
        ≡ lived_by d x r q
    unfolding lived_by
    lives x o p r' q' errors declined a b c n =
        ap₂ (λ (z : LastErrors) (m : ℕ). record { desk = record { dispenser = o.session; validator = p.session; errors = z; declined = m; records = d.records + 1 }; dispenser = o.reply; validator = p.reply; room = r'; room255 = q' }) c n
        ∙ ap₂ (λ (w : After) (v : TakerAfter). record { desk = by_both d w v; dispenser = w.reply; validator = v.reply; room = w.room; room255 = v.room }) a b
        ∙ ap (λ (y : Desk). record { desk = y; dispenser = (to_payer d.dispenser x r).reply; validator = (to_taker d.validator x q).reply; room = (to_payer d.dispenser x r).room; room255 = (to_taker d.validator x q).room }) (settles x)

-- ---- a session that the record is not for

pub not-paying : (x : Record) → ((code upper lower : ℕ) → x ≡ Request code upper lower → ⊥) → ((b : ℕ) → x ≡ DispenserByte b → ⊥) → ((ms : ℕ) → x ≡ Tick ms → ⊥) → (x ≡ Clear → ⊥)
    → OneOf (3 ∷ 4 ∷ []) (tag_of the-record x)
not-paying (Request code upper lower) q d k c = absurd (q code upper lower refl)
not-paying (DispenserByte b) q d k c = absurd (d b refl)
not-paying (Tick ms) q d k c = absurd (k ms refl)
not-paying (ValidatorByte b) q d k c = hit (3 ∷ 4 ∷ []) 3 tt
not-paying (Command code) q d k c = hit (3 ∷ 4 ∷ []) 4 tt
not-paying Clear q d k c = absurd (c refl)

pub not-taking : (x : Record) → ((b : ℕ) → x ≡ ValidatorByte b → ⊥) → ((ms : ℕ) → x ≡ Tick ms → ⊥) → ((code : ℕ) → x ≡ Command code → ⊥) → OneOf (0 ∷ 1 ∷ 5 ∷ []) (tag_of the-record x)
not-taking (Request code upper lower) v k c = hit (0 ∷ 1 ∷ 5 ∷ []) 0 tt
not-taking (DispenserByte b) v k c = hit (0 ∷ 1 ∷ 5 ∷ []) 1 tt
not-taking (Tick ms) v k c = absurd (k ms refl)
not-taking (ValidatorByte b) v k c = absurd (v b refl)
not-taking (Command code) v k c = absurd (c code refl)
not-taking Clear v k c = hit (0 ∷ 1 ∷ 5 ∷ []) 5 tt

pub payer-untouched : (x : Record) → OneOf (3 ∷ 4 ∷ []) (tag_of the-record x) → (s : Session) (r : List ℕ) → untouched s r ≡ to_payer s x r
payer-untouched (Request code upper lower) h s r = absurd (miss (3 ∷ 4 ∷ []) 0 tt h)
payer-untouched (DispenserByte b) h s r = absurd (miss (3 ∷ 4 ∷ []) 1 tt h)
payer-untouched (Tick ms) h s r = absurd (miss (3 ∷ 4 ∷ []) 2 tt h)
payer-untouched (ValidatorByte b) h s r = refl
payer-untouched (Command code) h s r = refl
payer-untouched Clear h s r = absurd (miss (3 ∷ 4 ∷ []) 5 tt h)

pub taker-untouched : (x : Record) → OneOf (0 ∷ 1 ∷ 5 ∷ []) (tag_of the-record x) → (s : Taker) (r : List ℕ) → taker_untouched s r ≡ to_taker s x r
taker-untouched (Request code upper lower) h s r = refl
taker-untouched (DispenserByte b) h s r = refl
taker-untouched (Tick ms) h s r = absurd (miss (0 ∷ 1 ∷ 5 ∷ []) 2 tt h)
taker-untouched (ValidatorByte b) h s r = absurd (miss (0 ∷ 1 ∷ 5 ∷ []) 3 tt h)
taker-untouched (Command code) h s r = absurd (miss (0 ∷ 1 ∷ 5 ∷ []) 4 tt h)
taker-untouched Clear h s r = refl
