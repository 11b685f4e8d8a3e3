-- The sessions' parts in a record. Assumes nothing.
use Prim.Native.Nat.{ℕ}
use mathlib.Core.Path.{◌≡◌, refl, ap, ap₂}
use Rattle.dispenser_rules.specs.Session.{After, StepAfter as Done, ByteAfter, account_heard}
use Rattle.dispenser_rules.specs.Requests.{slots_after}
use Rattle.dispenser_rules.specs.declared.session.Asked.{Asked}
use Rattle.dispenser_rules.specs.Reply.{Reply}
use Rattle.dispenser_rules.specs.declared.session.Session.{Session}
use Rattle.validator_rules.specs.Session.{LentAfter, HeardAfter, StepAfter, after_step, after_byte}
use Rattle.grading_rules.specs.Replay.{by_dispenser, by_validator, by_both}
use Rattle.grading_rules.specs.declared.desk.Desk.{Desk}
use Rattle.grading_step.specs.Scaffolding.{Shelf, shelf, booked, written_of, entered}
use Rattle.grading_step.specs.declared.Entry.TheVariants.{Heard}

-- a byte from the dispenser, whose step is w by its contract
abbrev heard : Session → ByteAfter → After
heard s w =
    record {
      session = record { line = w.step.line; asked = s.asked; account = account_heard s.account s.asked w.step.line.handed w.step.reply; store = w.store };
      reply = w.step.reply;
      room = w.step.room;
    }

pub by-heard : (d : Desk) {w v : ByteAfter} → w ≡ v → by_dispenser d (heard d.dispenser w) ≡ by_dispenser d (heard d.dispenser v)
by-heard d e = ap (λ (w : ByteAfter). by_dispenser d (heard d.dispenser w)) e

-- a byte from the validator
pub by_byte : (d : Desk) {w v : HeardAfter} → w ≡ v → by_validator d (after_byte d.validator w) ≡ by_validator d (after_byte d.validator v)
by_byte d e = ap (λ (x : HeardAfter). by_validator d (after_byte d.validator x)) e

-- a request
pub by-request : (d : Desk) {w v : StepAfter} → w ≡ v
    → by_validator d (record { session = record { line = w.step.line; bills = d.validator.bills; store = d.validator.store; table = d.validator.table }; reply = w.step.reply; room = w.room })
    ≡ by_validator d (record { session = record { line = v.step.line; bills = d.validator.bills; store = d.validator.store; table = d.validator.table }; reply = v.step.reply; room = v.room })
by-request d e =
    ap (λ (x : StepAfter). by_validator d (record { session = record { line = x.step.line; bills = d.validator.bills; store = d.validator.store; table = d.validator.table }; reply = x.step.reply; room = x.room })) e

-- a tick, for both
abbrev ticked : Session → Done → After
ticked s w =
    record {
      session = record { line = w.line; asked = s.asked; account = account_heard s.account s.asked w.line.handed w.reply; store = s.store };
      reply = w.reply;
      room = w.room;
    }

pub by-tick : (d : Desk) {x y : Done} {w v : LentAfter} → x ≡ y → w ≡ v
    → by_both d (ticked d.dispenser x) (after_step d.validator w d.validator.table) ≡ by_both d (ticked d.dispenser y) (after_step d.validator v d.validator.table)
by-tick d e f = ap₂ (λ (x : Done) (w : LentAfter). by_both d (ticked d.dispenser x) (after_step d.validator w d.validator.table)) e f

-- ---- what a byte or a tick books

pub entered-heard : (a : Shelf) (c : Asked) (n : ℕ) (p : Reply)
    → entered a c n (Heard p) ≡ shelf (booked a.books c (Heard p)) (slots_after a.slots (written_of a.books.place c n (Heard p)))
unfolding entered
entered-heard a c n p = refl
