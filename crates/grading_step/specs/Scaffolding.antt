-- Scaffolding, which nobody has to believe: contracts of inner functions cite it, some of them public only because the crates were cut, and no promise does.
-- The parts of the two sessions, which the replay keeps apart; the payer is the dispenser session, the taker the validator session.
use Rattle.std.specs.Prelude.{ℕ, ◌≤◌, List, Ok}
use Rattle.dispenser_rules.specs.Session.{booked_by, request_booked, place_after, written_by}
use Rattle.dispenser_rules.specs.Requests.{unwritten, slots_after}
use Rattle.dispenser_rules.specs.declared.requests.KeptRequest.{KeptRequest}
use Rattle.dispenser_rules.specs.declared.requests.Place.{Place as Spot}
use Rattle.dispenser_rules.specs.declared.requests.Written.{Written}
use Rattle.dispenser_rules.specs.Errors.{erred_by}
use Rattle.exchange_rules.specs.declared.line.Line.{Line}
use Rattle.dispenser_rules.specs.declared.session.Asked.{Asked}
use Rattle.dispenser_rules.specs.declared.session.Closing.{Closing}
use Rattle.dispenser_rules.specs.declared.session.Closing.TheVariants.{Nothing as Unclosed, Answered, Refused, Unknown}
use Rattle.dispenser_rules.specs.Reply.{Reply}
use Rattle.dispenser_rules.specs.Reply.{NotDone, Done}
use Rattle.validator_rules.specs.declared.bills.Bills.{Bills}
use Rattle.validator_rules.specs.declared.line.Line.{Line as TakerLine}
use Rattle.grading_rules.specs.declared.desk.Desk.{Desk}
use Rattle.grading_step.specs.declared.Run.{Run}
use Rattle.grading_step.specs.declared.Books.{Books}
use Rattle.grading_step.specs.declared.Entry.{Entry}
use Rattle.grading_step.specs.declared.Entry.TheVariants.{Nothing, Asked as Opened, Heard as Closed}

-- what changes with each record
abbrev pub run_of : Line → Asked → TakerLine → ℕ → ℕ → Run
run_of payer asked taker declined all = record { payer = payer; asked = asked; taker = taker; declined = declined; records = all }

-- what a record books
abbrev pub booked : Books → Asked → Entry → Books
booked b c Nothing = b
booked b c (Opened reply) = record { cassettes = request_booked b.cassettes c reply; place = place_after b.place c reply; errors = erred_by b.errors reply }
booked b c (Closed reply) = record { cassettes = booked_by b.cassettes c reply; place = b.place; errors = erred_by b.errors reply }

-- what it writes down of a request that was handed over n times; p is the place afterwards
abbrev pub written_of : Spot → Asked → ℕ → Entry → Written
written_of p c n Nothing = unwritten
written_of p c n (Opened reply) = written_by p c n reply
written_of p c n (Closed reply) = written_by p c n reply

-- an answer that closes nothing puts no frame, that is one byte at most
abbrev pub ShortBy : ℕ → Closing → Type 0
ShortBy n Unclosed = n ≤ 1
ShortBy n (Answered answer class) = Unit {0}
ShortBy n Refused = Unit {0}
ShortBy n Unknown = Unit {0}

abbrev pub Short : Reply → Type 0
Short (NotDone why) = Unit {0}
Short (Ok effect) = ShortBy effect.put effect.closing

-- the books, and the slots of the kept requests, which stand apart
pub record Shelf : Type 0 where
  pub books : Books
  pub slots : List KeptRequest

abbrev pub shelf : Books → List KeptRequest → Shelf
shelf b ks = record { books = b; slots = ks }

unfoldable pub entered : Shelf → Asked → ℕ → Entry → Shelf
entered a c n e = shelf (booked a.books c e) (slots_after a.slots (written_of (booked a.books c e).place c n e))

-- the parts, joined: what changes with each record, books and bills, the gathering stores, the bill table
abbrev pub joined : Run → Shelf → List Bills → List ℕ → List ℕ → List ℕ → Desk
joined r a bs store store255 table =
    record {
      dispenser = record { line = r.payer; asked = r.asked; account = record { cassettes = a.books.cassettes; requests = record { place = a.books.place; slots = a.slots } }; store = store };
      validator = record { line = r.taker; bills = bs; store = store255; table = table };
      errors = a.books.errors;
      declined = r.declined;
      records = r.records;
    }
