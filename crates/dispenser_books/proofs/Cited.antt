-- The booking of which `called` is made, the kept requests of `KeptByHistory`, and the last error as `ErrorsByHistory` folds it, are those of the contracts: each clause is, as it stands, the equation with the rule.
-- Assumes nothing.
use mathlib.Core.Path.{◌≡◌, refl}
use Rattle.refusals.proofs.Tied.{Is}
use Rattle.dispenser_rules.specs.Session.{pays, booked_by, request_booked, written_by, place_after, account_asked, account_heard}
use Rattle.dispenser_rules.specs.Requests.{unwritten, kept_at}
use Rattle.dispenser_rules.specs.Errors.{erred_by}
use Rattle.dispenser_books.proofs.account.booked.Kinds as booked-kinds
use Rattle.dispenser_books.proofs.account.booked.Reads as booked-reads
use Rattle.dispenser_books.proofs.account.booked_request.Kinds as booked-request-kinds
use Rattle.dispenser_books.proofs.account.booked_request.Reads as booked-request-reads
use Rattle.dispenser_books.proofs.errors.erred.Kinds as erred-kinds
use Rattle.dispenser_books.proofs.errors.erred.Reads as erred-reads
use Rattle.dispenser_books.proofs.requests.advance.Kinds as advance-kinds
use Rattle.dispenser_books.proofs.requests.advance.Reads as advance-reads
use Rattle.dispenser_books.proofs.requests.write_down.Kinds as write-down-kinds
use Rattle.dispenser_books.proofs.requests.write_down.Reads as write-down-reads
use Rattle.dispenser_books.proofs.requests.asked.Kinds as asked-kinds
use Rattle.dispenser_books.proofs.requests.asked.Reads as asked-reads
use Rattle.dispenser_books.proofs.requests.heard.Kinds as heard-kinds
use Rattle.dispenser_books.proofs.requests.heard.Reads as heard-reads
use Rattle.dispenser_books.proofs.requests.kept_at.Kinds as kept-at-kinds
use Rattle.dispenser_books.proofs.requests.kept_at.Reads as kept-at-reads
use Rattle.dispenser_books.proofs.requests.pays.Kinds as pays-kinds
use Rattle.dispenser_books.proofs.requests.pays.Reads as pays-reads
use Rattle.dispenser_books.proofs.requests.unwritten.Kinds as unwritten-kinds
use Rattle.dispenser_books.proofs.requests.unwritten.Reads as unwritten-reads

booked-cited : Is booked-kinds.ps booked-kinds.r booked-reads.Post (λ κs a x e. x ≡ booked_by a.0 a.1.0 a.1.1.0)
booked-cited κs a x e = refl

booked-request-cited : Is booked-request-kinds.ps booked-request-kinds.r booked-request-reads.Post
    (λ κs a x e. x ≡ request_booked a.0 a.1.0 a.1.1.0)
booked-request-cited κs a x e = refl

erred-cited : Is erred-kinds.ps erred-kinds.r erred-reads.Post (λ κs a x e. x ≡ erred_by a.0 a.1.0)
erred-cited κs a x e = refl

advance-cited : Is advance-kinds.ps advance-kinds.r advance-reads.Post (λ κs a x e. x ≡ place_after a.0 a.1.0 a.1.1.0)
advance-cited κs a x e = refl

write-down-cited : Is write-down-kinds.ps write-down-kinds.r write-down-reads.Post (λ κs a x e. x ≡ written_by a.0 a.1.0 a.1.1.0 a.1.1.1.0)
write-down-cited κs a x e = refl

asked-cited : Is asked-kinds.ps asked-kinds.r asked-reads.Post (λ κs a x e. x ≡ account_asked a.0 a.1.0 a.1.1.0 a.1.1.1.0)
asked-cited κs a x e = refl

heard-cited : Is heard-kinds.ps heard-kinds.r heard-reads.Post (λ κs a x e. x ≡ account_heard a.0 a.1.0 a.1.1.0 a.1.1.1.0)
heard-cited κs a x e = refl

kept-at-cited : Is kept-at-kinds.ps kept-at-kinds.r kept-at-reads.Post (λ κs a x e. x ≡ kept_at a.0 a.1.0)
kept-at-cited κs a x e = refl

pays-cited : Is pays-kinds.ps pays-kinds.r pays-reads.Post (λ κs a x e. x ≡ pays a.0)
pays-cited κs a x e = refl

unwritten-cited : Is unwritten-kinds.ps unwritten-kinds.r unwritten-reads.Post (λ κs a x e. x ≡ unwritten)
unwritten-cited κs a x e = refl
