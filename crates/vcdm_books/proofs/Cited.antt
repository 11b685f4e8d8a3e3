-- The booking of which `called` is made is that of the contracts: each clause is, as it stands, the equation with the rule. Assumes nothing.
use mathlib.Core.Path.{◌≡◌, refl}
use Rattle.refusals.proofs.Tied.{Is}
use Rattle.vcdm_rules.specs.Session.{booked_by, request_booked}
use Rattle.vcdm_books.proofs.account.booked.Kinds as booked-kinds
use Rattle.vcdm_books.proofs.account.booked.Reads as booked-reads
use Rattle.vcdm_books.proofs.account.booked_request.Kinds as booked-request-kinds
use Rattle.vcdm_books.proofs.account.booked_request.Reads as booked-request-reads

booked-cited : Is booked-kinds.ps booked-kinds.r booked-reads.Post (λ κs a x e. x ≡ booked_by a.0 a.1.0 a.1.1.0)
booked-cited κs a x e = refl

booked-request-cited : Is booked-request-kinds.ps booked-request-kinds.r booked-request-reads.Post
    (λ κs a x e. x ≡ request_booked a.0 a.1.0 a.1.1.0)
booked-request-cited κs a x e = refl
