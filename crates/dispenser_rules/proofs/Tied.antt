-- The session that histories start from is the one of `Session::fresh`: its clause is, as it stands, the equation with it, and leaves no choice. No clause of the other
-- fresh values does. Assumes nothing.
use mathlib.Core.Path.{◌≡◌, refl}
use Rattle.refusals.proofs.Tied.{Is, Tied, tied}
use Rattle.dispenser_rules.specs.Session.{fresh_session}
use Rattle.dispenser_rules.proofs.session.Session.fresh.Kinds as fresh
use Rattle.dispenser_rules.proofs.session.Session.fresh.Reads as fresh-reads
use Rattle.dispenser_rules.proofs.account.Account.fresh.Kinds as account
use Rattle.dispenser_rules.proofs.account.Account.fresh.Reads as account-reads
use Rattle.dispenser_rules.proofs.requests.Requests.fresh.Kinds as requests
use Rattle.dispenser_rules.proofs.requests.Requests.fresh.Reads as requests-reads
use Rattle.dispenser_rules.proofs.errors.LastErrors.fresh.Kinds as errors
use Rattle.dispenser_rules.proofs.errors.LastErrors.fresh.Reads as errors-reads

fresh-cited : Is fresh.ps fresh.r fresh-reads.Post (λ κs a x e. x ≡ fresh_session)
fresh-cited κs a x e = refl

pub fresh-tied : Tied fresh.ps fresh.r fresh-reads.Post (λ κs x e. x)
fresh-tied =
    tied fresh.ps fresh.r fresh-reads.Post (λ κs x e. x) _
    (λ κs a x e p. p)

pub account-fresh-tied : Tied account.ps account.r account-reads.Post (λ κs x e. x)
account-fresh-tied = tied account.ps account.r account-reads.Post (λ κs x e. x) _ (λ κs a x e p. p)

pub requests-fresh-tied : Tied requests.ps requests.r requests-reads.Post (λ κs x e. x)
requests-fresh-tied = tied requests.ps requests.r requests-reads.Post (λ κs x e. x) _ (λ κs a x e p. p)

pub errors-fresh-tied : Tied errors.ps errors.r errors-reads.Post (λ κs x e. x)
errors-fresh-tied = tied errors.ps errors.r errors-reads.Post (λ κs x e. x) _ (λ κs a x e p. p)
