-- The session that histories start from is the one of `Session::fresh`: its clause is, as it stands, the equation with it, and leaves no choice. Assumes nothing.
use mathlib.Core.Path.{◌≡◌, refl}
use Rattle.refusals.proofs.Tied.{Is, Tied, tied}
use Rattle.vcdm_rules.specs.Session.{fresh_session}
use Rattle.vcdm_rules.proofs.session.Session.fresh.Kinds as fresh
use Rattle.vcdm_rules.proofs.session.Session.fresh.Reads as fresh-reads

fresh-cited : Is fresh.ps fresh.r fresh-reads.Post (λ κs a x e. x ≡ fresh_session)
fresh-cited κs a x e = refl

pub fresh-tied : Tied fresh.ps fresh.r fresh-reads.Post (λ κs x e. x)
fresh-tied =
    tied fresh.ps fresh.r fresh-reads.Post (λ κs x e. x) _
    (λ κs a x e p. p)
