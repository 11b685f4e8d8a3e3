-- `recording::taking::record_in` meets its contract. Assumes nothing.
use mathlib.Core.Path.{subst}
use Rattle.recording.specs.Taking.{found_at}
use Rattle.recording.specs.Scaffolding.{IsSure}
use Rattle.recording.specs.Glance.{Glance}
use Rattle.recording.proofs.Glances.{glance-fits, glance-found}
use Rattle.recording.proofs.taking.record_in.Goals as goal

pub at_a_glance-requires : goal.at_a_glance-requires
at_a_glance-requires c = glance-fits c.args.cut c.args.piece.now _ _ c.if-at-glances.true c.requires

pub returns-in-Some : goal.returns-in-Some
returns-in-Some c =
    glance-found c.args.cut c.args.begun c.args.piece.now _ c.args.at c.if-at-glances.true c.requires
    (subst (λ (g : Glance). IsSure g (found_at c.args.piece.now c.args.at)) c.in-Some.is c.at_a_glance.ensures)

pub returns : goal.returns
returns c = simp (← c.reader_at.ensures) c.rest_at.ensures
