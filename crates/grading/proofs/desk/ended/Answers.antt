-- `grading::desk::ended` meets its contract. Assumes nothing.
use mathlib.Core.Path.{sym, ◌∙◌}
use native.Mathlib.Omega.{arith}
use Rattle.grading_rules.specs.Feeding.{ended_replay}
use Rattle.grading.proofs.Loops.{ended-start}
use Rattle.grading.proofs.desk.ended.Goals as goal

pub overflow_cast-at : goal.overflow_cast-at
overflow_cast-at c =
    record { fits = omega (arith, ended-start c.args.replay.reader (sym c.ended.ensures ∙ c.in-Err.is), c.requires.start_most) }

pub returns-in-Ok : goal.returns-in-Ok
unfolding ended_replay
returns-in-Ok c = rw (sym c.ended.ensures ∙ c.in-Ok.is)

pub returns-in-Err : goal.returns-in-Err
unfolding ended_replay
returns-in-Err c = rw (sym c.ended.ensures ∙ c.in-Err.is) c.bad.ensures
