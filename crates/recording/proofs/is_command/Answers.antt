-- `recording::is_command` meets its contract. Assumes nothing.
use Rattle.refusals.specs.Rules.{among}
use Rattle.recording.specs.Record.{in_list}
use Rattle.recording.proofs.Lists.{last-listed}
use Rattle.recording.proofs.is_command.Goals as goal

pub returns-then-code-eq48 : goal.returns-then-code-eq48
unfolding in_list among
returns-then-code-eq48 c = rw c.if-code-eq48.true

pub returns-then-code-eq51 : goal.returns-then-code-eq51
unfolding in_list among
returns-then-code-eq51 c = rw c.if-code-eq51.true

pub returns-then-code-eq53 : goal.returns-then-code-eq53
unfolding in_list among
returns-then-code-eq53 c = rw c.if-code-eq53.true

pub returns-then-code-eq54 : goal.returns-then-code-eq54
unfolding in_list among
returns-then-code-eq54 c = rw c.if-code-eq54.true

pub returns-then-code-eq56 : goal.returns-then-code-eq56
unfolding in_list among
returns-then-code-eq56 c = rw c.if-code-eq56.true

pub returns : goal.returns
returns c =
    last-listed c.args.code c.if-code-eq48.false c.if-code-eq51.false c.if-code-eq53.false
    c.if-code-eq54.false c.if-code-eq56.false
