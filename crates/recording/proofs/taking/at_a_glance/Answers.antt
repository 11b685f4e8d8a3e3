-- `recording::taking::at_a_glance` meets its contract. Assumes nothing.
use Prim.Native.Nat.{◌+◌, ◌≤◌}
use lib.ListN.{length}
use Rattle.recording.proofs.Glances.{found-two, found-three, found-four}
use borrow.Author.Rules.{rules}
use Rattle.recording.proofs.taking.at_a_glance.Goals as goal

pub returns-then-kind-eq0 : goal.returns-then-kind-eq0
returns-then-kind-eq0 c =
    let here = c.args in
    let room : here.at + 4 ≤ length here.recording.now = search rules in
    found-four here.recording.now here.at room (search rules) (search rules) (search rules) (search rules) c.short_request.ensures

pub returns-then-first-lt128 : goal.returns-then-first-lt128
returns-then-first-lt128 c =
    let here = c.args in
    let room : here.at + 4 ≤ length here.recording.now = search rules in
    found-two here.recording.now here.at room (search rules) (search rules) c.single.ensures

pub returns : goal.returns
returns c =
    let here = c.args in
    let room : here.at + 4 ≤ length here.recording.now = search rules in
    found-three here.recording.now here.at room (search rules) (search rules) (search rules) (search rules) c.single-2.ensures
