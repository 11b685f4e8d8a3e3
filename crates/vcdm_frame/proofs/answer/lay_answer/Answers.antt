-- `vcdm_frame::answer::lay_answer` meets its contract, kind by kind of answer. Assumes nothing.
use Rattle.xor_frame.specs.Layout.{sizes}
use Rattle.vcdm_frame_rules.specs.Table.{table, line_in}
use Rattle.xor_frame.proofs.Check.{laid_by}
use native.Mathlib.Omega.{arith}
use Rattle.vcdm_frame.proofs.answer.lay_answer.Goals as goal

pub lay-requires : goal.lay-requires
unfolding sizes table line_in
lay-requires c = let h = simp c.in-Reset.is at c.requires in omega arith

pub lay_status-requires : goal.lay_status-requires
unfolding sizes table line_in
lay_status-requires c = let h = simp c.in-Status.is at c.requires in omega arith

pub lay_counted-requires : goal.lay_counted-requires
unfolding sizes table line_in
lay_counted-requires c = let h = simp c.in-Purged.is at c.requires in omega arith

pub lay_counted-requires-in-Dispensed : goal.lay_counted-requires-in-Dispensed
unfolding sizes table line_in
lay_counted-requires-in-Dispensed c = let h = simp c.in-Dispensed.is at c.requires in omega arith

pub lay_last-requires : goal.lay_last-requires
unfolding sizes table line_in
lay_last-requires c = let h = simp c.in-Last.is at c.requires in omega arith

pub returns-in-Reset : goal.returns-in-Reset
returns-in-Reset c = laid_by _ _ c.lay.ensures (rw c.in-Reset.is)

pub returns-in-Status : goal.returns-in-Status
returns-in-Status c = rw c.in-Status.is c.lay_status.ensures

pub returns-in-Purged : goal.returns-in-Purged
returns-in-Purged c = rw c.in-Purged.is c.lay_counted.ensures

pub returns-in-Dispensed : goal.returns-in-Dispensed
returns-in-Dispensed c = rw c.in-Dispensed.is c.lay_counted-in-Dispensed.ensures

pub returns-in-Last : goal.returns-in-Last
returns-in-Last c = rw c.in-Last.is c.lay_last.ensures
