-- `record_writer::lay` meets its contract, kind by kind: each number behind the one before. Assumes nothing.
use mathlib.Core.Path.{◌≡◌, refl, sym, ap, ◌∙◌}
use mathlib.Core.List.{List, ◌∷◌, ◌++◌, append_assoc}
use Prim.Native.Nat.{ℕ, ◌<◌}
use lib.ListN.{length, length-append}
use Rattle.refusals.proofs.Writing.{over_last}
use Rattle.numbers.specs.Seven.{groups}
use Rattle.recording.specs.Record.{record_bytes}
use Rattle.recording.specs.declared.Record.TheVariants.{DispenserByte, Tick, ValidatorByte, Command}
use Rattle.record_writer.proofs.Laying.{record-one, record-request, record-clear, length-one, length-request, bytes_of, laid-behind, laid-whole}
use native.Mathlib.Omega.{arith}
use borrow.Author.Rules.{rules}
use Rattle.record_writer.proofs.lay.Goals as goal

pub lay_one-first-requires : goal.lay_one-first-requires
lay_one-first-requires c = omega (arith, c.requires, ap bytes_of c.in-Request.is ∙ length-request _ _ _)

pub lay_number-second-requires : goal.lay_number-second-requires
lay_number-second-requires c =
    let size = ap bytes_of c.in-Request.is ∙ length-request _ _ _ in
    let first = c.lay_one-first.ensures in
    search rules

pub lay_number-requires : goal.lay_number-requires
lay_number-requires c =
    let size = ap bytes_of c.in-Request.is ∙ length-request _ _ _ in
    let first = c.lay_one-first.ensures in
    let second = c.lay_number-second.ensures in
    search rules

pub lay_one-requires : goal.lay_one-requires
lay_one-requires c = omega (arith, c.requires, ap bytes_of c.in-DispenserByte.is ∙ length-one (DispenserByte _) _ refl)

pub lay_one-requires-in-Tick : goal.lay_one-requires-in-Tick
lay_one-requires-in-Tick c = omega (arith, c.requires, ap bytes_of c.in-Tick.is ∙ length-one (Tick _) _ refl)

pub lay_one-requires-in-ValidatorByte : goal.lay_one-requires-in-ValidatorByte
lay_one-requires-in-ValidatorByte c = omega (arith, c.requires, ap bytes_of c.in-ValidatorByte.is ∙ length-one (ValidatorByte _) _ refl)

pub lay_one-requires-in-Command : goal.lay_one-requires-in-Command
lay_one-requires-in-Command c = omega (arith, c.requires, ap bytes_of c.in-Command.is ∙ length-one (Command _) _ refl)

pub bounds-room-0 : goal.bounds-room-0
bounds-room-0 c = omega (arith, c.requires, ap bytes_of c.in-Clear.is, ap length record-clear)

pub returns-in-Request : goal.returns-in-Request
returns-in-Request c =
    let x = c.in-Request in
    let a : List ℕ = 0 ∷ groups x.code in
    let b : List ℕ = groups x.upper in
    let d : List ℕ = groups x.lower in
    let first = c.lay_one-first.ensures in
    let second = c.lay_number-second.ensures in
    let third = c.lay_number.ensures in
    let i : c.lay_one-first.result ≡ length a = first.place ∙ omega arith in
    let j : c.lay_number-second.result ≡ length (a ++ b) = second.place ∙ omega (arith, i, length-append a b) in
    let w = laid-whole c.args.x ((a ++ b) ++ d) _ _ _ (ap record_bytes x.is ∙ record-request _ _ _ ∙ sym (append_assoc a b d)) (third.place ∙ omega (arith, j, length-append (a ++ b) d))
    (laid-behind (a ++ b) d _ _ _ _ j (laid-behind a b _ _ _ _ i first.bytes second.bytes) third.bytes) in
    record { place = w.0; bytes = w.1 }

pub returns-in-DispenserByte : goal.returns-in-DispenserByte
returns-in-DispenserByte c =
    let w = laid-whole c.args.x _ _ _ _ (ap record_bytes c.in-DispenserByte.is ∙ record-one (DispenserByte _) _ refl) (c.lay_one.ensures.place ∙ omega arith) c.lay_one.ensures.bytes in
    record { place = w.0; bytes = w.1 }

pub returns-in-Tick : goal.returns-in-Tick
returns-in-Tick c =
    let w = laid-whole c.args.x _ _ _ _ (ap record_bytes c.in-Tick.is ∙ record-one (Tick _) _ refl) (c.lay_one-in-Tick.ensures.place ∙ omega arith) c.lay_one-in-Tick.ensures.bytes in
    record { place = w.0; bytes = w.1 }

pub returns-in-ValidatorByte : goal.returns-in-ValidatorByte
returns-in-ValidatorByte c =
    let w = laid-whole c.args.x _ _ _ _ (ap record_bytes c.in-ValidatorByte.is ∙ record-one (ValidatorByte _) _ refl) (c.lay_one-in-ValidatorByte.ensures.place ∙ omega arith) c.lay_one-in-ValidatorByte.ensures.bytes in
    record { place = w.0; bytes = w.1 }

pub returns-in-Command : goal.returns-in-Command
returns-in-Command c =
    let w = laid-whole c.args.x _ _ _ _ (ap record_bytes c.in-Command.is ∙ record-one (Command _) _ refl) (c.lay_one-in-Command.ensures.place ∙ omega arith) c.lay_one-in-Command.ensures.bytes in
    record { place = w.0; bytes = w.1 }

pub returns-in-Clear : goal.returns-in-Clear
returns-in-Clear c =
    let some : 0 < length c.args.room.now = omega (arith, c.requires, ap bytes_of c.in-Clear.is, ap length record-clear) in
    let w = laid-whole c.args.x _ _ _ _ (ap record_bytes c.in-Clear.is ∙ record-clear) (omega arith) (over_last _ _ _ 0 refl some) in
    record { place = w.0; bytes = w.1 }
