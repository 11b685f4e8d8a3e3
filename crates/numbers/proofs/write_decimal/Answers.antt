-- `numbers::write_decimal` meets its contract: the digits fill the first part of the room. Assumes nothing.
use mathlib.Core.Path.{◌≡◌, sym, ◌∙◌}
use mathlib.Core.List.{List, ◌++◌}
use Prim.Native.Nat.{ℕ, ◌≤◌}
use native.Mathlib.Omega.{arith}
use lib.ListN.{length, take, drop}
use lib.Seq.{length-take-le}
use Rattle.refusals.specs.Put.{over}
use Rattle.numbers.specs.Decimal.{digits, width, decimal}
use Rattle.numbers.proofs.Decimal.{length_digits, length-decimal}
use Rattle.refusals.proofs.Writing.{writing-refused, writing-laid}
use Rattle.numbers.proofs.write_decimal.Goals as goal

pub returns-then-room-k : goal.returns-then-room-k
returns-then-room-k c =
    writing-refused (decimal c.args.n) c.args.room.now
    (omega (arith, length-decimal c.args.n, c.places_of-k.ensures))

-- the first part of the room, filled with the digits
filled : (n k : ℕ) (room part : List ℕ) → k ≡ width n → k ≤ length room → part ≡ digits (length (take k room)) n
    → part ++ drop k room ≡ over (decimal n) room
unfolding over decimal
filled n k room part e h p = rw (p, length-take-le k room h, e, length_digits)

pub returns : goal.returns
returns c =
    let args = c.args in
    let w = c.places_of-k in
    let fits : w.result ≤ length args.room.now = c.if-room-k.false in
    let e : w.result ≡ length (decimal args.n) = w.ensures ∙ sym (length-decimal args.n) in
    writing-laid (decimal args.n) args.room.now _ _ (omega arith) e
    (filled args.n w.result args.room.now _ w.ensures fits c.put_digits.ensures)
