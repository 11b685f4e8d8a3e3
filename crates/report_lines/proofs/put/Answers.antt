-- `report_lines::put` meets its contract. Assumes nothing.
use mathlib.Core.Path.{refl, ap, ◌∙◌}
use mathlib.Core.List.{List, ◌++◌}
use Prim.Native.Nat.{ℕ}
use lib.ListN.{length, take}
use borrow.Rule.Slice.PartMut.{same_len_mid}
use Rattle.std.proofs.lemmas.Slice.{take-put_mid}
use native.Mathlib.Omega.{arith}
use Rattle.report_lines.proofs.put.Goals as goal

pub returns : goal.returns
returns c =
    let at = c.args.at in
    let text = c.args.text.now in
    let copied = c.copy_from_slice.ensures in
    let l = ap length copied.after in
    record {
      ends = refl;
      text = take-put_mid at _ text _ _ (omega arith) (omega arith) ∙ ap (λ (s : List ℕ). take at text ++ s) copied.after;
      size = same_len_mid at _ text _ copied.len;
    }
