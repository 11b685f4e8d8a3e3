-- How long the line of a total is: its whole number has at most eighteen digits, and its decimals one. Assumes nothing.
use Prim.Native.Nat.{ℕ, ◌-◌, ◌*◌, ◌^◌, ◌≤◌, ◌<◌}
use mathlib.Core.Path.{◌≡◌, refl, ap}
use native.Mathlib.Omega.{arith}
use lib.ListN.{length, length-append}
use Rattle.refusals.specs.Rules.{under}
use Rattle.refusals.proofs.Rules.{by_cases}
use Rattle.numbers.specs.Decimal.{decimal}
use Rattle.numbers.proofs.Decimal.{length-decimal, width-least}
use Rattle.bill_table.specs.Worth.{value, total_of}
use Rattle.bill_table.specs.declared.Word.{Word}
use Rattle.bill_table.specs.declared.Value.{Value}
use Rattle.bill_table.specs.Total.{Sum}
use Rattle.bill_table.proofs.Exact.{totals-exact, total-exactly}
use Rattle.report_lines.specs.Lines.{line}
use Rattle.report.specs.Report.{value_text}

pub eighteen : (n : ℕ) → n ≤ 255_000_000_000_000_000 → length (decimal n) ≤ 18
eighteen n h = omega (arith, length-decimal n, width-least n 18 (omega arith) (omega arith))

pub single : (n : ℕ) → n ≤ 9 → length (decimal n) ≤ 1
single n h = omega (arith, length-decimal n, width-least n 1 (omega arith) (omega arith))

-- of a word that is bytes
module _ (w : Word) (count : ℕ) (all : Value) (small : w.first < 256) (e : total_of w count ≡ Sum all) where
  decimals-few : all.decimals ≤ 9
  decimals-few =
      let h = (total-exactly.sum w count).0 (all, e) in
      by_cases (under w.last 0x80)
      (λ low.
      let f = totals-exact.zeros w w.last count h.0 refl low h.1 in
      let is : all ≡ value (count * w.first * 10 ^ w.last) w.letters 0 = cc in
      omega (arith, ap (λ v. v.decimals) is))
      (λ high.
      let top : 0x80 ≤ w.last = omega (arith, high) in
      let f = totals-exact.places w (w.last - 0x80) count h.0 (omega arith) h.1 in
      let is : all ≡ value (count * w.first) w.letters (w.last - 0x80) = cc in
      omega (arith, ap (λ v. v.decimals) is, h.0.places top))

  pub total-fits : (all.whole ≤ 255_000_000_000_000_000) × (all.decimals ≤ 9)
  total-fits = (totals-exact.fits w count all small e, decimals-few)

pub value-most : (v : Value) → (v.whole ≤ 255_000_000_000_000_000) × (v.decimals ≤ 9) → length (line (value_text v)) ≤ 31
value-most v h = simp length-append (omega (arith, eighteen v.whole h.0, single v.decimals h.1))
