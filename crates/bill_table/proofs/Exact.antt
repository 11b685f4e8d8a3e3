-- What a word says and what a total is, exactly when; and that a total is as many times the value of one bill, to the last place. Assumes nothing.
use Prim.Native.Nat.{ℕ, ◌+◌, ◌-◌, ◌*◌, ◌^◌, ◌≤◌, ◌<◌}
use mathlib.Core.Path.{◌≡◌, refl, ap, ◌∙◌}
use mathlib.Core.Logic.{inl, inr}
use native.Mathlib.Nat.{mul_assoc, one-mul}
use native.Mathlib.Omega.{arith}
use borrow.Author.Tests.{lt-ltb, le-ltb}
use Rattle.refusals.specs.Rules.{under}
use Rattle.refusals.specs.declared.Refusal.TheVariants.{Range}
use Rattle.refusals.proofs.Rules.{by_cases, holds-true, fails-false}
use Rattle.bill_table.specs.Table.{no_word, word}
use Rattle.bill_table.specs.Worth.{most_bills, is_absent, is_usable, value, worth, meaning_of, total_of}
use Rattle.bill_table.specs.Promises.{AllZero, Usable, MeansExactly, TotalsExact, TotalExactly}
use Rattle.bill_table.specs.declared.Word.{Word}
use Rattle.bill_table.specs.declared.Value.{Value}
use Rattle.bill_table.specs.declared.Meaning.TheVariants.{NoBill, Unusable, Valued}
use Rattle.bill_table.specs.Total.{NoValue, Sum, Refused}
use Rattle.bill_table.proofs.Amounts.{zeros-few, places-few, one-most, all_most}

-- ---- the tests say what is promised

usable-from : (w : Word) → (is_usable w).holds → Usable w
usable-from w h =
    record {
      one = h.0;
      two = h.1.0;
      three = h.1.1.0;
      zeros = zeros-few w.last h.1.1.1;
      places = λ high. omega (arith, places-few w.last h.1.1.1 high);
    }

usable-to : (w : Word) → Usable w → (is_usable w).holds
usable-to w u = (
  u.one,
  (
    u.two,
    (
      u.three,
      by_cases (under w.last 0x80)
          (λ low. inl (omega arith, u.zeros low))
          (λ high. inr (omega (arith, high), omega (arith, high, u.places (omega (arith, high))))),
    ),
  ),
)

absent-to : (w : Word) → AllZero w → (is_absent w).holds
absent-to w e =
    (ap (λ x. x.first) e, (ap (λ x. x.letters.0) e, (ap (λ x. x.letters.1) e, (ap (λ x. x.letters.2) e, ap (λ x. x.last) e))))

all-zero : (a b c d l : ℕ) → a ≡ 0 → b ≡ 0 → c ≡ 0 → d ≡ 0 → l ≡ 0 → word a b c d l ≡ no_word
all-zero a b c d l p q r s t = rw (p, q, r, s, t)

absent-from : (w : Word) → (is_absent w).holds → AllZero w
absent-from w h = all-zero _ _ _ _ _ h.0 h.1.0 h.1.1.0 h.1.1.1.0 h.1.1.1.1

-- a usable word has letters, so that it is not all zero
usable-there : (w : Word) → (is_usable w).holds → (is_absent w).holds → ⊥
usable-there w u a = omega (arith, u.0.0, a.1.0)

-- ---- what a word says, in each case

means-nothing : (w : Word) → (is_absent w).holds → meaning_of w ≡ NoBill
unfolding meaning_of
means-nothing w a = rw (holds-true (is_absent w) a)

means-value : (w : Word) → (is_usable w).holds → meaning_of w ≡ Valued (worth w 1)
unfolding meaning_of
means-value w u = rw (fails-false (is_absent w) (usable-there w u), holds-true (is_usable w) u)

means-rest : (w : Word) → ((is_absent w).holds → ⊥) → ((is_usable w).holds → ⊥) → meaning_of w ≡ Unusable
unfolding meaning_of
means-rest w a u = rw (fails-false (is_absent w) a, fails-false (is_usable w) u)

pub means-exactly : MeansExactly
means-exactly =
    record {
      nothing = λ w. (
        λ e.
            by_cases (is_absent w) (absent-from w)
            (λ a.
            by_cases (is_usable w)
            (λ u. absurd (let f = means-value w u in let z : ◌≡◌ {A = ℕ} 0 1 = cc in omega arith))
            (λ u. absurd (let f = means-rest w a u in let z : ◌≡◌ {A = ℕ} 0 1 = cc in omega arith))),
        λ z. means-nothing w (absent-to w z),
      );
      valued = λ w. (
        λ e.
            by_cases (is_usable w) (usable-from w)
            (λ u.
            by_cases (is_absent w)
            (λ a. absurd (let f = means-nothing w a in let g = e.1 in let z : ◌≡◌ {A = ℕ} 0 1 = cc in omega arith))
            (λ a. absurd (let f = means-rest w a u in let g = e.1 in let z : ◌≡◌ {A = ℕ} 0 1 = cc in omega arith))),
        λ u. (worth w 1, means-value w (usable-to w u)),
      );
      rest = λ w. (
        λ e. (
          λ a. let f = means-nothing w (absent-to w a) in let z : ◌≡◌ {A = ℕ} 0 1 = cc in omega arith,
          λ u. let f = means-value w (usable-to w u) in let z : ◌≡◌ {A = ℕ} 0 1 = cc in omega arith,
        ),
        λ n. means-rest w (λ a. n.0 (absent-from w a)) (λ u. n.1 (usable-from w u)),
      );
    }

-- ---- what a total is, in each case

total-refused : (w : Word) (count : ℕ) → most_bills < count → total_of w count ≡ Refused Range
unfolding total_of
total-refused w count h = rw (lt-ltb most_bills count h)

total-sum : (w : Word) (count : ℕ) → (is_usable w).holds → count ≤ most_bills → total_of w count ≡ Sum (worth w count)
unfolding total_of
total-sum w count u h = rw (le-ltb most_bills count h, holds-true (is_usable w) u)

total-none : (w : Word) (count : ℕ) → ((is_usable w).holds → ⊥) → count ≤ most_bills → total_of w count ≡ NoValue
unfolding total_of
total-none w count u h = rw (le-ltb most_bills count h, fails-false (is_usable w) u)

-- a sum is what the word says it is worth, and nothing else is one
sum-worth : (w : Word) (count : ℕ) (all : Value) → total_of w count ≡ Sum all → (is_usable w).holds × (count ≤ most_bills) × (all ≡ worth w count)
sum-worth w count all e =
    by_cases (under most_bills count)
    (λ h. absurd (let f = total-refused w count h in let z : ◌≡◌ {A = ℕ} 0 1 = cc in omega arith))
    (λ h.
    let few : count ≤ most_bills = omega (arith, h) in
    by_cases (is_usable w)
    (λ u. (u, few, let f = total-sum w count u few in let is : all ≡ worth w count = cc in is))
    (λ u. absurd (let f = total-none w count u few in let z : ◌≡◌ {A = ℕ} 0 1 = cc in omega arith)))

worth-zeros : (w : Word) (count : ℕ) → w.last < 0x80 → worth w count ≡ value (count * (w.first * 10 ^ w.last)) w.letters 0
unfolding worth
worth-zeros w count h = rw (lt-ltb w.last 0x80 h)

worth-places : (w : Word) (count : ℕ) → 0x80 ≤ w.last → worth w count ≡ value (count * w.first) w.letters (w.last - 0x80)
unfolding worth
worth-places w count h = rw (le-ltb w.last 0x80 h)

total-zeros : (w : Word) (z count : ℕ) → Usable w → w.last ≡ z → z < 0x80 → count ≤ most_bills
    → total_of w count ≡ Sum (value (count * w.first * 10 ^ z) w.letters 0)
total-zeros w z count u e low few =
    total-sum w count (usable-to w u) few
    ∙ ap Sum (worth-zeros w count (omega arith) ∙ rw (e, mul_assoc count w.first (10 ^ z)))

total-places : (w : Word) (p count : ℕ) → Usable w → w.last ≡ 0x80 + p → count ≤ most_bills
    → total_of w count ≡ Sum (value (count * w.first) w.letters p)
total-places w p count u e few =
    total-sum w count (usable-to w u) few
    ∙ ap Sum (worth-places w count (omega arith) ∙ ap (value (count * w.first) w.letters) (omega arith))

worth-times : (w : Word) (count : ℕ) → worth w count ≡ value (count * (worth w 1).whole) (worth w 1).letters (worth w 1).decimals
worth-times w count =
    by_cases (under w.last 0x80)
    (λ low. rw (worth-zeros w 1 low, worth-zeros w count low, one-mul))
    (λ high.
    let h : 0x80 ≤ w.last = omega (arith, high) in
    rw (worth-places w 1 h, worth-places w count h, one-mul))

total-times : (w : Word) (count : ℕ) (one all : Value) → meaning_of w ≡ Valued one → total_of w count ≡ Sum all
    → all ≡ value (count * one.whole) one.letters one.decimals
total-times w count one all m t =
    let s = sum-worth w count all t in
    let f = means-value w s.0 in
    let is : one ≡ worth w 1 = cc in
    s.2 ∙ rw is (worth-times w count)

total-fits : (w : Word) (count : ℕ) (all : Value) → w.first < 256 → total_of w count ≡ Sum all → all.whole ≤ 255_000_000_000_000_000
total-fits w count all small t =
    let s = sum-worth w count all t in
    by_cases (under w.last 0x80)
    (λ low.
    rw (s.2, worth-zeros w count low)
    (all_most count (w.first * 10 ^ w.last) s.1 (one-most w.first w.last small (zeros-few w.last s.0.1.1.1 low))))
    (λ high. rw (s.2, worth-places w count (omega (arith, high))) (all_most count w.first s.1 (omega arith)))

pub totals-exact : TotalsExact
totals-exact = record { zeros = total-zeros; places = total-places; times = total-times; fits = total-fits }

pub total-exactly : TotalExactly
total-exactly =
    record {
      sum = λ w count. (
        λ e. let s = sum-worth w count e.0 e.1 in (usable-from w s.0, s.1),
        λ h. (worth w count, total-sum w count (usable-to w h.0) h.1),
      );
      refused = λ w count. (
        λ e.
            by_cases (under most_bills count) (λ h. h)
            (λ h.
            let few : count ≤ most_bills = omega (arith, h) in
            by_cases (is_usable w)
            (λ u. absurd (let f = total-sum w count u few in let z : ◌≡◌ {A = ℕ} 0 1 = cc in omega arith))
            (λ u. absurd (let f = total-none w count u few in let z : ◌≡◌ {A = ℕ} 0 1 = cc in omega arith))),
        total-refused w count,
      );
      none = λ w count. (
        λ e.
            by_cases (under most_bills count)
            (λ h. absurd (let f = total-refused w count h in let z : ◌≡◌ {A = ℕ} 0 1 = cc in omega arith))
            (λ h.
            let few : count ≤ most_bills = omega (arith, h) in (
              λ u. let f = total-sum w count (usable-to w u) few in let z : ◌≡◌ {A = ℕ} 0 1 = cc in omega arith,
              few,
            )),
        λ h. total-none w count (λ u. h.0 (usable-from w u)) h.1,
      );
      number = refl;
    }
