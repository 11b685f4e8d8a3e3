-- A wide frame laid out passes every test in its form, and bytes that pass every test in a form are laid out so. Assumes nothing.
use Rattle.std.proofs.lemmas.Result.{IfOk-at_ok}
use Prim.Native.Nat.{ℕ, suc, ◌+◌, ◌-◌, ◌*◌, ◌/◌, ◌%◌, ◌≤◌}
use mathlib.Core.Path.{◌≡◌, refl, sym, ap, ap₂, ◌∙◌}
use mathlib.Core.Bool.{Bool, true, false, cond}
use mathlib.Core.List.{List, [], ◌∷◌, ◌++◌}
use native.Mathlib.Omega.{arith}
use lib.ListN.{length, take, drop, get_or, length-append, length-drop}
use lib.Seq.{take_at, drop-cons, length-take-le}
use Rattle.refusals.specs.Rules.{Rule, judged}
use Rattle.numbers.specs.Promises.{AllBytes}
use Rattle.ccnet_frame.specs.Frame.{closed, framed, is_address, judge_sized}
use Rattle.ccnet_frame.specs.declared.Fault.{Fault}
use Rattle.ccnet_frame.specs.Judged.{Judged as Narrow}
use Rattle.ccnet_frame.specs.Judged.{Good as NarrowGood, Refused as NarrowRefused}
use Rattle.ccnet_frame.proofs.Frames.{Passed, passed, between, framed-length, framed-judged}
use Rattle.ccnet_wide.specs.Wide.{lead_bytes, wide_rest, wide_length, wide_frame, form_of, lead_at, length_place, true_length, is_sized, wide_faults, judge_wide, data_of}
use Rattle.ccnet_wide.specs.declared.Form.{Form}
use Rattle.ccnet_wide.specs.declared.Form.TheVariants.{AfterCode, AfterSubcommand, AtOnce}
use Rattle.ccnet_wide.specs.declared.Lead.{Lead}
use Rattle.ccnet_wide.specs.declared.Lead.TheVariants.{Code, Subcommand, Nothing}
use Rattle.ccnet_wide.specs.Judged.{Judged}
use Rattle.ccnet_wide.specs.Judged.{Good, Refused}

-- ---- what stands before the true length

pub lead-most : (lead : Lead) → length (lead_bytes lead) ≤ 2
lead-most (Code code) = omega arith
lead-most (Subcommand code subcommand) = omega arith
lead-most Nothing = omega arith

pub place-most : (form : Form) → length_place form ≤ 5
place-most AfterCode = omega arith
place-most AfterSubcommand = omega arith
place-most AtOnce = omega arith

pub lead-form : (form : Form) (s : List ℕ) → form_of (lead_at form s) ≡ form
lead-form AfterCode s = refl
lead-form AfterSubcommand s = refl
lead-form AtOnce s = refl

-- ---- a wide frame is judged as every frame is, and what stands before its true length is handed back with its address

-- what is handed back of a frame that was judged
abbrev pub with_lead : Lead → Narrow → Judged
with_lead lead (NarrowGood address) = Good address lead
with_lead lead (NarrowRefused fault) = Refused fault

pick-lead : (lead : Lead) (t : Bool) (x y : Narrow) → with_lead lead (cond t x y) ≡ cond t (with_lead lead x) (with_lead lead y)
pick-lead lead true x y = refl
pick-lead lead false x y = refl

judged-lead : (lead : Lead) (address : ℕ) (rs : List (Rule Fault))
    → with_lead lead (judged rs NarrowRefused (NarrowGood address)) ≡ judged rs Refused (Good address lead)
judged-lead lead address [] = refl
judged-lead lead address (r ∷ rs) =
    pick-lead lead r.when.test (NarrowRefused r.gives) (judged rs NarrowRefused (NarrowGood address))
    ∙ ap (λ (x : Judged). cond r.when.test (Refused r.gives) x) (judged-lead lead address rs)

pub judged-wide : (form : Form) (s : List ℕ) → with_lead (lead_at form s) (judge_sized (is_sized form s) s) ≡ judge_wide form s
unfolding judge_sized judge_wide wide_faults
judged-wide form s = judged-lead (lead_at form s) (get_or s 1 0) (wide_faults form s)

-- ---- a wide frame laid out

module _ (address : ℕ) (lead : Lead) (given : List ℕ) where
  abbrev n : ℕ
  n = wide_length lead (length given)

  abbrev whole : List ℕ
  whole = wide_frame address lead given

  rest-length : length (wide_rest lead n given) ≡ length (lead_bytes lead) + (2 + length given)
  rest-length = length-append (lead_bytes lead) (n / 256 ∷ n % 256 ∷ given) ∙ omega arith

  pub wide-length : length whole ≡ n
  unfolding wide_frame
  wide-length = omega (arith, framed-length address 0 (wide_rest lead n given), rest-length)

-- its bytes, read in its form
pub wide-lead : (address : ℕ) (lead : Lead) (given : List ℕ) → lead_at (form_of lead) (wide_frame address lead given) ≡ lead
unfolding wide_frame closed
wide-lead address (Code code) given = refl
wide-lead address (Subcommand code subcommand) given = refl
wide-lead address Nothing given = refl

wide-true : (address : ℕ) (lead : Lead) (given : List ℕ)
    → true_length (form_of lead) (wide_frame address lead given)
    ≡ wide_length lead (length given) % 256 + 256 * (wide_length lead (length given) / 256)
unfolding wide_frame closed
wide-true address (Code code) given = refl
wide-true address (Subcommand code subcommand) given = refl
wide-true address Nothing given = refl

wide-zero : (address : ℕ) (lead : Lead) (given : List ℕ) → get_or (wide_frame address lead given) 2 0 ≡ 0
unfolding wide_frame closed
wide-zero address lead given = refl

-- its data stand behind its true length
wide-given : (address : ℕ) (lead : Lead) (given : List ℕ)
    → take (length (wide_frame address lead given) - wide_length lead 0) (drop (5 + length (lead_bytes lead)) (wide_frame address lead given)) ≡ given
unfolding wide_frame closed
wide-given address (Code code) given =
    take_at given _ (length (wide_frame address (Code code) given) - 8) (omega (arith, wide-length address (Code code) given))
wide-given address (Subcommand code subcommand) given =
    take_at given _ (length (wide_frame address (Subcommand code subcommand) given) - 9) (omega (arith, wide-length address (Subcommand code subcommand) given))
wide-given address Nothing given =
    take_at given _ (length (wide_frame address Nothing given) - 7) (omega (arith, wide-length address Nothing given))

module _ (address : ℕ) (lead : Lead) (given : List ℕ) (named : (is_address address).holds) (long : 256 ≤ wide_length lead (length given)) where
  wide-sized : (is_sized (form_of lead) (wide_frame address lead given)).holds
  wide-sized =
      let l = wide-length address lead given in
      let t = wide-true address lead given in
      (wide-zero address lead given, (omega (arith, l, place-most (form_of lead)), (omega (arith, t), omega (arith, t, l))))

  pub wide-judged : judge_wide (form_of lead) (wide_frame address lead given) ≡ Good address lead
  unfolding wide_frame
  wide-judged =
      let rest = wide_rest lead (wide_length lead (length given)) given in
      let good = framed-judged address 0 rest (is_sized (form_of lead) (wide_frame address lead given)) named
      (omega (arith, framed-length address 0 rest, wide-length address lead given)) wide-sized in
      sym (judged-wide (form_of lead) (wide_frame address lead given))
      ∙ ap₂ with_lead (wide-lead address lead given) good

  pub wide-data : data_of (form_of lead) (wide_frame address lead given) ≡ given
  wide-data = rw wide-judged (wide-given address lead given)

-- ---- a wide frame that passed

-- it has n bytes, and those behind its length byte are what stands before its true length, that length, and the rest
split : (form : Form) (s : List ℕ) → 256 ≤ length s
    → between s
    ≡ lead_bytes (lead_at form s)
    ++ (get_or s (length_place form) 0
    ∷ get_or s (length_place form + 1) 0
    ∷ take (length s - wide_length (lead_at form s) 0) (drop (5 + length (lead_bytes (lead_at form s))) s))
split AfterCode s h =
    let e : length s - 5 ≡ suc (suc (suc (length s - 8))) = omega arith in
    rw (e, drop-cons s 3 0 (omega arith), drop-cons s 4 0 (omega arith), drop-cons s 5 0 (omega arith))
split AfterSubcommand s h =
    let e : length s - 5 ≡ suc (suc (suc (suc (length s - 9)))) = omega arith in
    rw (e, drop-cons s 3 0 (omega arith), drop-cons s 4 0 (omega arith), drop-cons s 5 0 (omega arith), drop-cons s 6 0 (omega arith))
split AtOnce s h =
    let e : length s - 5 ≡ suc (suc (length s - 7)) = omega arith in
    rw (e, drop-cons s 3 0 (omega arith), drop-cons s 4 0 (omega arith))

-- what is good in a form
pub record Read (form : Form) (s : List ℕ) (address : ℕ) (lead : Lead) : Type 0 where
  pub is : lead ≡ lead_at form s
  pub tested : Passed (is_sized form s) s address

pub good-read : (form : Form) (s : List ℕ) (address : ℕ) (lead : Lead) → judge_wide form s ≡ Good address lead → Read form s address lead
good-read form s address lead good = by (judge_sized (is_sized form s) s) refl
  where
    by : (x : Narrow) → judge_sized (is_sized form s) s ≡ x → Read form s address lead
    by (NarrowGood a) e =
        let r : Good a (lead_at form s) ≡ Good address lead = ap (with_lead (lead_at form s)) (sym e) ∙ judged-wide form s ∙ good in
        let f : a ≡ address = IfOk-at_ok (λ x. a ≡ x.address) r refl in
        record { is = IfOk-at_ok (λ x. x.lead ≡ lead_at form s) r refl; tested = passed (is_sized form s) s address (e ∙ ap NarrowGood f) }
    by (NarrowRefused why) e =
        let r : Refused why ≡ Good address lead = ap (with_lead (lead_at form s)) (sym e) ∙ judged-wide form s ∙ good in
        absurd (let z : ◌≡◌ {A = ℕ} 0 1 = cc in omega arith)

module _ (form : Form) (s : List ℕ) (address : ℕ) (lead : Lead) (good : judge_wide form s ≡ Good address lead) where
  read : Read form s address lead
  read = good-read form s address lead good

  pub good-lead : lead ≡ lead_at form s
  good-lead = read.is

  pub good-lead-most : length (lead_bytes lead) ≤ 2
  good-lead-most = lead-most lead

  -- its data stand behind the k bytes before its true length, and before its last two
  pub good-part : (k : ℕ) → k ≡ length (lead_bytes lead)
      → take (length s - 2 - (5 + k)) (drop (5 + k) s) ≡ take (length s - wide_length lead 0) (drop (5 + length (lead_bytes lead)) s)
  good-part k e = let n : length s - 2 - (5 + length (lead_bytes lead)) ≡ length s - wide_length lead 0 = omega arith in rw (e, n)

  pub good-address : (is_address address).holds
  good-address = read.tested.named

  pub good-zero : get_or s 2 0 ≡ 0
  good-zero = read.tested.right.0

  pub good-long : 256 ≤ length s
  good-long = omega (arith, read.tested.right.1.1.0, read.tested.right.1.1.1)

  pub good-most : AllBytes s → length s ≤ 65535
  good-most bytes =
      omega (arith, read.tested.right.1.1.1, bytes (length_place form), bytes (length_place form + 1))

  data_is : data_of form s ≡ take (length s - wide_length lead 0) (drop (5 + length (lead_bytes lead)) s)
  data_is = rw good

  pub good-size : length (data_of form s) ≡ length s - wide_length lead 0
  good-size =
      ap length data_is
      ∙ length-take-le (length s - wide_length lead 0) (drop (5 + length (lead_bytes lead)) s) (simp length-drop (omega (arith, good-long, lead-most lead)))

  pub good_length : wide_length lead (length (data_of form s)) ≡ length s
  good_length = omega (arith, good-size, good-long, lead-most lead)

  pub good-frame : AllBytes s → wide_frame address lead (data_of form s) ≡ s
  unfolding wide_frame
  good-frame bytes =
      let true = read.tested.right.1.1.1 in
      let high : length s / 256 ≡ get_or s (length_place form) 0 = omega (arith, true, bytes (length_place form + 1)) in
      let low : length s % 256 ≡ get_or s (length_place form + 1) 0 = omega (arith, true, bytes (length_place form + 1)) in
      let rest : wide_rest lead (wide_length lead (length (data_of form s))) (data_of form s) ≡ between s
      = rw (good_length, high, low, data_is, good-lead) (sym (split form s good-long)) in
      let laid = read.tested.again bytes in
      ap (λ (r : List ℕ). framed address 0 r) rest ∙ rw good-zero at laid
