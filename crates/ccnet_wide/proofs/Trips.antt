-- Reading undoes writing and writing undoes reading, for every form, address and data; what is handed back is of the form asked for; no data
-- means refused; and no bytes have both length forms. Assumes nothing.
use Prim.Native.Nat.{ℕ, ◌≤◌}
use mathlib.Core.Path.{◌≡◌, ap, ap₂, ◌∙◌}
use mathlib.Core.List.{List, []}
use native.Mathlib.Omega.{arith}
use lib.ListN.{length, take}
use Rattle.refusals.specs.Rules.{within}
use Rattle.refusals.specs.Put.{written, refused, laid}
use Rattle.refusals.specs.Put.{Bytes}
use Rattle.refusals.specs.declared.Refusal.{Refusal}
use Rattle.refusals.proofs.Rules.{certain, none-judged}
use Rattle.refusals.proofs.Writing.{done-laid, take-over}
use Rattle.numbers.specs.Promises.{AllBytes}
use Rattle.ccnet_frame.specs.Frame.{is_address}
use Rattle.ccnet_frame.proofs.Frames as plain
use Rattle.ccnet_wide.specs.Wide.{wide_length, wide_frame, wide_refusals, write_wide, form_of, judge_wide, data_of}
use Rattle.ccnet_wide.specs.Promises.{WideTrips, FormKept, DataTells, OneLengthForm}
use Rattle.ccnet_wide.specs.declared.Form.{Form}
use Rattle.ccnet_wide.specs.declared.Lead.{Lead}
use Rattle.ccnet_wide.specs.Judged.{Good}
use Rattle.ccnet_wide.proofs.Frames.{lead-most, lead-form, wide-judged, wide-data, good-lead, good-address, good-zero, good-long, good-most, good-size, good_length, good-frame}

-- what was put is a wide frame, with an address and a length in their ranges
record Sent (address : ℕ) (lead : Lead) (given sent : List ℕ) : Type 0 where
  is : sent ≡ wide_frame address lead given
  named : (is_address address).holds
  long : 256 ≤ wide_length lead (length given)

put-sent : (address : ℕ) (lead : Lead) (given room after : List ℕ) (n : ℕ) → write_wide address lead given room ≡ written (Bytes n) after
    → Sent address lead given (take n after)
unfolding write_wide wide_refusals
put-sent address lead given room after n e =
    let d = done-laid (wide_refusals address lead given room) (wide_frame address lead given) room n after e in
    record {
      is = ap₂ take d.put d.left ∙ take-over (wide_frame address lead given) room;
      named = certain (is_address address) d.none.1.1.0;
      long = (certain (within 256 65535 (wide_length lead (length given))) d.none.0).0;
    }

again : (form : Form) (s room : List ℕ) (address : ℕ) (lead : Lead) → AllBytes s → judge_wide form s ≡ Good address lead
    → length s ≤ length room → write_wide address lead (data_of form s) room ≡ laid s room
unfolding write_wide wide_refusals
again form s room address lead bytes good fits =
    let n = good_length form s address lead good in
    let l = good-long form s address lead good in
    let m = good-most form s address lead good bytes in
    none-judged (λ (w : Refusal). refused w room) (laid (wide_frame address lead (data_of form s)) room) (wide_refusals address lead (data_of form s) room)
    (λ x. x (omega arith, omega arith), ((λ x. omega arith), ((λ x. x (good-address form s address lead good)), tt)))
    ∙ ap (λ (f : List ℕ). laid f room) (good-frame form s address lead good bytes)

pub wide-trips : WideTrips
wide-trips =
    record {
      good = λ address lead given room after n e.
          let t = put-sent address lead given room after n e in
          ap (judge_wide (form_of lead)) t.is ∙ wide-judged address lead given t.named t.long;
      back = λ address lead given room after n e.
          let t = put-sent address lead given room after n e in
          ap (data_of (form_of lead)) t.is ∙ wide-data address lead given t.named t.long;
      again = again;
    }

pub form-kept : FormKept
form-kept form s address lead good = ap form_of (good-lead form s address lead good) ∙ lead-form form s

good-data : (form : Form) (s : List ℕ) (address : ℕ) (lead : Lead) → judge_wide form s ≡ Good address lead → data_of form s ≡ [] → ⊥
good-data form s address lead good e =
    omega (arith, good-long form s address lead good, good-size form s address lead good, lead-most lead, ap length e)

pub data-tells : DataTells
data-tells = record { good = good-data; empty = λ form s fault e. rw e }

pub one-length-form : OneLengthForm
one-length-form form s a b lead narrow wide =
    omega (arith, plain.good-long s a narrow, plain.good-sized s a narrow, good-zero form s b lead wide)
