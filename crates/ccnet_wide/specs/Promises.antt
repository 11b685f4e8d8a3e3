-- What is promised of wide CCNET frames: the statements, proved in proofs/Trips.antt and proofs/Exact.antt.
use Rattle.std.specs.Prelude.{ℕ, ◌≤◌, ◌≡◌, List, [], ◌∷◌, length, get_or, take}
use Rattle.refusals.specs.Rules.{Exactly, numbered}
use Rattle.refusals.specs.Numbers.{refusal_number}
use Rattle.refusals.specs.Put.{written, refused, laid}
use Rattle.refusals.specs.Put.{Bytes}
use Rattle.numbers.specs.Promises.{AllBytes}
use Rattle.ccnet_frame.specs.Frame.{fault_number, judge_frame}
use Rattle.ccnet_frame.specs.declared.Fault.{Fault}
use Rattle.ccnet_frame.specs.Judged.{Good as NarrowGood}
use Rattle.ccnet_wide.specs.Wide.{wide_frame, wide_refusals, write_wide, form_of, lead_at, wide_faults, judge_wide, data_of}
use Rattle.ccnet_wide.specs.declared.Form.{Form}
use Rattle.ccnet_wide.specs.declared.Lead.{Lead}
use Rattle.ccnet_wide.specs.Judged.{Good, Refused}

-- reading undoes writing, for every form, address and data: what was put is good in its form, with its address, what it has before its true
-- length, and its data. And whatever is good in a form, written again with those, is the same bytes
pub record WideTrips : Type 0 where
  pub good : (address : ℕ) (lead : Lead) (given room after : List ℕ) (n : ℕ) → write_wide address lead given room ≡ written (Bytes n) after
      → judge_wide (form_of lead) (take n after) ≡ Good address lead
  pub back : (address : ℕ) (lead : Lead) (given room after : List ℕ) (n : ℕ) → write_wide address lead given room ≡ written (Bytes n) after
      → data_of (form_of lead) (take n after) ≡ given
  pub again : (form : Form) (s room : List ℕ) (address : ℕ) (lead : Lead) → AllBytes s → judge_wide form s ≡ Good address lead
      → length s ≤ length room → write_wide address lead (data_of form s) room ≡ laid s room

-- what is handed back is of the form that the caller said
abbrev pub FormKept : Type 0
FormKept = (form : Form) (s : List ℕ) (address : ℕ) (lead : Lead) → judge_wide form s ≡ Good address lead → form_of lead ≡ form

-- the data of a good frame are never none, and of a refused one always: an empty part means refused
pub record DataTells : Type 0 where
  pub good : (form : Form) (s : List ℕ) (address : ℕ) (lead : Lead) → judge_wide form s ≡ Good address lead → (data_of form s ≡ [] → ⊥)
  pub empty : (form : Form) (s : List ℕ) (fault : Fault) → judge_wide form s ≡ Refused fault → data_of form s ≡ []

-- "each frame has one length form": no bytes are both a narrow frame and a wide one, whichever form the caller says
abbrev pub OneLengthForm : Type 0
OneLengthForm = (form : Form) (s : List ℕ) (a b : ℕ) (lead : Lead) → judge_frame s ≡ NarrowGood a → judge_wide form s ≡ Good b lead → ⊥

-- "Given exactly when": each number exactly when its condition is the first that holds
pub record ExactlyWhen : Type 0 where
  pub write : (address : ℕ) (lead : Lead) (given room : List ℕ)
      → Exactly (wide_refusals address lead given room) (λ why. refused why room) (laid (wide_frame address lead given) room)
      (write_wide address lead given room)
  pub read : (form : Form) (s : List ℕ) → Exactly (wide_faults form s) Refused (Good (get_or s 1 0) (lead_at form s)) (judge_wide form s)

-- the numbers in the narrow form's order: of the reader 11, 12, 11, 15; of the writer 2, 1, 2
pub record InOrder : Type 0 where
  pub read : (form : Form) (s : List ℕ) → numbered fault_number (wide_faults form s) ≡ 11 ∷ 12 ∷ 11 ∷ 15 ∷ []
  pub write : (address : ℕ) (lead : Lead) (given room : List ℕ) → numbered refusal_number (wide_refusals address lead given room) ≡ 2 ∷ 1 ∷ 2 ∷ []
