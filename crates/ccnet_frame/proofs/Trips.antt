-- Reading undoes writing and writing undoes reading, for every address and every body; and an empty body means refused. Assumes nothing.
use Prim.Native.Nat.{ℕ, ◌≤◌}
use mathlib.Core.Path.{◌≡◌, ap, ap₂, ◌∙◌}
use mathlib.Core.List.{List, []}
use native.Mathlib.Omega.{arith}
use lib.ListN.{length, take}
use Rattle.refusals.specs.Rules.{within}
use Rattle.refusals.specs.Put.{written, refused, laid}
use Rattle.numbers.specs.Promises.{AllBytes}
use Rattle.refusals.specs.Put.{Bytes}
use Rattle.refusals.specs.declared.Refusal.{Refusal}
use Rattle.refusals.proofs.Rules.{certain, none-judged}
use Rattle.refusals.proofs.Writing.{done-laid, take-over}
use Rattle.ccnet_frame.specs.Frame.{frame, is_address, frame_refusals, write_frame, judge_frame, body_of}
use Rattle.ccnet_frame.specs.Promises.{FrameTrips, BodyTells}
use Rattle.ccnet_frame.specs.Judged.{Good}
use Rattle.ccnet_frame.proofs.Frames.{frame-judged, frame-body, good-long, good-address, good-size, good-most, good-frame}

-- what was put is a frame, with an address and a body in their ranges
record Sent (address : ℕ) (body sent : List ℕ) : Type 0 where
  is : sent ≡ frame address body
  named : (is_address address).holds
  some : 1 ≤ length body

put-sent : (address : ℕ) (body room after : List ℕ) (n : ℕ) → write_frame address body room ≡ written (Bytes n) after
    → Sent address body (take n after)
unfolding write_frame frame_refusals
put-sent address body room after n e =
    let d = done-laid (frame_refusals address body room) (frame address body) room n after e in
    record {
      is = ap₂ take d.put d.left ∙ take-over (frame address body) room;
      named = certain (is_address address) d.none.1.1.0;
      some = (certain (within 1 250 (length body)) d.none.0).0;
    }

again : (s room : List ℕ) (address : ℕ) → AllBytes s → judge_frame s ≡ Good address → length s ≤ length room
    → write_frame address (body_of s) room ≡ laid s room
unfolding write_frame frame_refusals
again s room address bytes good fits =
    let l = good-long s address good in
    let n = good-size s address good in
    let m = good-most s address good bytes in
    none-judged (λ (w : Refusal). refused w room) (laid (frame address (body_of s)) room) (frame_refusals address (body_of s) room)
    (λ x. x (omega arith, omega arith), ((λ x. omega arith), ((λ x. x (good-address s address good)), tt)))
    ∙ ap (λ (f : List ℕ). laid f room) (good-frame s address good bytes)

pub frame-trips : FrameTrips
frame-trips =
    record {
      good = λ address body room after n e.
          let t = put-sent address body room after n e in ap judge_frame t.is ∙ frame-judged address body t.named t.some;
      back = λ address body room after n e.
          let t = put-sent address body room after n e in ap body_of t.is ∙ frame-body address body t.named t.some;
      again = again;
    }

good-body : (s : List ℕ) (address : ℕ) → judge_frame s ≡ Good address → body_of s ≡ [] → ⊥
good-body s address good e = omega (arith, good-long s address good, good-size s address good, ap length e)

pub body-tells : BodyTells
body-tells = record { good = good-body; empty = λ s fault e. rw e }
