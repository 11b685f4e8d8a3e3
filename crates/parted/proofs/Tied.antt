-- No contract of this crate leaves a choice: two outcomes that it allows for the same arguments coincide. Said of the contracts themselves: that of `parting` is one
-- equation, and a part that is handed back is seen by its place and its bytes. Assumes nothing.
use Prim.Native.Nat.{ℕ}
use mathlib.Core.Path.{◌≡◌, sym, ap₂, ◌∙◌}
use mathlib.Core.List.{List}
use denote.Ref.{Bor}
use Rattle.std.specs.Prelude.{Err}
use Rattle.refusals.proofs.Tied.{Tied, tied}
use Rattle.ccnet_frame.specs.Part.{Part}
use Rattle.parted.specs.declared.Whose.TheVariants.{Student, Reference}
use Rattle.parted.specs.Next.{Next}
use Rattle.parted.specs.Next.{Rest}
use Rattle.parted.specs.Parting.{parting_of}
use Rattle.parted.specs.Remainder.{IsHandedBack}
use Rattle.parted.proofs.parting.Kinds as parting
use Rattle.parted.proofs.parting.Reads as parting-reads
use Rattle.parted.proofs.remainder.Kinds as remainder
use Rattle.parted.proofs.remainder.Reads as remainder-reads

pub parting-tied : Tied parting.ps parting.r parting-reads.Post (λ κs x e. x)
parting-tied = tied parting.ps parting.r parting-reads.Post (λ κs x e. x) _ (λ κs a x e p. p)

one-part : (s r q : Bor (List ℕ)) (a n : ℕ) → Part s a n r → Part s a n q → ◌≡◌ {A = (ℕ × ℕ) × List ℕ} (r.ref_ptr, r.now) (q.ref_ptr, q.now)
one-part s r q a n v w = ap₂ (λ (place : ℕ × ℕ) (bytes : List ℕ). (place, bytes)) (v.place ∙ sym w.place) (v.bytes ∙ sym w.bytes)

one-handed : (next : Next) (at : ℕ) (s t r q : Bor (List ℕ)) → IsHandedBack next at s t r → IsHandedBack next at s t q
    → ◌≡◌ {A = (ℕ × ℕ) × List ℕ} (r.ref_ptr, r.now) (q.ref_ptr, q.now)
one-handed (Rest Student) at s t r q v w = one-part s r q at _ v w
one-handed (Rest Reference) at s t r q v w = one-part t r q at _ v w
one-handed (Err x) at s t r q v w = one-part s r q 0 0 v w

pub remainder-tied : Tied remainder.ps remainder.r remainder-reads.Post {A = (ℕ × ℕ) × List ℕ} (λ κs x e. (x.ref_ptr, x.now))
remainder-tied κs a x y e f p q =
    let parted = parting_of a.0.now a.1.0.now in
    one-handed parted.next parted.at a.0 a.1.0 x y p q
