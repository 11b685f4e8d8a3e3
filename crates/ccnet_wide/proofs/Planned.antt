-- What the writer makes of its plan, of a wide frame: by the law of every writer of frames. Assumes nothing.
use Prim.Native.Nat.{ℕ, ◌≤◌}
use mathlib.Core.Bool.{Bool}
use mathlib.Core.Path.{◌≡◌, ap, ◌∙◌}
use mathlib.Core.List.{List}
use native.Mathlib.Omega.{arith}
use lib.ListN.{length}
use Rattle.refusals.specs.Rules.{within}
use Rattle.refusals.specs.Put.{written, refused, over}
use Rattle.refusals.specs.Put.{Bytes, Refused}
use Rattle.refusals.specs.declared.Refusal.{Refusal}
use Rattle.ccnet_frame.specs.Frame.{framed}
use Rattle.ccnet_frame.specs.Parts.{planned}
use Rattle.ccnet_frame.proofs.Planned as every
use Rattle.ccnet_wide.specs.Wide.{wide_rest, wide_length, wide_frame, wide_refusals, write_wide}
use Rattle.ccnet_wide.specs.declared.Lead.{Lead}
use Rattle.ccnet_wide.proofs.Frames.{wide-length}

module _ (address : ℕ) (lead : Lead) (given room : List ℕ) where
  abbrev n : ℕ
  n = wide_length lead (length given)

  pub wide-refused : (m : ℕ) (t : Bool) (why : Refusal) → m ≡ n → t ≡ (within 256 65535 m).test → planned t m address (length room) ≡ Refused why
      → refused why room ≡ write_wide address lead given room
  unfolding write_wide wide_refusals
  wide-refused m t why l e p = every.planned-refused (within 256 65535 n) n address (wide_frame address lead given) room t why (rw l at e) (rw l at p)

  -- a frame of k bytes is to be written: two bytes say its length, the room holds it, and once it is laid it is written
  pub record WideFit (k : ℕ) : Type 0 where
    pub long : k ≡ n
    pub most : k ≤ 65535
    pub holds : k ≤ length room
    pub writes : (left : List ℕ) → left ≡ over (framed address 0 (wide_rest lead k given)) room → written (Bytes k) left ≡ write_wide address lead given room

  pub wide-fit : (m k : ℕ) (t : Bool) → m ≡ n → t ≡ (within 256 65535 m).test → planned t m address (length room) ≡ Bytes k → WideFit k
  unfolding write_wide wide_refusals wide_frame
  wide-fit m k t l e p =
      let fit = every.planned-fit (within 256 65535 n) n address (wide_frame address lead given) room t k (rw l at e) (rw l at p) in
      record {
        long = fit.long;
        most = omega (arith, fit.long, fit.right.1);
        holds = omega (arith, fit.long, fit.holds);
        writes = λ left q.
            fit.writes left (wide-length address lead given) (q ∙ ap (λ (i : ℕ). over (framed address 0 (wide_rest lead i given)) room) fit.long);
      }
