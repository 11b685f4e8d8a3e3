-- What the session sends is never refused by the writer: its room holds every frame. Assumes nothing.
use Prim.Native.Nat.{ℕ, ◌≤◌}
use mathlib.Core.Path.{◌≡◌, refl, ap, ◌∙◌}
use mathlib.Core.List.{List, [], ◌∷◌}
use mathlib.Core.Bool.{Bool, true, false, ◌||◌}
use mathlib.Core.Logic.{⊎_elim}
use native.Mathlib.Omega.{arith}
use lib.Dec.{lit≤}
use lib.ListN.{length}
use borrow.Author.Tests.{le-ltb}
use Rattle.std.specs.Result.{result_unwrap_or}
use Rattle.refusals.specs.Put.{written, writing, refused, laid}
use Rattle.refusals.specs.Put.{Put}
use Rattle.refusals.proofs.Rules.{none-judged}
use Rattle.ccnet_frame.specs.Frame.{frame, frame_refusals, write_frame}
use Rattle.ccnet_frame.proofs.Frames.{frame-length}
use Rattle.validator_rules.specs.Session.{sent, sending, is_command}

-- bytes that were laid were put
module _ (bytes room : List ℕ) (p : Put) (left : List ℕ) (e : written p left ≡ laid bytes room) where
  laid-sent : sent (result_unwrap_or p 0) left ≡ sending bytes room
  laid-sent = ap (λ w. sent (result_unwrap_or w.answer 0) w.room) e

module _ (body room : List ℕ) (h : 255 ≤ length room) where
  -- ACK, NAK and every command are laid
  one-laid : (b : ℕ) → body ≡ b ∷ [] → writing (frame 0x03 body) room ≡ laid (frame 0x03 body) room
  unfolding writing
  one-laid b e = rw (le-ltb (length room) (length (frame 0x03 body)) (omega (arith, frame-length 0x03 body, ap length e)))

  frame-laid : 1 ≤ length body → length body ≤ 7 → write_frame 0x03 body room ≡ laid (frame 0x03 body) room
  unfolding write_frame frame_refusals
  frame-laid f g =
      none-judged (λ why. refused why room) (laid (frame 0x03 body) room) (frame_refusals 0x03 body room) (
        (λ n. n (f, omega arith)),
        ((λ u. omega arith), ((λ n. n (lit≤ tt, lit≤ tt)), tt)),
      )

module _ (b : ℕ) (room : List ℕ) (p : Put) (left : List ℕ) (h : 255 ≤ length room) (e : written p left ≡ writing (frame 0x03 (b ∷ [])) room) where
  pub short-sent : sent (result_unwrap_or p 0) left ≡ sending (frame 0x03 (b ∷ [])) room
  short-sent = laid-sent (frame 0x03 (b ∷ [])) room p left (e ∙ one-laid (b ∷ []) room h b refl)

module _ (code : ℕ) (given room : List ℕ) (p : Put) (left : List ℕ) (h : 255 ≤ length room) (g : length given ≤ 6)
    (e : written p left ≡ write_frame 0x03 (code ∷ given) room) where
  pub command-sent : sent (result_unwrap_or p 0) left ≡ sending (frame 0x03 (code ∷ given)) room
  command-sent = laid-sent (frame 0x03 (code ∷ given)) room p left (e ∙ frame-laid (code ∷ given) room h (omega arith) (omega arith))

-- ---- commands

pub or-false : (t : Bool) → (t || false) ≡ t
or-false true = refl
or-false false = refl

-- a command has at most six data bytes
pub command-size : (code size : ℕ) → (is_command code size).test ≡ true → size ≤ 6
unfolding is_command
command-size code size h =
    ⊎_elim (λ a. omega (arith, a.1)) (λ a. omega (arith, a.1)) ((is_command code size).tells.shown h)
