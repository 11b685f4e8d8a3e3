-- A frame is bad exactly where the part that is handed back as its body is empty. Assumes nothing.
use Prim.Native.Nat.{ℕ, ◌<◌}
use mathlib.Core.Path.{◌≡◌, refl, ap, ◌∙◌}
use mathlib.Core.List.{List}
use native.Mathlib.Omega.{arith}
use lib.ListN.{length}
use Rattle.ccnet_frame.specs.Frame.{judge_frame, body_of}
use Rattle.ccnet_frame.specs.Judged.{Judged}
use Rattle.ccnet_frame.specs.Judged.{Good, Refused}
use Rattle.ccnet_class.specs.declared.Class.{Class}
use Rattle.ccnet_frame.proofs.Frames.{good-long, good-size}
use Rattle.validator_rules.specs.Session.{class_to, found_in, found}
use Rattle.validator_rules.specs.Found.{Bad, Good as Says}

module _ (s part : List ℕ) (e : part ≡ body_of s) where
  pub read-bad : (code : ℕ) → length part ≡ 0 → Bad ≡ found code s
  unfolding found
  read-bad code z = by (judge_frame s) refl
    where
      by : (j : Judged) → judge_frame s ≡ j → Bad ≡ found_in j code s
      by (Good a) f = absurd (omega (arith, ap length e, good-size s a f, good-long s a f))
      by (Refused fault) f = refl

  pub read-good : (code : ℕ) (c : Class) → c ≡ class_to code part → 0 < length part → Says c ≡ found code s
  unfolding found
  read-good code c g z = by (judge_frame s) refl
    where
      by : (j : Judged) → judge_frame s ≡ j → Says c ≡ found_in j code s
      by (Good a) f = ap Says (g ∙ ap (class_to code) e)
      by (Refused fault) f = absurd (omega (arith, ap length e, refused-empty fault f))
        where
          refused-empty : (x : _) → judge_frame s ≡ Refused x → length (body_of s) ≡ 0
          refused-empty x h = rw h
