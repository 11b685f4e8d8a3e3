-- How much noise the check of CCNET can see, whatever form a frame has (02, Q-13: "State both for every permitted length, the wide form included"). Proved in
-- proofs/Noise.antt.
use Rattle.std.specs.Prelude.{ℕ, ◌≡◌, List, length}
use Rattle.numbers.specs.Promises.{AllBytes}
use Rattle.ccnet_frame.specs.Frame.{judge_frame}
use Rattle.ccnet_frame.specs.Noise.{Within16}
use Rattle.ccnet_frame.specs.Judged.{Good as NarrowGood}
use Rattle.ccnet_wide.specs.Wide.{judge_wide}
use Rattle.ccnet_wide.specs.declared.Form.{Form}
use Rattle.ccnet_wide.specs.declared.Lead.{Lead}
use Rattle.ccnet_wide.specs.Judged.{Good}

-- a frame that a reader takes: the narrow one, or the wide one, whichever form it is told
pub data Taken (s : List ℕ) : Type 0 where
  narrow : (address : ℕ) → judge_frame s ≡ NarrowGood address → Taken s
  wide : (form : Form) (address : ℕ) (lead : Lead) → judge_wide form s ≡ Good address lead → Taken s

-- any two of them, of the same form or not
abbrev pub BurstSeenInAnyForm : Type 0
BurstSeenInAnyForm = (f g : List ℕ) (p : ℕ) → AllBytes f → AllBytes g → Taken f → Taken g → length f ≡ length g → Within16 p f g → f ≡ g
