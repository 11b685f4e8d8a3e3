-- What `plan` does, an inner function, in the terms of the definitions that the writers meet.
use Rattle.std.specs.Prelude.{ℕ, Bool}
use Rattle.refusals.specs.Rules.{says, judged}
use Rattle.refusals.specs.Put.{Put}
use Rattle.refusals.specs.Put.{Bytes, Refused}
use Rattle.ccnet_frame.specs.Frame.{writer_refusals}

-- how long the frame is, or why it is not to be written: n bytes, where a test says that a frame may have them
unfoldable pub planned : Bool → ℕ → ℕ → ℕ → Put
planned sized n address room = judged (writer_refusals (says sized) n address room) Refused (Bytes n)
