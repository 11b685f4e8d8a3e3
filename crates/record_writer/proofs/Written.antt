-- What the writer does, by what its tests found. Assumes nothing.
use Prim.Native.Nat.{ℕ, ◌≤◌, ◌<◌}
use mathlib.Core.Path.{◌≡◌, ap₂}
use mathlib.Core.Bool.{true, false}
use mathlib.Core.List.{List}
use lib.ListN.{length}
use borrow.Author.Tests.{lt-ltb, le-ltb}
use Rattle.refusals.specs.Put.{written, refused, over}
use Rattle.refusals.specs.Put.{Bytes}
use Rattle.refusals.specs.declared.Refusal.TheVariants.{Room, Range}
use Rattle.recording.specs.Record.{record_bytes}
use Rattle.recording.specs.declared.Record.{Record}
use Rattle.record_writer.specs.Writing.{is_taken, record_refusals, write_record}

module _ (x : Record) (room : List ℕ) where
  pub no_room : length room < length (record_bytes x) → refused Room room ≡ write_record x room
  unfolding write_record record_refusals
  no_room h = rw (lt-ltb _ _ h)

  module _ (h : length (record_bytes x) ≤ length room) where
    pub not_taken : (is_taken x).test ≡ false → refused Range room ≡ write_record x room
    unfolding write_record record_refusals
    not_taken t = rw (le-ltb _ _ h, t)

    pub is-written : (n : ℕ) (left : List ℕ) → (is_taken x).test ≡ true → n ≡ length (record_bytes x) → left ≡ over (record_bytes x) room
        → written (Bytes n) left ≡ write_record x room
    unfolding write_record record_refusals
    is-written n left t e f = rw (le-ltb _ _ h, t) (ap₂ (λ (k : ℕ) (l : List ℕ). written (Bytes k) l) e f)
