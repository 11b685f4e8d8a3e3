-- Scaffolding, which nobody has to believe: contracts of inner functions cite it, some of them public only because the crates were cut, and no promise does.
use Rattle.std.specs.Prelude.{ℕ, ◌+◌, ◌≡◌, List, ◌++◌, length, take}

-- bytes added behind those before a place: where they end, and what stands before that end; the room is as long as it was
pub record Adds (before : List ℕ) (at : ℕ) (bytes after : List ℕ) (end : ℕ) : Type 0 where
  pub ends : end ≡ at + length bytes
  pub text : take end after ≡ take at before ++ bytes
  pub size : length after ≡ length before
