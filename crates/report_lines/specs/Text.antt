-- Text as bytes.
use Rattle.std.specs.Prelude.{ℕ, List}
use Prim.Native.String.{String, [], ◌∷◌}
use Prim.Native.Char.{code}

-- a text in ASCII
abbrev pub bytes_of : String → List ℕ
bytes_of [] = List.[]
bytes_of (c ∷ s) = List.◌∷◌ (code c) (bytes_of s)
