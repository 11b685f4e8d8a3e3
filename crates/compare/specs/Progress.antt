-- A look at two files that goes on comes nearer to their end.
use Rattle.std.specs.Prelude.{◌≤◌, ◌<◌, Option, Some, None}
use Rattle.compare.specs.declared.Passed.{Passed}

-- it passes over some bytes, a window at most, and no more records than bytes
abbrev pub Progress : Option Passed → Type 0
Progress (Some x) = (0 < x.bytes) × (x.bytes ≤ 65_536) × (x.records ≤ x.bytes)
Progress None = Unit {0}
