-- How long a report can be.
use Rattle.std.specs.Prelude.{ℕ}

-- no report is longer
abbrev pub longest : ℕ
longest = 1_739
