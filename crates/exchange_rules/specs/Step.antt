-- A step of the line, done or declined, whatever C its closing is; and what it does with bytes.
use Rattle.std.specs.Prelude.{ℕ, List, Ok, Err, set, take}
use Rattle.refusals.specs.declared.Declined.{Declined}
use Rattle.exchange_rules.specs.declared.line.Line.{Line}
use Rattle.exchange_rules.specs.declared.step.Step.{Step}

abbrev pub stepped : {C : Type 0} → Line → ℕ → C → Step C
stepped l n c = record { line = l; reply = Ok (record { put = n; closing = c }) }

abbrev pub refused_step : {C : Type 0} → Line → Declined → Step C
refused_step l why = record { line = l; reply = Err why }

-- a byte kept at its place of the gathering store
abbrev pub byte_kept : List ℕ → ℕ → ℕ → List ℕ
byte_kept store at b = set store at b

-- one byte sent
abbrev pub byte_sent : List ℕ → ℕ → List ℕ
byte_sent room b = set room 0 b

-- the bytes of an answer that are gathered, no more than the store holds
abbrev pub bytes_gathered : List ℕ → ℕ → List ℕ
bytes_gathered store span = take span store
