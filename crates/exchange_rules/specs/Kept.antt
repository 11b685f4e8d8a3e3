-- What every session over a lawful unit keeps that calls lead to from a fresh one. Demand 3 rests on it; nobody has to believe it, since it is proved.
use Rattle.std.specs.Prelude.{ℕ, ◌-◌, ◌*◌, ◌≤◌, ◌<◌, ◌≡◌, length}
use Rattle.exchange_rules.specs.Limits.{command_limit, hand_overs, nak_limit}
use Rattle.exchange_rules.specs.Machine.{Model, Box}
use Rattle.exchange_rules.specs.declared.notes.Sums.{Sums}
use Rattle.exchange_rules.specs.declared.line.Phase.{Phase}
use Rattle.exchange_rules.specs.declared.line.Phase.TheVariants.{Idle, First, Start, Inside}
use Rattle.exchange_rules.specs.declared.line.Line.{Line}

module _ {R X A C : Type 0} (U : Model R X A C) where
  -- an open command: it can be sent; it was handed over at least once and no more often than the limit; our 15h stayed below theirs; and it is one of the commands accepted
  pub record Live (l : Line) (q : R) : Type 0 where
    pub sent : (U.sendable q).holds
    pub least : 1 ≤ l.handed
    pub most : l.handed ≤ hand_overs
    pub naks : l.naks < nak_limit
    pub one : 1 ≤ l.accepted

  abbrev pub Stands : Phase → Line → R → Type 0
  Stands Idle l q = Unit {0}
  Stands First l q = Live l q
  Stands Start l q = Live l q × (l.gathered ≡ 0)
  Stands Inside l q = Live l q × (1 ≤ l.gathered) × (l.gathered < U.bytes.span q)

-- how many commands have been closed
abbrev pub settled : Phase → ℕ → ℕ
settled Idle accepted = accepted
settled First accepted = accepted - 1
settled Start accepted = accepted - 1
settled Inside accepted = accepted - 1

-- of notes asked there are no more than `asked`, of all others no more than `closed`, and no more open than the greatest count
pub record Bounded (greatest asked closed : ℕ) (s : Sums) : Type 0 where
  pub asked_most : s.asked.0 ≤ asked
  pub paid_most : s.paid.0 ≤ closed
  pub short_most : s.short.0 ≤ closed
  pub over_most : s.over.0 ≤ closed
  pub refused_most : s.refused.0 ≤ closed
  pub unknown_most : s.unknown.0 ≤ closed
  pub pending_most : s.pending.0 ≤ greatest
  pub rejected_most : s.rejected.0 ≤ closed

-- no sum of a cassette is more than the greatest count for each command: those accepted, and those closed
abbrev pub Within : ℕ → ℕ → ℕ → Sums → Type 0
Within g accepted closed s = Bounded g (g * accepted) (g * closed) s

module _ {R X A C : Type 0} (U : Model R X A C) where
  pub record Sound (s : Box R A) : Type 0 where
    pub stands : Stands U s.line.phase s.line s.asks
    pub commands : s.line.accepted ≤ command_limit
    pub books : (c : C) → Within U.greatest s.line.accepted (settled s.line.phase s.line.accepted) (U.cassette s.account c)
    pub store : length s.store ≡ U.longest
