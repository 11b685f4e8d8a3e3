-- What is promised of the classes of answers: the statement, proved in proofs/Classes.antt.
use Rattle.std.specs.Prelude.{ℕ, ◌≡◌, List, ◌↔◌}
use Rattle.ccnet_class.specs.Class.{class_of, class_bytes, is_named}
use Rattle.ccnet_class.specs.declared.Class.{Class}
use Rattle.ccnet_class.specs.declared.Class.TheVariants.{Unknown, Table}

-- every body falls in one class; a listed class is that of its bytes, and its bytes are the body; unknown is exactly the rest. No body by itself is a bill table: that is
-- the class of an answer to one command (02, Q-1)
pub record Classes : Type 0 where
  pub back : (c : Class) → (is_named c).holds → class_of (class_bytes c) ≡ c
  pub again : (s : List ℕ) → (class_of s ≡ Unknown → ⊥) → (is_named (class_of s)).holds × (class_bytes (class_of s) ≡ s)
  pub no_table : (s : List ℕ) → class_of s ≡ Table → ⊥
  pub rest : (s : List ℕ) → (class_of s ≡ Unknown) ↔ ((c : Class) → (is_named c).holds → s ≡ class_bytes c → ⊥)
