-- Lines, one behind the other. Assumes nothing.
use Prim.Native.Nat.{ℕ}
use mathlib.Core.Path.{◌≡◌, refl, sym, ap, ◌∙◌, subst}
use mathlib.Core.List.{List, [], ◌∷◌, ◌++◌, append_assoc, append-nil}
use Rattle.report_lines.specs.Scaffolding.{Adds}
use Rattle.report_lines.specs.Lines.{line, lines}
use Rattle.report_lines.proofs.Adding.{adds_then, adds_none}

pub lines_none : lines [] ≡ []
unfolding lines
lines_none = refl

pub lines-one : (l : List ℕ) → lines (l ∷ []) ≡ line l
unfolding lines
lines-one l = append-nil (line l)

pub lines_more : (l : List ℕ) (ls : List (List ℕ)) → lines (l ∷ ls) ≡ line l ++ lines ls
unfolding lines
lines_more l ls = refl

pub lines-append : (ls ms : List (List ℕ)) → lines (ls ++ ms) ≡ lines ls ++ lines ms
unfolding lines
lines-append [] ms = refl
lines-append (l ∷ ls) ms = ap (λ (x : List ℕ). line l ++ x) (lines-append ls ms) ∙ sym (append_assoc (line l) (lines ls) (lines ms))

-- no lines
pub nothing-added : (before : List ℕ) (at : ℕ) {ls : List (List ℕ)} → ls ≡ [] → Adds before at (lines ls) before at
nothing-added before at e = subst (λ (l : List ℕ). Adds before at l before at) (sym (ap lines e ∙ lines_none)) (adds_none before at)

-- one line before others
pub first-added : {before m after : List ℕ} {at e k : ℕ} (l : List ℕ) (ls : List (List ℕ)) → Adds before at (line l) m e → Adds m e (lines ls) after k
    → Adds before at (lines (l ∷ ls)) after k
first-added {before} {m} {after} {at} {e} {k} l ls p q = subst (λ (x : List ℕ). Adds before at x after k) (sym (lines_more l ls)) (adds_then p q)

-- lines behind lines
pub lines-added : {before m after : List ℕ} {at e k : ℕ} (ls ms : List (List ℕ)) → Adds before at (lines ls) m e → Adds m e (lines ms) after k
    → Adds before at (lines (ls ++ ms)) after k
lines-added {before} {m} {after} {at} {e} {k} ls ms p q = subst (λ (x : List ℕ). Adds before at x after k) (sym (lines-append ls ms)) (adds_then p q)

-- a line in two pieces
pub line-added : {before m after : List ℕ} {at e f : ℕ} (a b : List ℕ) → Adds before at a m e → Adds m e (line b) after f → Adds before at (line (a ++ b)) after f
line-added {before} {m} {after} {at} {e} {f} a b p q =
    subst (λ (x : List ℕ). Adds before at x after f) (sym (append_assoc a b (0x0A ∷ []))) (adds_then p q)

pub one-added : {before after : List ℕ} {at f : ℕ} (l : List ℕ) → Adds before at (line l) after f → Adds before at (lines (l ∷ [])) after f
one-added {before} {after} {at} {f} l p = subst (λ (x : List ℕ). Adds before at x after f) (sym (lines-one l)) p
