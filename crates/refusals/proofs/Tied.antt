-- What it is for a contract to be one equation, and that such a one leaves no choice: two outcomes that it allows for the same arguments coincide. Assumes nothing.
use Prim.Native.Nat.{ℕ}
use mathlib.Core.Path.{◌≡◌, sym, ◌∙◌}
use mathlib.Core.List.{List}
use contract.Lifetimes.{Lfts}
use denote.Triple.Clauses.{AtExit}
use borrow.Fn.Kinds.{ParamKind, ResultKind, Out, Dens, res_t, ended_of}

-- ps, r and Post are a function's parameters, result and contract. The contract, for any arguments a, result x and parameters e at exit,
-- is what is said, as it stands
module _ {n : ℕ} (ps : List (ParamKind n)) (r : ResultKind n) (Post : Out n ps r) where
  abbrev pub Is : ((κs : Lfts n) → Dens κs ps → (res_t r κs).Denot → AtExit (ended_of n ps r) κs → Type 0) → Type 1
  Is Said = (κs : Lfts n) (a : Dens κs ps) (x : (res_t r κs).Denot) (e : AtExit (ended_of n ps r) κs) → ◌≡◌ {A = Type 0} (Post κs a x e) (Said κs a x e)

-- seen is what is looked at: the result x, and the parameters e at exit
module _ {n : ℕ} (ps : List (ParamKind n)) (r : ResultKind n) (Post : Out n ps r) {A : Type 0}
    (seen : (κs : Lfts n) → (res_t r κs).Denot → AtExit (ended_of n ps r) κs → A) where
  -- two outcomes that the contract allows for the same arguments are seen the same
  abbrev pub Tied : Type 0
  Tied = (κs : Lfts n) (a : Dens κs ps) (x y : (res_t r κs).Denot) (e f : AtExit (ended_of n ps r) κs)
      → Post κs a x e → Post κs a y f → seen κs x e ≡ seen κs y f

  -- so they are where the contract says what is seen by an equation
  pub tied : (said : (κs : Lfts n) → Dens κs ps → A)
      → ((κs : Lfts n) (a : Dens κs ps) (x : (res_t r κs).Denot) (e : AtExit (ended_of n ps r) κs) → Post κs a x e → seen κs x e ≡ said κs a)
      → Tied
  tied said says κs a x y e f p q = says κs a x e p ∙ sym (says κs a y f q)
