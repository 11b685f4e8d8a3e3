-- A call is refused as the first rule that applies says, and exactly so: one law for every list of rules.
-- Assumes nothing.
use mathlib.Core.Path.{◌≡◌, refl, sym, ap, ◌∙◌, subst}
use mathlib.Core.Bool.{Bool, true, false, cond}
use mathlib.Core.List.{List, [], ◌∷◌}
use mathlib.Core.Logic.{◌⊎◌, inl, inr, ⊎_elim, ◌↔◌}
use borrow.Author.Tests.{lt-ltb, le-ltb, le-leb, lt-leb, eq-eqb, ne_eqb}
use Rattle.refusals.specs.Rules.{Condition, Rule, judged, First, NoneOf, Exactly}

-- the tests that a branch in the code decides
pub ruleset tests = (lt-ltb, le-ltb, le-leb, lt-leb, eq-eqb, ne_eqb)

-- a test is true or false
abbrev pub tested : (t : Bool) → (t ≡ true) ⊎ (t ≡ false)
tested true = inl refl
tested false = inr refl

-- a condition that holds has a true test, one that does not a false one
pub holds-true : (c : Condition) → c.holds → c.test ≡ true
holds-true c h = ⊎_elim (λ e. e) (λ (e : c.test ≡ false). absurd (c.tells.denied e h)) (tested c.test)

pub fails-false : (c : Condition) → (c.holds → ⊥) → c.test ≡ false
fails-false c n = ⊎_elim (λ (e : c.test ≡ true). absurd (n (c.tells.shown e))) (λ e. e) (tested c.test)

-- by cases: the condition holds, or it does not
pub by_cases {ℓ} : {A : Type ℓ} (c : Condition) → (c.holds → A) → ((c.holds → ⊥) → A) → A
by_cases c f g = ⊎_elim (λ (e : c.test ≡ true). f (c.tells.shown e)) (λ (e : c.test ≡ false). g (c.tells.denied e)) (tested c.test)

-- what cannot fail holds
pub certain : (c : Condition) → ((c.holds → ⊥) → ⊥) → c.holds
certain c n = by_cases c (λ h. h) (λ m. absurd (n m))

-- of two values picked by a test
pub cond-true {ℓ} : {A : Type ℓ} {t : Bool} (a b : A) → t ≡ true → cond t a b ≡ a
cond-true a b e = rw e

pub cond-false {ℓ} : {A : Type ℓ} {t : Bool} (a b : A) → t ≡ false → cond t a b ≡ b
cond-false a b e = rw e

module _ {A B : Type 0} (refuse : B → A) (done : A) where
  -- the first rule that applies says x, so the call is refused so
  pub first-judged : (rs : List (Rule B)) (x : B) → First rs x → judged rs refuse done ≡ refuse x
  first-judged [] x f = absurd f
  first-judged (r ∷ rs) x f =
      ⊎_elim
      (λ (h : r.when.holds × (r.gives ≡ x)). cond-true _ _ (holds-true r.when h.0) ∙ ap refuse h.1)
      (λ (h : (r.when.holds → ⊥) × First rs x). cond-false _ _ (fails-false r.when h.0) ∙ first-judged rs x h.1)
      f

  -- no rule applies, so it is done
  pub none-judged : (rs : List (Rule B)) → NoneOf rs → judged rs refuse done ≡ done
  none-judged [] n = refl
  none-judged (r ∷ rs) n = cond-false _ _ (fails-false r.when n.0) ∙ none-judged rs n.1

-- what holds of both values that a condition's test picks between holds of the one picked
pub pick : {A : Type 0} (P : A → Type 0) (c : Condition) (x y : A) → (c.holds → P x) → ((c.holds → ⊥) → P y) → P (cond c.test x y)
pick P c x y f g =
    by_cases c
    (λ h. subst P (sym (cond-true x y (holds-true c h))) (f h))
    (λ n. subst P (sym (cond-false x y (fails-false c n))) (g n))

-- either a rule is the first that applies, or none does
pub first_or_none : {B : Type 0} (rs : List (Rule B)) → ((x : B) × First rs x) ⊎ NoneOf rs
first_or_none [] = inr tt
first_or_none (r ∷ rs) =
    by_cases r.when
    (λ h. inl (r.gives, inl (h, refl)))
    (λ n. ⊎_elim (λ f. inl (f.0, inr (n, f.1))) (λ m. inr (n, m)) (first_or_none rs))

-- what holds of a call refused and of a call done holds of what was judged
pub either_way : {A B : Type 0} (P : A → Type 0) (rs : List (Rule B)) (refuse : B → A) (done : A)
    → ((why : B) → P (refuse why)) → (NoneOf rs → P done) → P (judged rs refuse done)
either_way P rs refuse done f g =
    ⊎_elim
    (λ h. subst P (sym (first-judged refuse done rs h.0 h.1)) (f h.0))
    (λ n. subst P (sym (none-judged refuse done rs n)) (g n))
    (first_or_none rs)

-- exactly when, of every list of rules: refusals that differ are told apart, and none is the outcome of a call that was done
pub exactly : {A B : Type 0} (rs : List (Rule B)) (refuse : B → A) (done : A)
    → ((x y : B) → refuse x ≡ refuse y → x ≡ y) → ((x : B) → refuse x ≡ done → ⊥) → Exactly rs refuse done (judged rs refuse done)
exactly rs refuse done same apart =
    record {
      refused = λ x. (
        λ e.
            ⊎_elim
            (λ f. subst (First rs) (same f.0 x (sym (first-judged refuse done rs f.0 f.1) ∙ e)) f.1)
            (λ n. absurd (apart x (sym e ∙ none-judged refuse done rs n)))
            (first_or_none rs),
        first-judged refuse done rs x,
      );
      accepted = (
        λ e.
            ⊎_elim
            (λ f. absurd (apart f.0 (sym (first-judged refuse done rs f.0 f.1) ∙ e)))
            (λ n. n)
            (first_or_none rs),
        none-judged refuse done rs,
      );
    }

-- two lists of rules that say the same: rule by rule, as long as none before applies
abbrev pub Alike : {B : Type 0} → List (Rule B) → List (Rule B) → Type 0
Alike [] [] = Unit {0}
Alike [] (q ∷ qs) = ⊥
Alike (r ∷ rs) [] = ⊥
Alike (r ∷ rs) (q ∷ qs) = (r.gives ≡ q.gives) × ((r.when.holds ↔ q.when.holds) × ((r.when.holds → ⊥) → Alike rs qs))

pub alike-back : {B : Type 0} (rs qs : List (Rule B)) → Alike rs qs → Alike qs rs
alike-back [] [] a = tt
alike-back [] (q ∷ qs) a = a
alike-back (r ∷ rs) [] a = a
alike-back (r ∷ rs) (q ∷ qs) a = (sym a.0, ((a.1.0.1, a.1.0.0), λ n. alike-back rs qs (a.1.1 (λ h. n (a.1.0.0 h)))))

pub first_alike : {B : Type 0} (rs qs : List (Rule B)) → Alike rs qs → (x : B) → First rs x → First qs x
first_alike [] [] a x f = f
first_alike [] (q ∷ qs) a x f = absurd a
first_alike (r ∷ rs) [] a x f = absurd a
first_alike (r ∷ rs) (q ∷ qs) a x f =
    ⊎_elim
    (λ (h : r.when.holds × (r.gives ≡ x)). inl (a.1.0.0 h.0, sym a.0 ∙ h.1))
    (λ (h : (r.when.holds → ⊥) × First rs x). inr ((λ w. h.0 (a.1.0.1 w)), first_alike rs qs (a.1.1 h.0) x h.1))
    f

pub none_alike : {B : Type 0} (rs qs : List (Rule B)) → Alike rs qs → NoneOf rs → NoneOf qs
none_alike [] [] a n = n
none_alike [] (q ∷ qs) a n = absurd a
none_alike (r ∷ rs) [] a n = absurd a
none_alike (r ∷ rs) (q ∷ qs) a n = ((λ w. n.0 (a.1.0.1 w)), none_alike rs qs (a.1.1 n.0) n.1)
