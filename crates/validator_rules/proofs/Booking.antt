-- What an answer to a POLL leaves: the count of each type and what is remembered agree with the history. Assumes nothing.
use Prim.Native.Nat.{ℕ, ◌+◌, ◌≤◌, ◌<◌}
use mathlib.Core.Path.{◌≡◌, refl, sym, ap, ◌∙◌}
use mathlib.Core.Bool.{Bool, true, false, true≢false, cond}
use mathlib.Core.List.{List, [], ◌∷◌}
use native.Mathlib.Omega.{arith}
use lib.Dec.{eqb}
use lib.ListN.{length, get_or, length-set}
use lib.Seq.{get_or-set_same, get_or-set_other}
use borrow.Author.Tests.{lt-ltb, le-leb}
use Rattle.std.specs.Prelude.{Option}
use Rattle.std.specs.Option.{option_eq}
use Rattle.refusals.specs.Rules.{Tells, Condition, same, under}
use Rattle.refusals.proofs.Rules.{pick, by_cases, cond-true, cond-false, holds-true, fails-false}
use Rattle.ccnet_class.specs.Class.{listed as in_List, class_of}
use Rattle.ccnet_class.specs.declared.Class.{Class}
use Rattle.ledger.specs.Line.{accepted}
use Rattle.validator_rules.specs.Limits.{command_limit, types}
use Rattle.validator_rules.specs.Bills.{bills, no_bill, a_bill, plus, booked_by, stacked_type, is_poll_answer, poll, credited, remembered}
use Rattle.validator_rules.specs.Calls.{Known, Past}
use Rattle.validator_rules.specs.History.{last_code, answer_to, reported, counted}
use Rattle.validator_rules.specs.declared.bills.Bills.{Bills}
use Rattle.validator_rules.specs.declared.line.Line.{Line}
use Rattle.validator_rules.proofs.Past.{listed-is, nothing-reported, nothing-counted, counted-one, counted_none, none-is-no-type, stacked-is}

-- ---- the types of two bills

same-bill-tells : (x y : Option ℕ) → Tells (option_eq eqb x y) (x ≡ y)
same-bill-tells no_bill no_bill = record { shown = λ e. refl; denied = λ e h. true≢false e }
same-bill-tells no_bill (a_bill b) = record { shown = λ e. absurd (true≢false (sym e)); denied = λ e h. none-is-no-type b h }
same-bill-tells (a_bill a) no_bill = record { shown = λ e. absurd (true≢false (sym e)); denied = λ e h. none-is-no-type a (sym h) }
same-bill-tells (a_bill a) (a_bill b) =
    let w = (same a b).tells in
    record { shown = λ e. ap a_bill (w.shown e); denied = λ e h. w.denied e (let p : a ≡ b = cc in p) }

-- twice the same type, or twice none
abbrev same_bill : Option ℕ → Option ℕ → Condition
same_bill x y = record { holds = x ≡ y; test = option_eq eqb x y; tells = same-bill-tells x y }

-- ---- one bill booked

module _ (bs : List Bills) where
  pub booked-many : (z : Option ℕ) → length (booked_by bs z) ≡ length bs
  unfolding booked_by
  booked-many no_bill = refl
  booked-many (a_bill z) = pick (λ (x : List Bills). length x ≡ length bs) (under z types) _ _ (λ h. length-set bs z _) (λ n. refl)

  -- the others stay
  pub booked-other : (z : Option ℕ) (y : ℕ) → (a_bill y ≡ z → ⊥) → get_or (booked_by bs z) y (bills 0) ≡ get_or bs y (bills 0)
  unfolding booked_by
  booked-other no_bill y n = refl
  booked-other (a_bill z) y n =
      pick (λ (x : List Bills). get_or x y (bills 0) ≡ get_or bs y (bills 0)) (under z types) _ _
      (λ h. get_or-set_other bs z y _ (bills 0) (λ e. n (ap a_bill e))) (λ m. refl)

  -- its own count grows by one, since it is far from the end of u32
  pub booked-same : (y : ℕ) → y < types → length bs ≡ types → (get_or bs y (bills 0)).0 < command_limit
      → (get_or (booked_by bs (a_bill y)) y (bills 0)).0 ≡ (get_or bs y (bills 0)).0 + 1
  unfolding booked_by plus
  booked-same y h l f =
      let n = (get_or bs y (bills 0)).0 in
      rw (lt-ltb y types h, le-leb (n + 1) 4_294_967_295 (omega arith))
      (ap (λ (x : Bills). x.0) (get_or-set_same bs y (bills (n + 1)) (bills 0) (omega arith)))

-- ---- what a step credits

module _ (code : ℕ) (last : Option ℕ) (c : Class) where
  pub credits-none : eqb code poll ≡ false → credited code last c ≡ no_bill
  unfolding credited
  credits-none e = rw e

  pub credits-repeat : eqb code poll ≡ true → stacked_type c ≡ last → credited code last c ≡ no_bill
  unfolding credited
  credits-repeat e f = simp (e, holds-true (same_bill (stacked_type c) last) f)

  pub credits-one : eqb code poll ≡ true → (stacked_type c ≡ last → ⊥) → credited code last c ≡ stacked_type c
  unfolding credited
  credits-one e f = simp (e, fails-false (same_bill (stacked_type c) last) f)

-- ---- the parts of a session that only requests and answers change

pub record Base (l : Line) (bs : List Bills) (h : Past) : Type 0 where
  pub accepted-is : l.accepted ≡ accepted h
  pub few : l.accepted ≤ command_limit
  pub code_is : l.code ≡ last_code h
  pub last-is : l.last ≡ stacked_type (class_of (reported h))
  pub many : length bs ≡ types
  pub counts : (y : ℕ) → y < types → (get_or bs y (bills 0)).0 ≡ counted y h

-- fewer bills of each type than commands accepted
abbrev pub Fewer : Past → Type 0
Fewer h = (y : ℕ) → y < types → counted y h < accepted h

module _ (l : Line) (bs : List Bills) (h : Past) (base : Base l bs h) (fewer : Fewer h)
    (e : Known) (body : List ℕ) (is : answer_to poll e h ≡ cond (eqb l.code poll) body [])
    (class : Class) (of-poll : eqb l.code poll ≡ true → class ≡ class_of body) where
  -- what is remembered
  memory-after : remembered l.code l.last class ≡ stacked_type (class_of (reported (e ∷ h)))
  unfolding remembered reported
  memory-after = by (eqb l.code poll) refl
    where
      by : (t : Bool) → eqb l.code poll ≡ t → remembered l.code l.last class ≡ stacked_type (class_of (reported (e ∷ h)))
      by true t =
          let b : answer_to poll e h ≡ body = is ∙ cond-true body [] t in
          let m : remembered l.code l.last class ≡ cond (is_poll_answer class) (stacked_type class) l.last = rw t in
          let q : reported (e ∷ h) ≡ cond (in_List body).test body (reported h) = rw b in
          let r : reported (e ∷ h) ≡ cond (is_poll_answer class) body (reported h) =
          q ∙ ap (λ (u : Bool). cond u body (reported h)) (listed-is body ∙ ap is_poll_answer (sym (of-poll t))) in
          m ∙ listed (is_poll_answer class) (ap stacked_type (of-poll t)) ∙ ap (λ (s : List ℕ). stacked_type (class_of s)) (sym r)
        where
          listed : (u : Bool) → stacked_type class ≡ stacked_type (class_of body) → cond u (stacked_type class) l.last ≡ stacked_type (class_of (cond u body (reported h)))
          listed true same-type = same-type
          listed false same-type = base.last-is
      by false t =
          let b : answer_to poll e h ≡ [] = is ∙ cond-false body [] t in
          let m : remembered l.code l.last class ≡ l.last = rw t in
          m ∙ base.last-is ∙ ap (λ (s : List ℕ). stacked_type (class_of s)) (sym (nothing-reported e h b))

  -- the count of each type
  module _ (y : ℕ) (small : y < types) where
    stays : counted y (e ∷ h) ≡ counted y h → (z : Option ℕ) → (a_bill y ≡ z → ⊥) → (get_or (booked_by bs z) y (bills 0)).0 ≡ counted y (e ∷ h)
    stays same z n = ap (λ (x : Bills). x.0) (booked-other bs z y n) ∙ base.counts y small ∙ sym same

    not-none : a_bill y ≡ no_bill → ⊥
    not-none f = none-is-no-type y (sym f)

    to-a-poll : eqb l.code poll ≡ true → (get_or (booked_by bs (credited l.code l.last class)) y (bills 0)).0 ≡ counted y (e ∷ h)
    to-a-poll t =
        let b : answer_to poll e h ≡ body = is ∙ cond-true body [] t in
        let of : stacked_type class ≡ stacked_type (class_of body) = ap stacked_type (of-poll t) in
        by_cases (same_bill (stacked_type class) l.last)
        (λ repeat.
        rw (credits-repeat l.code l.last class t repeat)
        (stays
        (counted_none y e h (λ a.
        let k : stacked_type class ≡ a_bill y = of ∙ (stacked-is body y small).1 (sym b ∙ a.0) in
        a.1 ((stacked-is (reported h) y small).0 (sym base.last-is ∙ sym repeat ∙ k))))
        no_bill not-none))
        (λ new.
        rw (credits-one l.code l.last class t new)
        (by_cases (same_bill (a_bill y) (stacked_type class))
        (λ k.
        rw (sym k)
        (booked-same bs y small base.many (omega (arith, fewer y small, base.counts y small, base.accepted-is, base.few))
        ∙ ap (λ (n : ℕ). n + 1) (base.counts y small)
        ∙ sym (counted-one y e h (
          b ∙ (stacked-is body y small).0 (sym of ∙ sym k),
          λ r. new (sym k ∙ sym ((stacked-is (reported h) y small).1 r) ∙ sym base.last-is),
        ))))
        (λ n.
        stays (counted_none y e h (λ a. n (sym (of ∙ (stacked-is body y small).1 (sym b ∙ a.0))))) (stacked_type class) n)))

    to-another : eqb l.code poll ≡ false → (get_or (booked_by bs (credited l.code l.last class)) y (bills 0)).0 ≡ counted y (e ∷ h)
    to-another t =
        let b : answer_to poll e h ≡ [] = is ∙ cond-false body [] t in
        rw (credits-none l.code l.last class t) (stays (nothing-counted y e h b) no_bill not-none)

    counts-after : (get_or (booked_by bs (credited l.code l.last class)) y (bills 0)).0 ≡ counted y (e ∷ h)
    counts-after = by (eqb l.code poll) refl
      where
        by : (t : Bool) → eqb l.code poll ≡ t → (get_or (booked_by bs (credited l.code l.last class)) y (bills 0)).0 ≡ counted y (e ∷ h)
        by true t = to-a-poll t
        by false t = to-another t

  -- the whole
  pub answered-base : (m : Line) → m.accepted ≡ l.accepted → m.code ≡ l.code → m.last ≡ remembered l.code l.last class
      → accepted (e ∷ h) ≡ accepted h → last_code (e ∷ h) ≡ last_code h
      → Base m (booked_by bs (credited l.code l.last class)) (e ∷ h)
  answered-base m ma mc ml ea ec =
      record {
        accepted-is = ma ∙ base.accepted-is ∙ sym ea;
        few = omega (arith, ma, base.few);
        code_is = mc ∙ base.code_is ∙ sym ec;
        last-is = ml ∙ memory-after;
        many = booked-many bs _ ∙ base.many;
        counts = counts-after;
      }

-- nothing completed: all of it stays
pub same_base : (l m : Line) (bs : List Bills) (h : Past) → Base l bs h → m.accepted ≡ l.accepted → m.code ≡ l.code → m.last ≡ l.last
    → (e : Known) → answer_to poll e h ≡ [] → accepted (e ∷ h) ≡ accepted h → last_code (e ∷ h) ≡ last_code h → Base m bs (e ∷ h)
same_base l m bs h base ma mc ml e none ea ec =
    record {
      accepted-is = ma ∙ base.accepted-is ∙ sym ea;
      few = omega (arith, ma, base.few);
      code_is = mc ∙ base.code_is ∙ sym ec;
      last-is = ml ∙ base.last-is ∙ ap (λ (s : List ℕ). stacked_type (class_of s)) (sym (nothing-reported e h none));
      many = base.many;
      counts = λ y small. base.counts y small ∙ sym (nothing-counted y e h none);
    }
