-- Laws of what a history gives: bytes gathered, answers reported, bills counted. Assumes nothing.
use Prim.Native.Nat.{ℕ, zero, suc, ◌+◌, ◌-◌, ◌≤◌, ◌<◌}
use mathlib.Core.Path.{◌≡◌, refl, sym, ap, ◌∙◌}
use mathlib.Core.Bool.{Bool, true, false, cond}
use mathlib.Core.List.{List, [], ◌∷◌, ◌++◌}
use mathlib.Core.Logic.{◌↔◌, inl, inr, ⊎_elim}
use native.Mathlib.Omega.{arith}
use native.Mathlib.Nat.{le_refl}
use lib.Dec.{eqb, lit<}
use lib.ListN.{length, get_or, set, replicate}
use Rattle.numbers.specs.Promises.{AllBytes}
use Rattle.refusals.specs.Rules.{same, both}
use Rattle.refusals.proofs.Rules.{holds-true, fails-false, cond-true, cond-false, pick}
use Rattle.ccnet_frame.specs.Frame.{closed as with-check, frame}
use Rattle.ccnet_class.specs.Class.{is_state, is_rejection, is_failure, is_type, one_byte, two_bytes, listed, class_of, class_bytes}
use Rattle.ccnet_class.specs.declared.Class.{Class}
use Rattle.ccnet_class.specs.declared.Class.TheVariants.{Ack, Nak, Illegal, State, Busy, Rejecting, Failing, Escrow, Stacked, Returned, Unknown, Table}
use Rattle.ccnet_class.proofs.Classes.{classes}
use Rattle.validator_rules.specs.Limits.{types}
use Rattle.validator_rules.specs.Bills.{no_bill, a_bill, stacked_type, is_poll_answer, poll}
use Rattle.validator_rules.specs.Calls.{Known, Past}
use Rattle.validator_rules.specs.History.{from_start, answer_to, reported, adds, counted}

-- ---- the bytes from 02h on

-- before 02h has come: the next byte is it, or there is still none
pub start-next : (s : List ℕ) (b : ℕ) → from_start s ≡ [] → from_start (s ++ (b ∷ [])) ≡ cond (eqb b 0x02) (b ∷ []) []
unfolding from_start
start-next [] b e = refl
start-next (a ∷ s) b e = by (start-next s b) (eqb a 0x02) e
  where
    by : (from_start s ≡ [] → from_start (s ++ (b ∷ [])) ≡ cond (eqb b 0x02) (b ∷ []) []) → (t : Bool) → cond t (a ∷ s) (from_start s) ≡ []
        → cond t (a ∷ s ++ (b ∷ [])) (from_start (s ++ (b ∷ []))) ≡ cond (eqb b 0x02) (b ∷ []) []
    by again true f = absurd (let z : length (a ∷ s) ≡ length {A = ℕ} [] = ap length f in omega arith)
    by again false f = again f

-- once it has come, every byte counts
pub start-more : (s t : List ℕ) → 1 ≤ length (from_start s) → from_start (s ++ t) ≡ from_start s ++ t
unfolding from_start
start-more [] t h = absurd (omega arith)
start-more (a ∷ s) t h = by (start-more s t) (eqb a 0x02) h
  where
    by : (1 ≤ length (from_start s) → from_start (s ++ t) ≡ from_start s ++ t) → (u : Bool) → 1 ≤ length (cond u (a ∷ s) (from_start s))
        → cond u (a ∷ s ++ t) (from_start (s ++ t)) ≡ cond u (a ∷ s) (from_start s) ++ t
    by again true f = refl
    by again false f = again f

-- ---- a frame

-- the address stands behind 02h, and then the length
pub second : (a : ℕ) (body : List ℕ) → get_or (frame a body) 1 0 ≡ a
unfolding frame with-check
second a body = refl

pub third : (a : ℕ) (body : List ℕ) → get_or (frame a body) 2 0 ≡ 5 + length body
unfolding frame with-check
third a body = refl

-- ---- bytes in the store, then zeros

-- one byte more at its place
pub store-more : (g : List ℕ) (b k : ℕ) → 1 ≤ k → set (g ++ replicate k 0) (length g) b ≡ (g ++ (b ∷ [])) ++ replicate (k - 1) 0
store-more [] b zero h = absurd (omega arith)
store-more [] b (suc k) h =
    let e : suc k - 1 ≡ k = omega arith in
    rw e
store-more (a ∷ g) b k h = ap (λ (s : List ℕ). a ∷ s) (store-more g b k h)

-- ---- bytes

pub bytes-more : (g : List ℕ) (b : ℕ) → AllBytes g → b < 256 → AllBytes (g ++ (b ∷ []))
bytes-more [] b bytes small zero = small
bytes-more [] b bytes small (suc i) = lit< tt
bytes-more (a ∷ g) b bytes small zero = bytes 0
bytes-more (a ∷ g) b bytes small (suc i) = bytes-more g b (λ j. bytes (suc j)) small i

-- ---- answers

-- nothing completed: nothing reported, nothing counted
pub nothing-reported : (e : Known) (h : Past) → answer_to poll e h ≡ [] → reported (e ∷ h) ≡ reported h
unfolding reported
nothing-reported e h z = rw z

pub nothing-counted : (y : ℕ) (e : Known) (h : Past) → answer_to poll e h ≡ [] → counted y (e ∷ h) ≡ counted y h
unfolding counted
nothing-counted y e h z = rw z

none-of-three : (a : ℕ) → (a ≡ 0x80 → ⊥) → (a ≡ 0x81 → ⊥) → (a ≡ 0x82 → ⊥) → 0x80 ≤ a → a ≤ 0x82 → ⊥
none-of-three a n m k least most = omega arith

-- a body is listed by its bytes exactly where its class is a poll answer's
pub listed-is : (s : List ℕ) → (listed s).test ≡ is_poll_answer (class_of s)
unfolding class_of one_byte two_bytes
listed-is [] = refl
listed-is (b ∷ []) =
    let P : Class → Type 0 = λ c. (is_state b).test ≡ is_poll_answer c in
    pick P (same b 0x00) _ _ (λ e. ap (λ (x : ℕ). (is_state x).test) e)
    (λ n. pick P (same b 0xFF) _ _ (λ e. ap (λ (x : ℕ). (is_state x).test) e)
    (λ n. pick P (same b 0x30) _ _ (λ e. ap (λ (x : ℕ). (is_state x).test) e)
    (λ n. pick P (is_state b) _ _ (λ h. holds-true (is_state b) h) (λ n. fails-false (is_state b) n))))
listed-is (a ∷ b ∷ []) =
    let l = listed (a ∷ b ∷ []) in
    let P : Class → Type 0 = λ c. l.test ≡ is_poll_answer c in
    pick P (same a 0x1B) _ _ (λ h. holds-true l (inl h))
    (λ n1. pick P (both (same a 0x1C) (is_rejection b)) _ _ (λ h. holds-true l (inr (inl h)))
    (λ n2. pick P (both (same a 0x47) (is_failure b)) _ _ (λ h. holds-true l (inr (inr (inl h))))
    (λ n3. pick P (both (same a 0x80) (is_type b)) _ _ (λ h. holds-true l (inr (inr (inr ((omega (arith, h.0), omega (arith, h.0)), h.1)))))
    (λ n4. pick P (both (same a 0x81) (is_type b)) _ _ (λ h. holds-true l (inr (inr (inr ((omega (arith, h.0), omega (arith, h.0)), h.1)))))
    (λ n5. pick P (both (same a 0x82) (is_type b)) _ _ (λ h. holds-true l (inr (inr (inr ((omega (arith, h.0), omega (arith, h.0)), h.1)))))
    (λ n6. fails-false l (⊎_elim n1 (⊎_elim n2 (⊎_elim n3 (λ h. none-of-three a (λ e. n4 (e, h.1)) (λ e. n5 (e, h.1)) (λ e. n6 (e, h.1)) h.0.0 h.0.1))))))))))
listed-is (a ∷ b ∷ c ∷ s) = refl

-- one call adds one bill at most
pub counted-most : (y : ℕ) (e : Known) (h : Past) → counted y (e ∷ h) ≤ counted y h + 1
unfolding counted
counted-most y e h = by (adds y e h).test
  where
    by : (t : Bool) → cond t (counted y h + 1) (counted y h) ≤ counted y h + 1
    by true = le_refl _
    by false = omega arith

pub counted-one : (y : ℕ) (e : Known) (h : Past) → (adds y e h).holds → counted y (e ∷ h) ≡ counted y h + 1
unfolding counted
counted-one y e h a = cond-true _ _ (holds-true (adds y e h) a)

pub counted_none : (y : ℕ) (e : Known) (h : Past) → ((adds y e h).holds → ⊥) → counted y (e ∷ h) ≡ counted y h
unfolding counted
counted_none y e h a = cond-false _ _ (fails-false (adds y e h) a)

pub none-is-no-type : (y : ℕ) → no_bill ≡ a_bill y → ⊥
none-is-no-type y e = (let z : ◌≡◌ {A = ℕ} 0 1 = cc in omega arith)

-- a body says that type y was stacked exactly if it is 81h y
stacked-bytes : (c : Class) (y : ℕ) → stacked_type c ≡ a_bill y → c ≡ Stacked y
stacked-bytes (Stacked b) y e = (let p : b ≡ y = cc in ap Stacked p)
stacked-bytes Ack y e = absurd (none-is-no-type y e)
stacked-bytes Nak y e = absurd (none-is-no-type y e)
stacked-bytes Illegal y e = absurd (none-is-no-type y e)
stacked-bytes (State b) y e = absurd (none-is-no-type y e)
stacked-bytes (Busy b) y e = absurd (none-is-no-type y e)
stacked-bytes (Rejecting b) y e = absurd (none-is-no-type y e)
stacked-bytes (Failing b) y e = absurd (none-is-no-type y e)
stacked-bytes (Escrow b) y e = absurd (none-is-no-type y e)
stacked-bytes (Returned b) y e = absurd (none-is-no-type y e)
stacked-bytes Unknown y e = absurd (none-is-no-type y e)
stacked-bytes Table y e = absurd (none-is-no-type y e)

pub stacked-is : (s : List ℕ) (y : ℕ) → y < types → (stacked_type (class_of s) ≡ a_bill y) ↔ (s ≡ 0x81 ∷ y ∷ [])
stacked-is s y h = (
  λ e.
      let c = stacked-bytes (class_of s) y e in
      let known : class_of s ≡ Unknown → ⊥ = λ u. (let f : Stacked y ≡ Unknown = sym c ∙ u in let z : ◌≡◌ {A = ℕ} 0 1 = cc in omega arith) in
      sym (classes.again s known).1 ∙ ap class_bytes c,
  λ e. ap (λ (t : List ℕ). stacked_type (class_of t)) e ∙ ap stacked_type (classes.back (Stacked y) (omega arith, omega arith)),
)
