-- The command for a plan asks for its counts and can be sent, and nothing is sent exactly where the amount is 0. Assumes nothing.
use Rattle.std.specs.Prelude.{Some}
use Prim.Native.Nat.{ℕ, ◌≤◌}
use mathlib.Core.Path.{◌≡◌, refl, subst, ap₂}
use mathlib.Core.List.{List}
use mathlib.Core.Logic.{inl, inr, ⊎_elim}
use native.Mathlib.Omega.{arith}
use Rattle.refusals.specs.Rules.{same, both}
use Rattle.refusals.proofs.Rules.{pick, holds-true}
use Rattle.payout.specs.Plan.{in_range, Right}
use Rattle.payout.specs.Planned.{Two, Four}
use Rattle.payout.proofs.Exact.{no-notes, dispensed}
use Rattle.dispenser_frame_rules.specs.Table.{table, code_in, line_in, pay_upper_code, pay_lower_code, pay_both_code}
use Rattle.dispenser_frame_rules.specs.Command.{counts_fit, sendable}
use Rattle.payout_command.specs.Command.{command_for}
use Rattle.payout_command.specs.Promises.{Sent}
use Rattle.payout_command.specs.Sent.{Command}
use Rattle.payout_command.specs.Sent.{Nothing, Send}

-- ---- each of the three can be sent

some : (n : ℕ) → ((n ≡ 0) → ⊥) → 1 ≤ n
some n h = omega (arith, h)

upper-sent : (a b : ℕ) → ((a ≡ 0) → ⊥) → b ≡ 0 → a ≤ 60 → (sendable pay_upper_code a b).holds
unfolding sendable counts_fit table code_in line_in
upper-sent a b n e h = (inr (inl refl), ((some a n, h), e))

lower-sent : (a b : ℕ) → a ≡ 0 → ((b ≡ 0) → ⊥) → b ≤ 60 → (sendable pay_lower_code a b).holds
unfolding sendable counts_fit table code_in line_in
lower-sent a b e n h = (inr (inr (inr (inl refl))), (e, (some b n, h)))

both-sent : (a b : ℕ) → ((a ≡ 0) → ⊥) → ((b ≡ 0) → ⊥) → a ≤ 60 → b ≤ 60 → (sendable pay_both_code a b).holds
unfolding sendable counts_fit table code_in line_in
both-sent a b n m h g = (inr (inr (inr (inr (inl refl)))), ((some a n, h), (some b m, g)))

-- ---- what a command says of the counts that it was made of

abbrev Says : ℕ → ℕ → Command → Type 0
Says a b Nothing = (a ≡ 0) × (b ≡ 0)
Says a b (Some command) =
    (((a ≡ 0) × (b ≡ 0)) → ⊥) × ((command.upper ≡ a) × (command.lower ≡ b)) × (a ≤ 60 → b ≤ 60 → (sendable command.code command.upper command.lower).holds)

says : (a b : ℕ) → Says a b (command_for a b)
unfolding command_for
says a b =
    pick (Says a b) (both (same b 0) (same a 0)) Nothing _ (λ e. (e.1, e.0)) (λ n.
    pick (Says a b) (same b 0) (Send pay_upper_code a b) _
    (λ e. ((λ z. n (z.1, z.0)), (refl, refl), λ h g. upper-sent a b (λ z. n (e, z)) e h)) (λ m.
    pick (Says a b) (same a 0) (Send pay_lower_code a b) (Send pay_both_code a b)
    (λ e. ((λ z. m z.1), (refl, refl), λ h g. lower-sent a b e m g))
    (λ k. ((λ z. k z.0), (refl, refl), both-sent a b k m))))

said : (a b : ℕ) (c : Command) → command_for a b ≡ c → Says a b c
said a b c e = subst (Says a b) e (says a b)

-- ---- of a plan

-- nothing is sent, so no notes are taken, and the amount is 0
none-amount : (values stocks : List ℕ) (amount a b : ℕ) → Right values stocks amount (Two a b) → command_for a b ≡ Nothing → amount ≡ 0
none-amount values stocks amount a b p e =
    let z = said a b Nothing e in no-notes.two values stocks amount (subst (Right values stocks amount) (ap₂ Two z.0 z.1) p)

-- the amount is 0, so no notes are taken, and nothing is sent
amount-none : (values stocks : List ℕ) (amount a b : ℕ) → Right values stocks amount (Two a b) → amount ≡ 0 → command_for a b ≡ Nothing
unfolding Right command_for
amount-none values stocks amount a b p e =
    ⊎_elim
    (λ (z : Two a b ≡ Two 0 0). let ea : a ≡ 0 = cc in let eb : b ≡ 0 = cc in rw (ea, eb))
    (λ (z : Two a b ≡ Four 0 0 0 0). let w : ◌≡◌ {A = ℕ} 0 1 = cc in absurd (omega arith))
    (no-notes.zero values stocks (Two a b) (subst (λ (n : ℕ). (in_range values stocks n).holds) e p.0) (subst (λ (n : ℕ). Right values stocks n (Two a b)) e p))

pub sent : Sent
sent =
    record {
      counts = λ a b code upper lower e. (said a b (Send code upper lower) e).1;
      taken = λ values stocks amount a b code upper lower p e.
          let d = dispensed.two values stocks amount a b p in
          holds-true (sendable code upper lower) ((said a b (Send code upper lower) e).2 d.0 d.1);
      nothing = λ values stocks amount a b p. (none-amount values stocks amount a b p, amount-none values stocks amount a b p);
    }
