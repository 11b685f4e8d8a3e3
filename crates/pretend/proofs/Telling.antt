-- What telling the fields comes to, from what the writer of answers did. Assumes nothing.
use Prim.Native.Nat.{ℕ, ◌≤◌}
use mathlib.Core.Path.{◌≡◌, refl, sym, ap, ◌∙◌}
use mathlib.Core.Bool.{true}
use mathlib.Core.List.{List}
use mathlib.Core.Logic.{inl, inr, ⊎_elim}
use native.Mathlib.Omega.{arith}
use lib.ListN.{length}
use Rattle.refusals.specs.Put.{written, laid, refused as not-put}
use Rattle.refusals.specs.Put.{Bytes, Refused as NotPut}
use Rattle.refusals.specs.declared.Refusal.{Refusal}
use Rattle.refusals.proofs.Rules.{by_cases, certain, first-judged, none-judged, first_or_none}
use Rattle.refusals.proofs.Writing.{done-laid}
use Rattle.dispenser_frame_rules.specs.Answer.{answer_code, answer_fits, answer_frame, answer_refusals, write_answer}
use Rattle.dispenser_frame_rules.specs.declared.answer.Answer.{Answer}
use Rattle.dispenser_frame_rules.proofs.Codes.{answer-most}
use Rattle.pretend_rules.specs.Wire.{is_awaiting, sent}
use Rattle.pretend_rules.specs.Device.{suits, bytes_put, send, step_after, stepped, refused_step, done_after, tell_refusals, tell_step}
use Rattle.pretend_rules.specs.declared.wire.Wire.{Wire}
use Rattle.refusals.specs.declared.Declined.TheVariants.{Range}
use Rattle.pretend_rules.specs.declared.device.Happening.TheVariants.{Nothing}

module _ (w : Wire) (code : ℕ) (a : Answer) (r : List ℕ) (long : 21 ≤ length r) where
  module _ (waited : is_awaiting w.stand ≡ true) where
    pub tell-range : ((suits a code).holds → ⊥) → step_after (refused_step w Range) r ≡ tell_step w code a r
    unfolding tell_step tell_refusals
    tell-range n =
        sym (first-judged (λ why. step_after (refused_step w why) r) _ (tell_refusals w code a r) Range
        (inr ((λ h. omega arith), inl ((waited, n), refl))))

    -- the writer put so many bytes
    pub tell-sends : answer_code a ≡ code → (n : ℕ) (after : List ℕ) → write_answer a r ≡ written (Bytes n) after
        → step_after (stepped (sent w 1) n Nothing) after ≡ tell_step w code a r
    unfolding tell_step tell_refusals send write_answer answer_refusals
    tell-sends is n after e =
        let fit = certain (answer_fits a) (done-laid (answer_refusals a r) (answer_frame a) r n after e).none.1.0 in
        sym (none-judged (λ why. step_after (refused_step w why) r) _ (tell_refusals w code a r)
        ((λ h. omega arith), ((λ h. h.1 (is, fit)), ((λ h. h waited), tt)))
        ∙ ap (λ v. done_after (sent w 1) (bytes_put v.answer) Nothing v.room) e)

    -- the writer refused
    pub tell-refused : (why : Refusal) (after : List ℕ) → write_answer a r ≡ written (NotPut why) after
        → step_after (refused_step w Range) after ≡ tell_step w code a r
    unfolding write_answer answer_refusals
    tell-refused why after e =
        by_cases (answer_fits a)
        (λ fit.
        let d = none-judged (λ why. not-put why r) (laid (answer_frame a) r) (answer_refusals a r)
        ((λ h. omega (arith, answer-most (answer_code a))), ((λ h. h fit), tt)) in
        absurd (let f = ap (λ v. v.answer) (sym e ∙ d) in let z : ◌≡◌ {A = ℕ} 0 1 = cc in omega arith))
        (λ n.
        let kept : after ≡ r =
        ⊎_elim
        (λ f. ap (λ v. v.room) (sym e ∙ first-judged (λ why. not-put why r) (laid (answer_frame a) r) (answer_refusals a r) f.0 f.1))
        (λ none. absurd (n (certain (answer_fits a) none.1.0)))
        (first_or_none (answer_refusals a r)) in
        ap (λ (l : List ℕ). step_after (refused_step w Range) l) kept ∙ tell-range (λ h. n h.1))
