-- The bill table after a call is the one that the history gives: only a byte that ends the answer to GET BILL TABLE brings one, and it is that answer's body. Assumes nothing.
use Prim.Native.Nat.{ℕ, ◌+◌, ◌≤◌, ◌<◌}
use mathlib.Core.Path.{◌≡◌, refl, sym, ap, ap₂, ◌∙◌}
use mathlib.Core.Bool.{false, true≢false}
use mathlib.Core.List.{List, [], ◌∷◌, ◌++◌}
use native.Mathlib.Omega.{arith}
use lib.ListN.{length, take, set}
use Rattle.refusals.specs.Rules.{same, under, at_most, within}
use Rattle.refusals.proofs.Rules.{holds-true, fails-false, by_cases, cond-true, cond-false, pick}
use Rattle.ccnet_class.specs.declared.Class.{Class}
use Rattle.ccnet_class.specs.declared.Class.TheVariants.{Ack, Nak, Illegal, State, Busy, Rejecting, Failing, Escrow, Stacked, Returned, Unknown, Table}
use Rattle.ccnet_class.proofs.Classes.{classes}
use Rattle.bill_table.specs.Table.{filled, read_table}
use Rattle.ledger.specs.Events.{asks, hears, waits, closes, done, since}
use Rattle.ledger.specs.Calls.{Returned as Gave, gave, did, told}
use Rattle.validator_rules.specs.Line.{start_byte, address_byte, length_byte, further_byte, answer_byte, heard_in, heard}
use Rattle.validator_rules.specs.Session.{HeardAfter, damaged_step, answered_step, class_step, says_table, inner, table_said, table_found, found, judged_step, judge_step, byte_acted}
use Rattle.validator_rules.specs.History.{last_code, from_start, between, answer_to, table_by, Says, Truly}
use Rattle.validator_rules.specs.Calls.{Request, answered, Known, Past, returned, ending}
use Rattle.validator_rules.specs.declared.session.Closing.{Closing}
use Rattle.validator_rules.specs.Found.{Found}
use Rattle.validator_rules.specs.Found.{Bad, Good}
use Rattle.validator_rules.specs.declared.line.Phase.{Phase}
use Rattle.validator_rules.specs.declared.line.Phase.TheVariants.{Idle, Start, Inside}
use Rattle.validator_rules.specs.declared.line.Line.{Line}
use Rattle.validator_rules.specs.declared.line.Heard.{Heard}
use Rattle.validator_rules.specs.declared.line.Heard.TheVariants.{Skip, Keep, Judge, Wrong}
use Rattle.validator_rules.specs.declared.line.Hearing.{Hearing}

-- ---- calls that bring no table

pub no_table : (e : Known) (h : Past) → answer_to 0x41 e h ≡ [] → table_by (e ∷ h) ≡ table_by h
unfolding table_by
no_table e h z = rw z

pub asked-table : (q : Request) (p : Gave Closing) (room : List ℕ) (h : Past) → table_by (told ending (asks q) p room ∷ h) ≡ table_by h
asked-table q (gave why) room h = no_table _ h refl
asked-table q (did n c) room h = no_table _ h refl

pub waited-table : (ms : ℕ) (p : Gave Closing) (room : List ℕ) (h : Past) → table_by (told ending (waits ms) p room ∷ h) ≡ table_by h
waited-table ms (gave why) room h = no_table _ h refl
waited-table ms (did n c) room h = no_table _ h refl

-- ---- the byte that ends an answer

-- a table is the frame's body, filled up with zeros: nothing is left of the one before it
said-filled : (f table body : List ℕ) → inner f ≡ body → length body ≤ 120 → table_said Table f table ≡ filled body
unfolding table_said read_table filled
said-filled f table body is few = simp (is, holds-true (at_most (length body) 120) few)

module _ (h : Past) (b : ℕ) (put : List ℕ) (c : Class) (says : Says (last_code h) (answered c) (from_start (since h ++ (b ∷ [])))) where
  abbrev body : List ℕ
  body = between (from_start (since h ++ (b ∷ [])))

  abbrev answer : Known
  answer = done (hears b) put (closes (answered c))

  to-table : last_code h ≡ 0x41 → answer_to 0x41 answer h ≡ body
  to-table q = cond-true body [] (holds-true (same (last_code h) 0x41) q)

  to-another : (last_code h ≡ 0x41 → ⊥) → answer_to 0x41 answer h ≡ []
  to-another n = cond-false body [] (fails-false (same (last_code h) 0x41) n)

  -- any other class: the old table holds
  other-kept : says_table c ≡ false → table_by (answer ∷ h) ≡ table_by h
  unfolding table_by
  other-kept no_sign =
      by_cases (same (last_code h) 0x41)
      (λ q.
      let long : length body ≤ 120 → ⊥ = λ few. true≢false (sym (ap says_table ((says.1.1.0 q).0 few)) ∙ no_sign) in
      rw (to-table q) (cond-false _ _ (fails-false (within 1 120 (length body)) (λ w. long w.1))))
      (λ n. no_table answer h (to-another n))

  -- the table: in answer to GET BILL TABLE, and of at most 120 bytes
  table-held : c ≡ Table → table_by (answer ∷ h) ≡ filled body
  unfolding table_by filled
  table-held is =
      by_cases (same (last_code h) 0x41)
      (λ q.
      by_cases (at_most (length body) 120)
      (λ few. rw (to-table q) (cond-true _ _ (holds-true (within 1 120 (length body)) (says.0.1.0, few))))
      (λ many.
      absurd (let u = (says.1.1.0 q).1 (omega (arith, many)) in let v : Table ≡ Unknown = sym is ∙ u in let z : ◌≡◌ {A = ℕ} 0 1 = cc in omega arith)))
      (λ n. absurd (classes.no_table body (sym (says.1.1.1 n) ∙ is)))

  table-few : c ≡ Table → length body ≤ 120
  table-few is =
      by_cases (same (last_code h) 0x41)
      (λ q.
      by_cases (at_most (length body) 120) (λ few. few)
      (λ many.
      absurd (let u = (says.1.1.0 q).1 (omega (arith, many)) in let v : Table ≡ Unknown = sym is ∙ u in let z : ◌≡◌ {A = ℕ} 0 1 = cc in omega arith)))
      (λ n. absurd (classes.no_table body (sym (says.1.1.1 n) ∙ is)))

  -- a frame that is those bytes leaves the table that the history gives
  module _ (f table : List ℕ) (whole : f ≡ from_start (since h ++ (b ∷ []))) (held : table ≡ table_by h) where
    said-other : says_table c ≡ false → table_said c f table ≡ table_by (answer ∷ h)
    unfolding table_said
    said-other no_sign = cond-false _ _ no_sign ∙ held ∙ sym (other-kept no_sign)

    said-table : c ≡ Table → table_said c f table ≡ table_by (answer ∷ h)
    unfolding between
    said-table is =
        ap₂ (λ (x : Class) (y : List ℕ). table_said x y table) is whole ∙ said-filled (from_start (since h ++ (b ∷ []))) table body refl (table-few is) ∙ sym (table-held is)

-- ---- a byte

module _ (l : Line) (h : Past) (b : ℕ) (table : List ℕ) (held : table ≡ table_by h) (r : List ℕ) where
  -- the call as a caller knows it
  abbrev known : HeardAfter → Known
  known w = told ending (hears b) (returned w.lent.step.reply) w.lent.room

  abbrev Holds : HeardAfter → Type 0
  Holds w = Truly (known w ∷ h) → w.table ≡ table_by (known w ∷ h)

  module _ (n : ℕ) (store : List ℕ) (whole : take n store ≡ from_start (since h ++ (b ∷ []))) where
    -- by what the frame says
    class-held : (c : Class) → Truly (told ending (hears b) (returned (class_step c l r).step.reply) (class_step c l r).room ∷ h)
        → table_said c (take n store) table ≡ table_by (told ending (hears b) (returned (class_step c l r).step.reply) (class_step c l r).room ∷ h)
    unfolding answered_step Truly table_said
    class-held Ack t = held ∙ sym (no_table _ h refl)
    class-held Nak t = held ∙ sym (no_table _ h refl)
    class-held Illegal t = held ∙ sym (no_table _ h refl)
    class-held (State x) t = said-other h b _ (State x) t.0.1 (take n store) table whole held refl
    class-held (Busy x) t = said-other h b _ (Busy x) t.0.1 (take n store) table whole held refl
    class-held (Rejecting x) t = said-other h b _ (Rejecting x) t.0.1 (take n store) table whole held refl
    class-held (Failing x) t = said-other h b _ (Failing x) t.0.1 (take n store) table whole held refl
    class-held (Escrow x) t = said-other h b _ (Escrow x) t.0.1 (take n store) table whole held refl
    class-held (Stacked x) t = said-other h b _ (Stacked x) t.0.1 (take n store) table whole held refl
    class-held (Returned x) t = said-other h b _ (Returned x) t.0.1 (take n store) table whole held refl
    class-held Unknown t = said-other h b _ Unknown t.0.1 (take n store) table whole held refl
    class-held Table t = said-table h b _ Table t.0.1 (take n store) table whole held refl

    judged-held : Holds (judge_step l n store table r)
    unfolding judge_step damaged_step
    judged-held = by (found l.code (take n store))
      where
        by : (x : Found) → Truly (told ending (hears b) (returned (judged_step x l r).step.reply) (judged_step x l r).room ∷ h)
            → table_found x (take n store) table ≡ table_by (told ending (hears b) (returned (judged_step x l r).step.reply) (judged_step x l r).room ∷ h)
        by Bad t = held ∙ sym (no_table _ h refl)
        by (Good c) t = class-held c t

  -- by what the byte is
  pub heard-held : (x : Heard) (n : ℕ) (store : List ℕ) (at : ℕ) → (x ≡ Judge → take n (set store at b) ≡ from_start (since h ++ (b ∷ [])))
      → Holds (byte_acted x l n store table at b r)
  unfolding damaged_step
  heard-held Skip n store at whole t = held ∙ sym (no_table _ h refl)
  heard-held Keep n store at whole t = held ∙ sym (no_table _ h refl)
  heard-held Judge n store at whole t = judged-held n (set store at b) (whole refl) t
  heard-held Wrong n store at whole t = held ∙ sym (no_table _ h refl)

-- ---- a frame is judged where it is full, and nowhere else

module _ (l : Line) (b : ℕ) where
  abbrev Full : Hearing → Type 0
  Full t = t.heard ≡ Judge → (l.phase ≡ Inside) × (l.gathered + 1 < l.length → ⊥)

  inside-full : l.phase ≡ Inside → Full (answer_byte l b)
  unfolding answer_byte address_byte length_byte further_byte
  inside-full p =
      pick Full (same l.gathered 1) _ _
      (λ g. pick Full (same b 0x03) _ _
      (λ e q. absurd (let z : ◌≡◌ {A = ℕ} 0 1 = cc in omega arith))
      (λ e q. absurd (let z : ◌≡◌ {A = ℕ} 0 1 = cc in omega arith)))
      (λ g. pick Full (same l.gathered 2) _ _
      (λ k. pick Full (under b 6) _ _
      (λ e q. absurd (let z : ◌≡◌ {A = ℕ} 0 1 = cc in omega arith))
      (λ e q. absurd (let z : ◌≡◌ {A = ℕ} 0 1 = cc in omega arith)))
      (λ k. pick Full (under (l.gathered + 1) l.length) _ _
      (λ e q. absurd (let z : ◌≡◌ {A = ℕ} 0 1 = cc in omega arith))
      (λ e q. (p, e))))

  pub judged-full : Full (heard l b)
  unfolding heard start_byte
  judged-full = by l.phase refl
    where
      by : (p : Phase) → l.phase ≡ p → Full (heard_in p l b)
      by Idle e = λ q. absurd (let z : ◌≡◌ {A = ℕ} 0 1 = cc in omega arith)
      by Start e =
          pick Full (same b 0x02) _ _
          (λ s q. absurd (let z : ◌≡◌ {A = ℕ} 0 1 = cc in omega arith))
          (λ s q. absurd (let z : ◌≡◌ {A = ℕ} 0 1 = cc in omega arith))
      by Inside e = inside-full e
