-- What a body says in answer to a command: as ever, but that in answer to GET BILL TABLE all but the three that close without a reply are the table, or too long. Assumes nothing.
use Prim.Native.Nat.{ℕ}
use mathlib.Core.Path.{◌≡◌, refl, sym, ap, ◌∙◌}
use mathlib.Core.Bool.{Bool, true, false, true≢false}
use mathlib.Core.List.{List}
use native.Mathlib.Omega.{arith}
use Rattle.refusals.specs.Rules.{same}
use Rattle.refusals.proofs.Rules.{holds-true, fails-false, by_cases, cond-true, cond-false, pick}
use Rattle.ccnet_class.specs.Class.{class_of, class_bytes, is_named}
use Rattle.ccnet_class.specs.declared.Class.{Class}
use Rattle.ccnet_class.specs.declared.Class.TheVariants.{Ack, Nak, Illegal, State, Busy, Rejecting, Failing, Escrow, Stacked, Returned, Unknown, Table}
use Rattle.ccnet_class.proofs.Classes.{classes}
use Rattle.bill_table.specs.Table.{is_table}
use Rattle.validator_rules.specs.Session.{get_table, table_or, table_class, class_to}
use Rattle.validator_rules.specs.History.{Other, Means}

-- bodies that get a reply
abbrev pub replied : Class → Bool
replied Ack = false
replied Nak = false
replied Illegal = false
replied (State b) = true
replied (Busy b) = true
replied (Rejecting b) = true
replied (Failing b) = true
replied (Escrow y) = true
replied (Stacked y) = true
replied (Returned y) = true
replied Unknown = true
replied Table = true

module _ (body : List ℕ) where
  table-replied : replied (table_or body) ≡ true
  table-replied = pick (λ (c : Class). replied c ≡ true) (is_table body) Table Unknown (λ h. refl) (λ n. refl)

  -- to GET BILL TABLE: the three say what they say, and any other body is a table or too long
  plain-same : (c : Class) → replied c ≡ false → table_class c body ≡ c
  plain-same Ack e = refl
  plain-same Nak e = refl
  plain-same Illegal e = refl
  plain-same (State b) e = absurd (true≢false e)
  plain-same (Busy b) e = absurd (true≢false e)
  plain-same (Rejecting b) e = absurd (true≢false e)
  plain-same (Failing b) e = absurd (true≢false e)
  plain-same (Escrow y) e = absurd (true≢false e)
  plain-same (Stacked y) e = absurd (true≢false e)
  plain-same (Returned y) e = absurd (true≢false e)
  plain-same Unknown e = absurd (true≢false e)
  plain-same Table e = absurd (true≢false e)

  pub other-table : (c : Class) → replied c ≡ true → table_class c body ≡ table_or body
  other-table Ack e = absurd (true≢false (sym e))
  other-table Nak e = absurd (true≢false (sym e))
  other-table Illegal e = absurd (true≢false (sym e))
  other-table (State b) e = refl
  other-table (Busy b) e = refl
  other-table (Rejecting b) e = refl
  other-table (Failing b) e = refl
  other-table (Escrow y) e = refl
  other-table (Stacked y) e = refl
  other-table (Returned y) e = refl
  other-table Unknown e = refl
  other-table Table e = refl

  -- so it gets a reply exactly where it would get one to another command
  same-reply : (c : Class) → replied (table_class c body) ≡ replied c
  same-reply c = by (replied c) refl
    where
      by : (t : Bool) → replied c ≡ t → replied (table_class c body) ≡ replied c
      by true e = ap replied (other-table c e) ∙ table-replied ∙ sym e
      by false e = ap replied (plain-same c e)

  module _ (code : ℕ) where
    to-table : code ≡ 0x41 → class_to code body ≡ table_class (class_of body) body
    unfolding class_to
    to-table e = cond-true (table_class (class_of body) body) (class_of body) (holds-true (same code get_table) e)

    pub to-another : (code ≡ 0x41 → ⊥) → class_to code body ≡ class_of body
    unfolding class_to
    to-another n = cond-false (table_class (class_of body) body) (class_of body) (fails-false (same code get_table) n)

    pub reply-to : replied (class_to code body) ≡ replied (class_of body)
    reply-to =
        by_cases (same code 0x41)
        (λ e. ap replied (to-table e) ∙ same-reply (class_of body))
        (λ n. ap replied (to-another n))

    -- a body that gets no reply is one of the three, whatever it answers
    pub plain-to : replied (class_of body) ≡ false → class_to code body ≡ class_of body
    plain-to e = by_cases (same code 0x41) (λ q. to-table q ∙ plain-same (class_of body) e) to-another

    -- what it says is what the history asks for, and nothing else is
    pub says-means : replied (class_of body) ≡ true → Means code body (class_to code body)
    says-means e = (
      λ q.
          let is : class_to code body ≡ table_or body = to-table q ∙ other-table (class_of body) e in (
            λ few. is ∙ cond-true Table Unknown (holds-true (is_table body) (omega (arith, few))),
            λ many. is ∙ cond-false Table Unknown (fails-false (is_table body) (λ h. omega (arith, many, h))),
          ),
      to-another,
    )

    pub means_is : (c : Class) → replied (class_of body) ≡ true → Means code body c → c ≡ class_to code body
    means_is c e m =
        let w = says-means e in
        by_cases (same code 0x41)
        (λ q. by_cases (is_table body)
        (λ few. (m.0 q).0 (omega (arith, few)) ∙ sym ((w.0 q).0 (omega (arith, few))))
        (λ many. (m.0 q).1 (omega (arith, many)) ∙ sym ((w.0 q).1 (omega (arith, many)))))
        (λ n. m.1 n ∙ sym (to-another n))

  -- the bytes of a class that gets no reply are not those of one that gets one
  replied-no : replied (class_of body) ≡ true → (c : Class) → (is_named c).holds → replied c ≡ false → body ≡ class_bytes c → ⊥
  replied-no gets c listed none is =
      true≢false (sym gets ∙ ap (λ (x : List ℕ). replied (class_of x)) is ∙ ap replied (classes.back c listed) ∙ none)

  pub is-other : replied (class_of body) ≡ true → Other body
  is-other gets = (replied-no gets Ack tt refl, (replied-no gets Nak tt refl, replied-no gets Illegal tt refl))

  -- a class other than unknown has the bytes of its body
  pub class-bytes : (c : Class) → c ≡ class_of body → (c ≡ Unknown → ⊥) → body ≡ class_bytes c
  class-bytes c e n = sym (classes.again body (λ u. n (e ∙ u))).1 ∙ ap class_bytes (sym e)

  pub other-replied : Other body → replied (class_of body) ≡ true
  other-replied other = by (class_of body) refl
    where
      by : (c : Class) → c ≡ class_of body → replied c ≡ true
      by Ack e = absurd (other.0 (class-bytes Ack e (λ u. let z : ◌≡◌ {A = ℕ} 0 1 = cc in omega arith)))
      by Nak e = absurd (other.1.0 (class-bytes Nak e (λ u. let z : ◌≡◌ {A = ℕ} 0 1 = cc in omega arith)))
      by Illegal e = absurd (other.1.1 (class-bytes Illegal e (λ u. let z : ◌≡◌ {A = ℕ} 0 1 = cc in omega arith)))
      by (State b) e = refl
      by (Busy b) e = refl
      by (Rejecting b) e = refl
      by (Failing b) e = refl
      by (Escrow y) e = refl
      by (Stacked y) e = refl
      by (Returned y) e = refl
      by Unknown e = refl
      by Table e = refl
