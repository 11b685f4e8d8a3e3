-- What a unit owes, so that demand 3 holds of every session over it; and when a session of its own type is a session over a unit.
use Rattle.std.specs.Prelude.{ℕ, ◌≤◌, ◌<◌, ◌≡◌, List, length}
use Rattle.refusals.specs.Put.{over}
use Rattle.ledger.specs.Account.{Ending}
use Rattle.ledger.specs.Calls.{Returned, gave, did, Host}
use Rattle.ledger.specs.Told.{good, Closing, ending}
use Rattle.exchange_rules.specs.Limits.{least_room}
use Rattle.exchange_rules.specs.Sums.{sums_opened, sums_answered, sums_refused, sums_unknown}
use Rattle.exchange_rules.specs.Machine.{Model, Box, Call, lent, deed, called}
use Rattle.exchange_rules.specs.Kept.{Sound}

module _ {R X A C : Type 0} (U : Model R X A C) where
  pub record Lawful : Type 0 where
    -- a command that can be sent is handed over whole, every other byte of the room as it was, and its answer fits the store
    pub laid : (q : R) (r : List ℕ) → (U.sendable q).holds → least_room ≤ length r → U.hands q r ≡ record { put = length (U.layout q); room = over (U.layout q) r }
    pub long : (q : R) → (U.sendable q).holds → 1 < length (U.layout q)
    pub least : (q : R) → (U.sendable q).holds → 1 < U.bytes.span q
    pub most : (q : R) → (U.sendable q).holds → U.bytes.span q ≤ U.longest
    -- no count is more than the greatest, which is a byte at most
    pub small : U.greatest ≤ 255
    pub modest : (q : R) (c : C) → (U.sendable q).holds → U.bytes.wants q c ≤ U.greatest
    pub paid : (q : R) (f : List ℕ) (x : X) (c : C) → (U.sendable q).holds → U.judges q f ≡ good x → U.bytes.exit q f c ≤ U.greatest
    pub spoilt : (q : R) (f : List ℕ) (x : X) (c : C) → (U.sendable q).holds → U.judges q f ≡ good x → U.bytes.rejects q f c ≤ U.greatest
    -- the account is booked cassette by cassette, by what the bytes say
    pub opens : (a : A) (q : R) (c : C) → U.cassette (U.opens a q) c ≡ sums_opened (U.cassette a c) (U.bytes.wants q c)
    pub closes_refused : (a : A) (q : R) (c : C) → U.cassette (U.closes_refused a q) c ≡ sums_refused (U.cassette a c) (U.bytes.wants q c)
    pub closes_unknown : (a : A) (q : R) (c : C) → U.cassette (U.closes_unknown a q) c ≡ sums_unknown (U.cassette a c) (U.bytes.wants q c)
    pub answers : (a : A) (q : R) (f : List ℕ) (x : X) (c : C) → (U.sendable q).holds → U.judges q f ≡ good x
        → (U.cassette a c).pending.0 ≡ U.bytes.wants q c
        → U.cassette (U.answers a q x) c ≡ sums_answered (U.cassette a c) (U.bytes.wants q c) (U.bytes.exit q f c) (U.bytes.rejects q f c)

-- what a call returned, its closing as every unit has it
abbrev pub saying : {Q X : Type 0} → (Q → Closing X) → Returned Q → Returned (Closing X)
saying says (gave why) = gave why
saying says (did n c) = did n (says c)

-- a session of its own type S, as its caller sees it, is a session over the unit U: which one it is (its own memory, as a serial, apart), which call each is and
-- which room it is lent, and which closing each is
pub record Session {R X A C S T P O Q : Type 0} (U : Model R X A C) (H : Host S T P R O Q Ending) : Type 1 where
  pub keeps : S → Type 0
  pub box : S → Box R A
  pub means : S → T → Call R O
  pub says : Q → Closing X
  pub lends : T → List ℕ
  pub kept : (s : S) (t : T) → keeps s → keeps (H.called s t).session
  pub same : (s : S) (t : T) → keeps s → Sound U (box s) → box (H.called s t).session ≡ (called U (box s) (means s t)).session
  pub answers : (s : S) (t : T) → keeps s → Sound U (box s) → saying says (H.returned (H.called s t).reply) ≡ (called U (box s) (means s t)).reply
  pub room : (s : S) (t : T) → keeps s → Sound U (box s) → (H.called s t).room ≡ (called U (box s) (means s t)).room
  pub deeds : (s : S) (t : T) → H.deed s t ≡ deed (means s t)
  pub rooms : (s : S) (t : T) → lends t ≡ lent (means s t)
  pub endings : (c : Q) → H.ending c ≡ ending (says c)
