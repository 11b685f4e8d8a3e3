-- A session over any unit, as its history can tell. Assumes nothing.
use Prim.Native.Nat.{ℕ, ◌+◌, ◌≤◌, ◌<◌}
use mathlib.Core.Path.{◌≡◌, refl, sym, ap, ◌∙◌, subst}
use mathlib.Core.Bool.{true, false}
use mathlib.Core.List.{List, [], ◌∷◌, ◌++◌}
use native.Mathlib.Numerals.{add-one}
use native.Mathlib.Omega.{arith}
use lib.ListN.{length, take, set, length-set}
use lib.Seq.{length-take-le, take-suc-set}
use Rattle.ledger.specs.Events.{hears, goes_on, done, History, is_frame, bytes}
use Rattle.ledger.specs.Account.{Ending, last_of}
use Rattle.ledger.specs.Waiting.{some}
use Rattle.ledger.specs.Told.{begun}
use Rattle.ledger.proofs.Waiting.{begun_more, begun-last}
use Rattle.ledger.proofs.Follows.{Stage, idle, first, start, inside, View, Rules, At, Follows}
use Rattle.exchange_rules.specs.Limits.{quiet, doubt_limit}
use Rattle.exchange_rules.specs.Machine.{Model, Box, discipline, quiet_after, plain}
use Rattle.exchange_rules.specs.Kept.{Stands, Sound}
use Rattle.exchange_rules.specs.Owed.{Lawful}
use Rattle.exchange_rules.specs.declared.line.Phase.{Phase}
use Rattle.exchange_rules.specs.declared.line.Phase.TheVariants.{Idle, First, Start, Inside}

-- what is put at the start of a room that is long enough
pub one-put : (r : List ℕ) (b : ℕ) → 0 < length r → take 1 (set r 0 b) ≡ b ∷ []
one-put r b h = take-suc-set r 0 b h

-- nothing, and a single byte, is no frame
pub none-frame : is_frame [] ≡ false
unfolding is_frame
none-frame = refl

pub one-frame : (b : ℕ) → is_frame (b ∷ []) ≡ false
unfolding is_frame
one-frame b = refl

abbrev pub stage : Phase → Stage
stage Idle = idle
stage First = first
stage Start = start
stage Inside = inside

module _ {R X A C : Type 0} (U : Model R X A C) where
  abbrev pub view : Box R A → View R C
  view s =
      record {
        stage = stage s.line.phase;
        asks = s.asks;
        handed = s.line.handed;
        naks = s.line.naks;
        gathered = take s.line.gathered s.store;
        quiet = s.line.quiet;
        left = s.line.left;
        count = s.line.accepted;
        doubts = s.line.doubts;
        kept = λ c. plain (U.cassette s.account c);
      }

  abbrev pub rules : Rules R X C
  rules = record { unit = U.bytes; line = discipline U; after = quiet_after U; fresh = quiet; pays = U.pays; stop = doubt_limit }

  -- the session stands where the history says
  abbrev pub Tracks : {O : Type 0} → Box R A → History R O Ending → Type 0
  Tracks s h = Follows rules (view s) h

  -- the place and the stand, in a phase that is known
  pub at : {O : Type 0} {p : Phase} (s : Box R A) (h : History R O Ending) → Tracks s h → s.line.phase ≡ p → At rules (stage p) (view s) h
  at s h t e = subst (λ (p : Phase). At rules (stage p) (view s) h) e t.place

  pub stood : {p : Phase} (s : Box R A) → Sound U s → s.line.phase ≡ p → Stands U p s.line s.asks
  stood s k e = subst (λ (p : Phase). Stands U p s.line s.asks) e k.stands

  -- inside an answer: with one byte more the store holds what has come of it, and where that is all of it, the last bytes accepted
  module _ {O : Type 0} (K : Lawful U) (s : Box R A) (h : History R O Ending) (k : Sound U s) (t : Tracks s h) (b : ℕ) (e : s.line.phase ≡ Inside) where
    pub yet : some (begun h) ≡ true
    yet = ap some (at s h t e).gathers ∙ (at s h t e).some-gathered

    fits : s.line.gathered + 1 ≤ U.longest
    fits = let st = stood s k e in omega (arith, st.2, K.most s.asks st.0.sent)

    pub grown : begun (done (hears b) [] goes_on ∷ h) ≡ take (s.line.gathered + 1) (set s.store s.line.gathered b)
    grown =
        begun_more h goes_on b yet ∙ ap (λ (l : List ℕ). l ++ (b ∷ [])) (at s h t e).gathers
        ∙ sym (rw add-one (take-suc-set s.store s.line.gathered b (omega (arith, k.store, fits))))

    pub size : length (take (s.line.gathered + 1) (set s.store s.line.gathered b)) ≡ s.line.gathered + 1
    size = length-take-le (s.line.gathered + 1) (set s.store s.line.gathered b) (omega (arith, length-set s.store s.line.gathered b, k.store, fits))

    pub full-last : U.bytes.span s.asks ≡ s.line.gathered + 1
        → last_of (U.bytes.span s.asks) (bytes h ++ (b ∷ [])) ≡ take (U.bytes.span s.asks) (set s.store s.line.gathered b)
    unfolding bytes
    full-last full =
        begun-last (done (hears b) [] goes_on ∷ h) (U.bytes.span s.asks) (full ∙ sym size ∙ ap length (sym grown))
        ∙ grown ∙ ap (λ (i : ℕ). take i (set s.store s.line.gathered b)) (sym full)
