-- The answer that a closing carries is what the last bytes accepted say: those by which the history has the command answered. Assumes nothing.
use Prim.Native.Nat.{ℕ, ◌+◌, ◌≤◌}
use mathlib.Core.Path.{◌≡◌, refl, sym, ap, ◌∙◌}
use mathlib.Core.Bool.{Bool, true, false, true≢false}
use mathlib.Core.List.{List, [], ◌∷◌, ◌++◌}
use native.Mathlib.Omega.{arith}
use lib.ListN.{length, take, set}
use Rattle.refusals.specs.Rules.{under, at_most, same}
use Rattle.refusals.proofs.Rules.{pick, either_way, certain}
use Rattle.ledger.specs.Events.{hears, History, is_frame, bytes}
use Rattle.ledger.specs.Account.{Ending, answered, last_of}
use Rattle.ledger.specs.Calls.{After, gave, did, told}
use Rattle.ledger.specs.Told.{Verdict, bad, good, void, none, by_answer, by_refusal, by_doubt, ending, AnsweredBy}
use Rattle.ledger.proofs.Laws.{commands-closed}
use Rattle.ledger.proofs.Follows.{as-open}
use Rattle.exchange_rules.specs.Exchange.{first_byte, bad_frame, start_byte, inside_byte, heard_in, heard, passed}
use Rattle.exchange_rules.specs.Machine.{Model, Box, Reply, discipline, acted, bad_step, judged_step, judge_step, byte_acted, byte_refusals, tick_refusals, request_refusals, left, called-request, heard_step, called-byte, called-tick, Call, request, byte, tick, clear, clear_refusals, called-clear, deed, called}
use Rattle.exchange_rules.specs.Kept.{Sound}
use Rattle.exchange_rules.specs.Owed.{Lawful}
use Rattle.exchange_rules.specs.declared.line.Phase.{Phase}
use Rattle.exchange_rules.specs.declared.line.Phase.TheVariants.{Idle, First, Start, Inside}
use Rattle.exchange_rules.specs.declared.line.Line.{Line}
use Rattle.exchange_rules.specs.declared.line.Todo.{Todo}
use Rattle.exchange_rules.specs.declared.line.Todo.TheVariants.{Nothing, HandOver, Nak, LastNak, CloseRefused, CloseUnknown}
use Rattle.exchange_rules.specs.declared.line.Heard.{Heard}
use Rattle.exchange_rules.specs.declared.line.Heard.TheVariants.{Keep, Judge, Do}
use Rattle.exchange_rules.specs.declared.line.Hearing.{Hearing}
use Rattle.exchange_rules.proofs.Views.{one-put, one-frame, view, rules, Tracks, at, stood, full-last}

-- a frame is judged only inside an answer, where it is full
abbrev is_judge : Heard → Bool
is_judge Keep = false
is_judge Judge = true
is_judge (Do t) = false

abbrev Filled : Line → ℕ → Type 0
Filled l n = (l.phase ≡ Inside) × (n ≤ l.gathered + 1)

fills : (l : Line) (n b : ℕ) → is_judge (heard l n b).heard ≡ true → Filled l n
unfolding heard first_byte start_byte inside_byte
fills l n b = by l.phase refl
  where
    never : (u : Hearing) → is_judge u.heard ≡ false → is_judge u.heard ≡ true → Filled l n
    never u f e = absurd (true≢false (sym e ∙ f))

    by : (p : Phase) → l.phase ≡ p → is_judge (heard_in p l n b).heard ≡ true → Filled l n
    by Idle i = never (heard_in Idle l n b) refl
    by First i =
        never (heard_in First l n b)
        (pick (λ (u : Hearing). is_judge u.heard ≡ false) (same b 0x06) _ _ (λ g. refl)
        (λ g. pick (λ (u : Hearing). is_judge u.heard ≡ false) (same b _) _ _
        (λ f. pick (λ (u : Hearing). is_judge u.heard ≡ false) (under l.handed _) _ _ (λ m. refl) (λ m. refl)) (λ f. refl)))
    by Start i = never (heard_in Start l n b) (pick (λ (u : Hearing). is_judge u.heard ≡ false) (same b 0x01) _ _ (λ g. refl) (λ g. refl))
    by Inside i =
        pick (λ (u : Hearing). is_judge u.heard ≡ true → Filled l n) (under (l.gathered + 1) n) _ _
        (λ g e. absurd (true≢false (sym e)))
        (λ g e. (i, certain (at_most n (l.gathered + 1)) (λ w. g (certain (under (l.gathered + 1) n) (λ v. w (omega arith))))))

module _ {R X A C : Type 0} (U : Model R X A C) where
  -- a reply carries an answer
  abbrev carries : Reply X → Bool
  carries (gave why) = false
  carries (did n none) = false
  carries (did n (by_answer x)) = true
  carries (did n by_refusal) = false
  carries (did n by_doubt) = false

  -- nothing that the exchange says is to be done carries one
  acted-none : (t : Todo) (l : Line) (q : R) (r : List ℕ) → carries (acted U t l q r).reply ≡ false
  acted-none Nothing l q r = refl
  acted-none HandOver l q r = refl
  acted-none Nak l q r = refl
  acted-none LastNak l q r = refl
  acted-none CloseRefused l q r = refl
  acted-none CloseUnknown l q r = refl

  module _ {O : Type 0} (K : Lawful U) (s : Box R A) (h : History R O Ending) (k : Sound U s) (t : Tracks U s h) where
    -- after a call the history has the command answered by what it carries
    abbrev Carries : Call R O → Reply X → List ℕ → Type 0
    Carries c p room = (n : ℕ) (x : X) → p ≡ did n (by_answer x) → AnsweredBy U.bytes (discipline U) (told ending (deed c) p room ∷ h) x

    none-carried : (c : Call R O) (p : Reply X) (room : List ℕ) → carries p ≡ false → Carries c p room
    none-carried c p room f n x e = absurd (true≢false (sym (ap carries e) ∙ f))

    module _ (b : ℕ) (r : List ℕ) (long : 16 ≤ length r) where
      abbrev Brings : Hearing → Type 0
      Brings u = let w = (byte_acted U u.heard u.line s.asks s.store s.line.gathered b r).step in Carries (byte b r) w.reply w.room

      -- the frame is full, and is judged
      judged-carries : s.line.phase ≡ Inside → (f : List ℕ) → last_of (U.bytes.span s.asks) (bytes h ++ (b ∷ [])) ≡ f → (v : Verdict X)
          → U.judges s.asks f ≡ v → (l : Line) → Carries (byte b r) (judged_step U v l s.asks r).reply (judged_step U v l s.asks r).room
      unfolding bad_step bytes
      judged-carries e f last bad g l = none-carried (byte b r) _ _ (acted-none (bad_frame l).todo (bad_frame l).line s.asks r)
      judged-carries e f last (good v) g l = λ n x i.
          let y = (at U s h t e).is in
          let put : is_frame (take 1 (set r 0 0x06)) ≡ false = ap is_frame (one-put r 0x06 (omega arith)) ∙ one-frame 0x06 in
          let z : v ≡ x = cc in
          record {
            newest = _;
            older = y.older;
            split = commands-closed U.bytes h (take 1 (set r 0 0x06)) (hears b) (as-open (rules U) (view U s)) y.older answered tt put y.split;
            frame = _;
            fate = refl;
            says = ap (U.judges s.asks) last ∙ g ∙ ap good z;
          }
      judged-carries e f last void g l = none-carried (byte b r) (judged_step U void l s.asks r).reply (judged_step U void l s.asks r).room refl

      judge-carries : Filled s.line (U.bytes.span s.asks) → (l : Line)
          → let w = judge_step U l s.asks (set s.store s.line.gathered b) r in Carries (byte b r) w.reply w.room
      unfolding judge_step
      judge-carries full l =
          let f = take (U.bytes.span s.asks) (set s.store s.line.gathered b) in
          let n : U.bytes.span s.asks ≡ s.line.gathered + 1 = omega (arith, full.1, (stood U s k full.0).2) in
          judged-carries full.0 f (full-last U K s h k t b full.0 n) (U.judges s.asks f) refl l

      -- no other byte carries an answer than the one that fills a frame
      heard-carries : Brings (heard s.line (U.bytes.span s.asks) b)
      heard-carries = by (heard s.line (U.bytes.span s.asks) b) (fills s.line (U.bytes.span s.asks) b)
        where
          by : (u : Hearing) → (is_judge u.heard ≡ true → Filled s.line (U.bytes.span s.asks)) → Brings u
          by u full = go u.heard full
            where
              go : (x : Heard) → (is_judge x ≡ true → Filled s.line (U.bytes.span s.asks))
                  → Carries (byte b r) (byte_acted U x u.line s.asks s.store s.line.gathered b r).step.reply (byte_acted U x u.line s.asks s.store s.line.gathered b r).step.room
              go Keep full = none-carried (byte b r) (did 0 none) r refl
              go Judge full = judge-carries (full refl) u.line
              go (Do d) full = none-carried (byte b r) (acted U d u.line s.asks r).reply (acted U d u.line s.asks r).room (acted-none d u.line s.asks r)

    pub called-carries : (c : Call R O) → Carries c (called U s c).reply (called U s c).room
    unfolding called-request request_refusals called-byte byte_refusals heard_step called-tick tick_refusals called-clear
    called-carries (request q r) =
        either_way (λ (w : After (Box R A) (Reply X)). Carries (request q r) w.reply w.room) (request_refusals U s.line q r) (left U s r) _
        (λ why. none-carried (request q r) (gave why) r refl) (λ n. none-carried (request q r) (did (U.hands q r).put none) (U.hands q r).room refl)
    called-carries (byte b r) =
        either_way (λ (w : After (Box R A) (Reply X)). Carries (byte b r) w.reply w.room) (byte_refusals U r) (left U s r) _
        (λ why. none-carried (byte b r) (gave why) r refl) (λ n. heard-carries b r (certain (at_most 16 (length r)) (λ w. n.0 (omega arith))))
    called-carries (tick ms r) =
        let u = passed s.line ms in
        either_way (λ (w : After (Box R A) (Reply X)). Carries (tick ms r) w.reply w.room) (tick_refusals U ms r) (left U s r) _
        (λ why. none-carried (tick ms r) (gave why) r refl)
        (λ n. none-carried (tick ms r) (acted U u.todo u.line s.asks r).reply (acted U u.todo u.line s.asks r).room (acted-none u.todo u.line s.asks r))
    called-carries (clear o) =
        either_way (λ (w : After (Box R A) (Reply X)). Carries (clear o) w.reply w.room) (clear_refusals U s.line) (left U s []) _
        (λ why. none-carried (clear o) (gave why) [] refl) (λ n. none-carried (clear o) (did 0 none) [] refl)
