-- The step folded over bytes, one byte at a time. Assumes nothing.
use Rattle.std.specs.Prelude.{Err}
use Prim.Native.Nat.{ℕ, suc, ◌+◌, ◌≤◌, ◌<◌}
use mathlib.Core.Path.{◌≡◌, refl, sym, ap, ◌∙◌}
use mathlib.Core.List.{List, [], ◌∷◌}
use native.Mathlib.Numerals.{add-one}
use native.Mathlib.Omega.{arith}
use lib.ListN.{length, drop, get_or, drop_of_length-le}
use lib.Seq.{drop-cons}
use borrow.Author.Tests.{le-leb, lt-leb}
use Rattle.recording.specs.Record.{most_bytes}
use Rattle.recording.specs.Reading.{Reading, records, bad, fresh_reader, read_byte, ended, past_in, taken_byte, also, went, closing, reading_from, taking_from, read_recording, verdict_of}
use Rattle.recording.specs.declared.Fault.{Fault}
use Rattle.recording.specs.declared.Bad.{Bad as BadAt}
use Rattle.recording.specs.declared.Record.{Record}
use Rattle.recording.specs.declared.Reader.{Reader}
use Rattle.recording.specs.Outcome.{Outcome, More, Whole, Bad}
use Rattle.recording.specs.declared.Step.{Step}
use Rattle.recording.specs.Verdict.{Verdict}
use Rattle.recording.specs.Verdict.{Good}

pub reading-nil : (r : Reader) (at : ℕ) → reading_from r at [] ≡ closing (ended r)
unfolding reading_from
reading-nil r at = refl

pub reading-cons : (r : Reader) (at b : ℕ) (s : List ℕ)
    → reading_from r at (b ∷ s) ≡ went (read_byte r at b).outcome (reading_from (read_byte r at b).reader (suc at) s)
unfolding reading_from
reading-cons r at b s = refl

pub reading-end : (r : Reader) (at : ℕ) (s : List ℕ) (i : ℕ) → length s ≤ i → reading_from r at (drop i s) ≡ closing (ended r)
reading-end r at s i h = ap (reading_from r at) (drop_of_length-le s h) ∙ reading-nil r at

pub reading-at : (r : Reader) (s : List ℕ) (i : ℕ) → i < length s
    → reading_from r i (drop i s)
    ≡ went (read_byte r i (get_or s i 0)).outcome (reading_from (read_byte r i (get_or s i 0)).reader (i + 1) (drop (i + 1) s))
reading-at r s i h = rw (drop-cons s i 0 h, add-one) (reading-cons r i (get_or s i 0) (drop (suc i) s))

-- ---- the limit

-- a byte before it
pub taken-before : (r : Reader) (at b : ℕ) → at < most_bytes → taken_byte r at b ≡ read_byte r at b
unfolding taken_byte
taken-before r at b h = rw (lt-leb most_bytes at h)

-- a byte past it
pub taken-past : (r : Reader) (at b : ℕ) → most_bytes ≤ at → taken_byte r at b ≡ past_in r.place r at
unfolding taken_byte
taken-past r at b h = rw (le-leb most_bytes at h)

pub taking-nil : (r : Reader) (at : ℕ) → taking_from r at [] ≡ closing (ended r)
unfolding taking_from
taking-nil r at = refl

pub taking-cons : (r : Reader) (at b : ℕ) (s : List ℕ)
    → taking_from r at (b ∷ s) ≡ went (taken_byte r at b).outcome (taking_from (taken_byte r at b).reader (suc at) s)
unfolding taking_from
taking-cons r at b s = refl

pub taking-end : (r : Reader) (at : ℕ) (s : List ℕ) (i : ℕ) → length s ≤ i → taking_from r at (drop i s) ≡ closing (ended r)
taking-end r at s i h = ap (taking_from r at) (drop_of_length-le s h) ∙ taking-nil r at

taking-at : (r : Reader) (s : List ℕ) (i : ℕ) → i < length s
    → taking_from r i (drop i s)
    ≡ went (taken_byte r i (get_or s i 0)).outcome (taking_from (taken_byte r i (get_or s i 0)).reader (i + 1) (drop (i + 1) s))
taking-at r s i h = rw (drop-cons s i 0 h, add-one) (taking-cons r i (get_or s i 0) (drop (suc i) s))

-- bytes before it say what they say anywhere
pub taking-before : (s : List ℕ) (r : Reader) (at : ℕ) → at + length s ≤ most_bytes → taking_from r at s ≡ reading_from r at s
taking-before [] r at h = taking-nil r at ∙ sym (reading-nil r at)
taking-before (b ∷ s) r at h =
    taking-cons r at b s
    ∙ ap (λ (t : Step). went t.outcome (taking_from t.reader (suc at) s)) (taken-before r at b (omega arith))
    ∙ ap (went (read_byte r at b).outcome) (taking-before s (read_byte r at b).reader (suc at) (omega arith))
    ∙ sym (reading-cons r at b s)

-- a recording that is not too long
pub reading-short : (s : List ℕ) → length s ≤ most_bytes → read_recording s ≡ reading_from fresh_reader 0 s
unfolding read_recording
reading-short s h = taking-before s fresh_reader 0 (omega arith)

-- ---- whether it is good

verdict-also : (x : Record) (g : Reading) → verdict_of (also x g) ≡ verdict_of g
verdict-also x (records xs) = refl
verdict-also x (bad why at) = refl

-- a byte that shows no fault leaves it to the rest
verdict-went : (h : Outcome) → ((why : BadAt ℕ) → h ≡ Err why → ⊥) → (rest : Reading) → verdict_of (went h rest) ≡ verdict_of rest
verdict-went More n rest = refl
verdict-went (Whole x) n rest = verdict-also x rest
verdict-went (Err why) n rest = absurd (n why refl)

pub verdict-closing : (v : Verdict) → verdict_of (closing v) ≡ v
verdict-closing Good = refl
verdict-closing (Err x) = refl

-- ---- the loop over a recording: t is what the byte at i left

module _ (r : Reader) (s : List ℕ) (i : ℕ) (h : i < length s) (t : Step) (e : t ≡ taken_byte r i (get_or s i 0)) where
  taking-one : taking_from r i (drop i s) ≡ went t.outcome (taking_from t.reader (i + 1) (drop (i + 1) s))
  taking-one = taking-at r s i h ∙ ap (λ (x : Step). went x.outcome (taking_from x.reader (i + 1) (drop (i + 1) s))) (sym e)

  pub taking-bad : {why : Fault} {at : ℕ} → t.outcome ≡ Bad why at → taking_from r i (drop i s) ≡ bad why at
  taking-bad f = taking-one ∙ ap (λ (x : Outcome). went x (taking_from t.reader (i + 1) (drop (i + 1) s))) f

  pub taking-on : ((why : BadAt ℕ) → t.outcome ≡ Err why → ⊥)
      → verdict_of (taking_from r i (drop i s)) ≡ verdict_of (taking_from t.reader (i + 1) (drop (i + 1) s))
  taking-on n = ap verdict_of taking-one ∙ verdict-went t.outcome n _
