-- The bytes of a record in a piece: what is found there is what feeding them leaves. Assumes nothing.
use Prim.Native.Nat.{ℕ, suc, ◌+◌, ◌≤◌, ◌<◌}
use mathlib.Core.Path.{◌≡◌, refl, sym, ap, ◌∙◌, subst}
use mathlib.Core.List.{List, [], ◌∷◌, ◌++◌}
use native.Mathlib.Numerals.{add-one}
use native.Mathlib.Omega.{arith}
use lib.ListN.{length, drop, length-append}
use Rattle.std.proofs.lemmas.Result.{IfOk-at_ok}
use Rattle.recording.specs.Record.{most_bytes, fault_number}
use Rattle.recording.specs.Reading.{fresh_reader, more, whole, refused_at, read_byte, taken_byte, reader_after}
use Rattle.recording.specs.Promises.{AtOnce, bad-number, unknown}
use Rattle.recording.specs.declared.Fault.{Fault}
use Rattle.recording.specs.declared.Fault.TheVariants.{Cut}
use Rattle.recording.specs.declared.Record.{Record}
use Rattle.recording.specs.declared.Reader.{Reader}
use Rattle.recording.specs.declared.Step.{Step}
use Rattle.recording.specs.NextRecord.{NextRecord}
use Rattle.recording.specs.NextRecord.{Whole, Bad}
use Rattle.recording.proofs.Folds.{taken-before}
use Rattle.recording.proofs.Pieces.{Begun, no_more, one_more, Comes, comes, fails, stops}
use Rattle.grading_rules.specs.Replay.{given}
use Rattle.grading_rules.specs.Feeding.{broken_at, fed_byte, fed_piece}
use Rattle.grading_rules.specs.declared.desk.Desk.{Desk}
use Rattle.grading_rules.specs.declared.desk.Replaying.{Replaying}
use Rattle.grading_rules.proofs.Cuts.{fed-nil, fed-cons, fed-append, fed-step, broken-stays}

-- a replay with that desk, that reader, and so many bytes fed
abbrev pub at-hand : Desk → Reader → ℕ → Replaying
at-hand d r n = record { desk = d; reader = r; fed = n }

begun-fed : {r q : Reader} {p : ℕ} {u : List ℕ} → Begun r p u q → p + length u ≤ most_bytes → (d : Desk) → fed_piece (at-hand d r p) u ≡ at-hand d q (p + length u)
begun-fed (no_more r p) h d = fed-nil (at-hand d r p) ∙ ap (at-hand d r) (omega arith)
begun-fed {r} {q} {p} (one_more {q = z} {b = b} {s = u} e g) h d =
    fed-cons (at-hand d r p) b u
    ∙ ap (λ (w : Replaying). fed_piece w u) (fed-step d r p b (more z) (taken-before r p b (omega (arith, h)) ∙ e) ∙ ap (at-hand d z) (add-one p))
    ∙ begun-fed g (omega (arith, h)) d
    ∙ ap (at-hand d q) (omega arith)

begun-after : {r q : Reader} {p : ℕ} {u : List ℕ} → Begun r p u q → p + length u ≤ most_bytes → reader_after r p u ≡ q
unfolding reader_after
begun-after (no_more r p) h = refl
begun-after {r} {q} {p} (one_more {q = z} {b = b} {s = u} e g) h =
    ap (λ (t : Step). reader_after t.reader (suc p) u) (taken-before r p b (omega (arith, h)) ∙ e) ∙ begun-after g (omega (arith, h))

cut-late : AtOnce Cut → ⊥
cut-late a = by a refl
  where
    by : {why : Fault} → AtOnce why → why ≡ Cut → ⊥
    by bad-number e = omega (arith, ap fault_number e)
    by unknown e = omega (arith, ap fault_number e)

behind : (u : List ℕ) (b : ℕ) (t : List ℕ) → drop (suc (length u)) (u ++ (b ∷ t)) ≡ t
behind [] b t = refl
behind (c ∷ u) b t = behind u b t

-- a record of n bytes
pub record Given (d : Desk) (r : Reader) (p : ℕ) (s : List ℕ) (x : Record) (n : ℕ) : Type 0 where
  pub some : 0 < n
  pub fits : n ≤ length s
  pub leaves : fed_piece (at-hand d r p) s ≡ fed_piece (at-hand (given d x) fresh_reader (p + n)) (drop n s)

module _ (d : Desk) (o : ℕ) (r : Reader) (p : ℕ) (s : List ℕ) (l : p + length s ≤ most_bytes) where
  -- the bytes u and b of it, and what a step t leaves of them
  through : (u t : List ℕ) (b : ℕ) (q : Reader) (y : Step) → s ≡ u ++ (b ∷ t) → Begun r p u q → read_byte q (p + length u) b ≡ y
      → fed_piece (at-hand d r p) s ≡ fed_piece (fed_byte (at-hand d q (p + length u)) b) t × (taken_byte q (p + length u) b ≡ y)
  through u t b q y e g f =
      let m = simp length-append at (ap length e) in (
        ap (fed_piece (at-hand d r p)) e
            ∙ fed-append u (b ∷ t) (at-hand d r p)
            ∙ ap (λ (w : Replaying). fed_piece w (b ∷ t)) (begun-fed g (omega (arith, l, m)) d)
            ∙ fed-cons (at-hand d q (p + length u)) b t,
        taken-before q (p + length u) b (omega (arith, l, m)) ∙ f,
      )

  pub whole-given : {f : NextRecord} (x : Record) (n : ℕ) → Comes o r p 0 s f → f ≡ Whole x n → Given d r p s x n
  whole-given x n (comes y u t b q e g h) z =
      let same : y ≡ x = IfOk-at_ok (λ p. y ≡ p.0) z refl in
      let size : 0 + suc (length u) ≡ n = IfOk-at_ok (λ p. 0 + suc (length u) ≡ p.1) z refl in
      let m = simp length-append at (ap length e) in
      let k = through u t b q (whole y) e g h in
      let place : p + length u + 1 ≡ p + n = omega (arith, size) in
      let bytes : suc (length u) ≡ n = omega (arith, size) in
      let rest : t ≡ drop n s = sym (behind u b t) ∙ ap (λ (i : ℕ). drop i (u ++ (b ∷ t))) bytes ∙ ap (drop n) (sym e) in
      record {
        some = omega (arith, size);
        fits = omega (arith, size, m);
        leaves =
            k.0
            ∙ ap (λ (w : Replaying). fed_piece w t) (fed-step d q (p + length u) b (whole y) k.1)
            ∙ ap (λ (v : Record). fed_piece (at-hand (given d v) fresh_reader (p + length u + 1)) t) same
            ∙ ap (λ (i : ℕ). fed_piece (at-hand (given d x) fresh_reader i) t) place
            ∙ ap (fed_piece (at-hand (given d x) fresh_reader (p + n))) rest;
      }
  whole-given x n (fails a u t b q e g h) z = let y : ◌≡◌ {A = ℕ} 0 1 = cc in absurd (omega arith)
  whole-given x n (stops q g i h) z = let y : ◌≡◌ {A = ℕ} 0 1 = cc in absurd (omega arith)

  pub fault-shown : {f : NextRecord} (why : Fault) → (why ≡ Cut → ⊥) → Comes o r p 0 s f → f ≡ Bad why → fed_piece (at-hand d r p) s ≡ broken_at why o
  fault-shown why n (comes y u t b q e g h) z = let y : ◌≡◌ {A = ℕ} 0 1 = cc in absurd (omega arith)
  fault-shown why n (fails {why = w} a u t b q e g h) z =
      let same : w ≡ why = cc in
      let k = through u t b q (refused_at o w) e g h in
      k.0
      ∙ ap (λ (v : Replaying). fed_piece v t) (fed-step d q (p + length u) b (refused_at o w) k.1)
      ∙ broken-stays t w o
      ∙ ap (λ (v : Fault). broken_at v o) same
  fault-shown why n (stops q g i h) z = let same : Cut ≡ why = cc in absurd (n (sym same))

  -- the piece ends inside the record
  pub cut-held : {f : NextRecord} → Comes o r p 0 s f → f ≡ Bad Cut → fed_piece (at-hand d r p) s ≡ at-hand d (reader_after r p s) (p + length s)
  cut-held (comes y u t b q e g h) z = let y : ◌≡◌ {A = ℕ} 0 1 = cc in absurd (omega arith)
  cut-held (fails {why = w} a u t b q e g h) z = let same : w ≡ Cut = cc in absurd (cut-late (subst AtOnce same a))
  cut-held (stops q g i h) z = begun-fed g l d ∙ ap (λ (v : Reader). at-hand d v (p + length s)) (sym (begun-after g l))
