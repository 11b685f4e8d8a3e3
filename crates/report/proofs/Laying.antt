-- Bytes laid at the start of a room, one by one. Assumes nothing.
use Prim.Native.Nat.{ℕ, ◌+◌, ◌-◌, ◌<◌}
use mathlib.Core.Path.{◌≡◌, sym, ap, ap₂, ◌∙◌}
use mathlib.Core.List.{List, ◌++◌}
use native.Mathlib.Nat.{sub-zero}
use native.Mathlib.Numerals.{add-one}
use native.Mathlib.Omega.{arith}
use lib.ListN.{length, take, drop, set, get_or, take-append-drop}
use lib.Seq.{take-suc, take-suc-set, take_all, drop-set-lt, drop-drop}
use Rattle.refusals.specs.Put.{over}
use Rattle.report_lines.specs.Scaffolding.{Adds}

pub lay-byte : (room bytes : List ℕ) (i : ℕ) → i < length room → i < length bytes → take i room ≡ take i bytes
    → take (i + 1) (set room i (get_or bytes i 0)) ≡ take (i + 1) bytes
lay-byte room bytes i h l e = rw (add-one, take-suc-set room i (get_or bytes i 0) h, e) (sym (take-suc bytes i 0 l))

pub lay-rest : (before room : List ℕ) (i b : ℕ) → drop i room ≡ drop i before → drop (i + 1) (set room i b) ≡ drop (i + 1) before
lay-rest before room i b e =
    drop-set-lt (i + 1) room i b (omega arith) ∙ sym (drop-drop 1 i room) ∙ ap (drop 1) e ∙ drop-drop 1 i before

pub lay-all : (before room bytes : List ℕ) (i : ℕ) → i ≡ length bytes → take i room ≡ take i bytes → drop i room ≡ drop i before → room ≡ over bytes before
unfolding over
lay-all before room bytes i n e f =
    sym (take-append-drop i room) ∙ ap₂ ◌++◌ (e ∙ take_all i bytes (omega (arith, n))) (f ∙ ap (λ (j : ℕ). drop j before) n)

-- what was added from the start on is the text
pub text-laid : {before after bytes : List ℕ} {end : ℕ} → Adds before 0 bytes after end → take (end - 0) after ≡ bytes
text-laid {before} {after} {bytes} {end} a = ap (λ (j : ℕ). take j after) (sub-zero end) ∙ a.text
