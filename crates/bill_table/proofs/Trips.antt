-- Bytes as words, once for every number of them; and a table read, written and read again. Assumes nothing.
use Prim.Native.Nat.{ℕ, zero, suc, ◌+◌, ◌-◌, ◌*◌, ◌≤◌, ◌<◌}
use mathlib.Core.Path.{◌≡◌, refl, sym, ap, ap₂, ◌∙◌}
use mathlib.Core.Bool.{true, false, true≢false}
use mathlib.Core.List.{List, [], ◌∷◌, ◌++◌}
use native.Mathlib.Omega.{arith}
use lib.ListN.{length, get_or, take, drop, replicate}
use lib.Seq.{drop-drop}
use borrow.Author.Tests.{lt-ltb}
use Rattle.refusals.specs.Put.{written, laid, writing, writing_refusals}
use Rattle.refusals.specs.Put.{Bytes}
use Rattle.refusals.proofs.Rules.{by_cases, holds-true, fails-false}
use Rattle.refusals.proofs.Writing.{done-laid, take-over, writing-exactly}
use Rattle.bill_table.specs.Table.{table_size, word_size, word_count, no_word, first_word, words_in, bytes_of, word_at, filled, is_table, kept, read_table}
use Rattle.bill_table.specs.Promises.{WordTrips, TableTrips, ReadExactly}
use Rattle.bill_table.specs.declared.Word.{Word}
use Rattle.bill_table.proofs.Filling.{filled-size, filled-whole}

-- ---- words

words-again : (n : ℕ) (s : List ℕ) → length s ≡ word_size * n → bytes_of (words_in n s) ≡ s
words-again zero [] e = refl
words-again zero (a ∷ s) e = absurd (let h : suc (length s) ≡ 5 * 0 = e in omega arith)
words-again (suc n) [] e = absurd (let h : 0 ≡ 5 * suc n = e in omega arith)
words-again (suc n) (a ∷ []) e = absurd (let h : 1 ≡ 5 * suc n = e in omega arith)
words-again (suc n) (a ∷ b ∷ []) e = absurd (let h : 2 ≡ 5 * suc n = e in omega arith)
words-again (suc n) (a ∷ b ∷ c ∷ []) e = absurd (let h : 3 ≡ 5 * suc n = e in omega arith)
words-again (suc n) (a ∷ b ∷ c ∷ d ∷ []) e = absurd (let h : 4 ≡ 5 * suc n = e in omega arith)
words-again (suc n) (a ∷ b ∷ c ∷ d ∷ l ∷ s) e =
    ap (λ (t : List ℕ). a ∷ b ∷ c ∷ d ∷ l ∷ t)
    (words-again n s (let h : suc (suc (suc (suc (suc (length s))))) ≡ 5 * suc n = e in omega arith))

words_back : (ws : List Word) → words_in (length ws) (bytes_of ws) ≡ ws
words_back [] = refl
words_back (w ∷ ws) = ap (λ (l : List Word). w ∷ l) (words_back ws)

word-at : (n y : ℕ) (t : List ℕ) → y < n → first_word (drop (word_size * y) t) ≡ get_or (words_in n t) y no_word
word-at zero y t h = absurd (omega arith)
word-at (suc n) zero t h = refl
word-at (suc n) (suc y) t h =
    let e : 5 * suc y ≡ 5 + 5 * y = omega arith in
    let d : drop (5 * suc y) t ≡ drop (5 * y) (drop 5 t) = ap (λ k. drop k t) e ∙ sym (drop-drop (5 * y) 5 t) in
    ap first_word d ∙ word-at n y (drop 5 t) (omega arith)

pub word-trips : WordTrips
unfolding word_at
word-trips =
    record {
      again = words-again;
      back = words_back;
      at = λ t y h. rw (lt-ltb y word_count h) (word-at word_count y t h);
    }

-- ---- tables

pub read_taken : (body old : List ℕ) → length body ≤ table_size → read_table body old ≡ kept true (filled body)
unfolding read_table
read_taken body old h = rw (holds-true (is_table body) (omega (arith, h)))

pub read-other : (body old : List ℕ) → table_size < length body → read_table body old ≡ kept false old
unfolding read_table
read-other body old h = rw (fails-false (is_table body) (λ k. omega (arith, h, k)))

table-back : (t old room after : List ℕ) (n : ℕ) → length t ≡ table_size → writing t room ≡ written (Bytes n) after
    → read_table (take n after) old ≡ kept true t
unfolding writing
table-back t old room after n size e =
    let d = done-laid (writing_refusals t room) t room n after e in
    let is : take n after ≡ t = ap₂ take d.put d.left ∙ take-over t room in
    rw is (read_taken t old (omega arith) ∙ ap (kept true) (filled-whole t size))

table-again : (body old t room : List ℕ) → read_table body old ≡ kept true t → table_size ≤ length room
    → writing t room ≡ laid (body ++ replicate (table_size - length body) 0) room
unfolding filled
table-again body old t room e fits =
    by_cases (is_table body)
    (λ h.
    let is : filled body ≡ t = ap (λ k. k.table) (sym (read_taken body old h) ∙ e) in
    rw (← is) ((writing-exactly.long (filled body) room).1 (rw (filled-size body h) fits)))
    (λ n. absurd (true≢false (sym (ap (λ k. k.taken) (sym (read-other body old (omega (arith, n))) ∙ e)))))

pub table-trips : TableTrips
table-trips = record { back = table-back; again = table-again }

pub read-exactly : ReadExactly
read-exactly =
    record {
      taken = λ body old. (
        λ e. by_cases (is_table body) (λ h. h) (λ n. absurd (true≢false (sym e ∙ ap (λ k. k.taken) (read-other body old (omega (arith, n)))))),
        λ h. ap (λ k. k.taken) (read_taken body old h),
      );
      other = read-other;
    }
