-- The bill table (02, Q-1, and 003): "its 120-byte answer, 24 words of five bytes".
use Rattle.std.specs.Prelude.{ℕ, suc, zero, ◌-◌, ◌*◌, Bool, true, false, cond, List, [], ◌∷◌, ◌++◌, ltb, length, get_or, drop, replicate}
use Rattle.refusals.specs.Rules.{Condition, at_most}
use Rattle.bill_table.specs.declared.Letters.{Letters}
use Rattle.bill_table.specs.declared.Word.{Word}

-- how many bytes a table has, how many a word, and how many words that makes
abbrev pub table_size : ℕ
table_size = 120

abbrev pub word_size : ℕ
word_size = 5

abbrev pub word_count : ℕ
word_count = 24

-- ---- words

abbrev pub letters : ℕ → ℕ → ℕ → Letters
letters a b c = record { 0 = a; 1 = b; 2 = c }

abbrev pub word : ℕ → ℕ → ℕ → ℕ → ℕ → Word
word first a b c last = record { first = first; letters = letters a b c; last = last }

-- five zeros: no such bill
abbrev pub no_word : Word
no_word = word 0 0 0 0 0

-- "A word has leading digits, three letters, and a last byte": its five bytes
abbrev pub word_bytes : Word → List ℕ
word_bytes w = w.first ∷ w.letters.0 ∷ w.letters.1 ∷ w.letters.2 ∷ w.last ∷ []

-- the word that stands at the start of some bytes; bytes that are not there count as zero
abbrev pub first_word : List ℕ → Word
first_word s = word (get_or s 0 0) (get_or s 1 0) (get_or s 2 0) (get_or s 3 0) (get_or s 4 0)

-- so many words, one behind the other
abbrev pub words_in : ℕ → List ℕ → List Word
words_in zero s = []
words_in (suc n) s = first_word s ∷ words_in n (drop word_size s)

-- and the bytes of some words
abbrev pub bytes_of : List Word → List ℕ
bytes_of [] = []
bytes_of (w ∷ ws) = word_bytes w ++ bytes_of ws

-- the word of a bill type: "first five bytes correspond to bill type=0, second five bytes correspond to bill type=1 and so on" (003)
-- where there is no such type, that of no bill
unfoldable pub word_at : List ℕ → ℕ → Word
word_at t y = cond (ltb y word_count) (first_word (drop (word_size * y) t)) no_word

-- ---- reading

-- "unsent bytes count as zero"
unfoldable pub filled : List ℕ → List ℕ
filled body = body ++ replicate (table_size - length body) 0

-- "A body over 120 bytes is unknown"
abbrev pub is_table : List ℕ → Condition
is_table body = at_most (length body) table_size

-- whether a body was taken for a table, and the table afterwards
pub record Kept : Type 0 where
  pub taken : Bool
  pub table : List ℕ

abbrev pub kept : Bool → List ℕ → Kept
kept taken table = record { taken = taken; table = table }

-- "the last table read holds, its words' bytes kept"
unfoldable pub read_table : List ℕ → List ℕ → Kept
read_table body table = cond (is_table body).test (kept true (filled body)) (kept false table)
