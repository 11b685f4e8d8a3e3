-- What is promised of the bill table and of what bills are worth: the statements, proved in proofs/Trips.antt and proofs/Exact.antt.
use Rattle.std.specs.Prelude.{ℕ, ◌+◌, ◌-◌, ◌*◌, ◌^◌, ◌≤◌, ◌<◌, ◌≡◌, true, false, List, ◌++◌, ◌↔◌, length, get_or, take, replicate}
use Rattle.refusals.specs.Numbers.{refusal_number}
use Rattle.refusals.specs.Put.{written, laid, writing}
use Rattle.refusals.specs.Put.{Bytes}
use Rattle.refusals.specs.declared.Refusal.TheVariants.{Range}
use Rattle.bill_table.specs.Table.{table_size, word_size, word_count, no_word, words_in, bytes_of, word_at, kept, read_table}
use Rattle.bill_table.specs.Worth.{most_bills, value, meaning_of, total_of}
use Rattle.bill_table.specs.declared.Word.{Word}
use Rattle.bill_table.specs.declared.Value.{Value}
use Rattle.bill_table.specs.declared.Meaning.TheVariants.{NoBill, Unusable, Valued}
use Rattle.bill_table.specs.Total.{NoValue, Sum, Refused}

-- bytes as words, once for every number of words: the bytes of the words that some bytes are, are those bytes; and the words that stand in the bytes of some
-- words are those words. The word of a bill type is the one at its place among the 24
pub record WordTrips : Type 0 where
  pub again : (n : ℕ) (s : List ℕ) → length s ≡ word_size * n → bytes_of (words_in n s) ≡ s
  pub back : (ws : List Word) → words_in (length ws) (bytes_of ws) ≡ ws
  pub at : (t : List ℕ) (y : ℕ) → y < word_count → word_at t y ≡ get_or (words_in word_count t) y no_word

-- reading undoes writing, for all 120 bytes and whatever table was there before; and what was read, written again, is the body filled up with zeros, in a room
-- of 120 bytes or more
pub record TableTrips : Type 0 where
  pub back : (t old room after : List ℕ) (n : ℕ) → length t ≡ table_size → writing t room ≡ written (Bytes n) after
      → read_table (take n after) old ≡ kept true t
  pub again : (body old t room : List ℕ) → read_table body old ≡ kept true t → table_size ≤ length room
      → writing t room ≡ laid (body ++ replicate (table_size - length body) 0) room

-- a body is taken for a table exactly where it has at most 120 bytes; one that is not leaves the table
pub record ReadExactly : Type 0 where
  pub taken : (body old : List ℕ) → ((read_table body old).taken ≡ true) ↔ (length body ≤ table_size)
  pub other : (body old : List ℕ) → table_size < length body → read_table body old ≡ kept false old

-- exactly which words are usable: "Zeros or places above 9, or letters not A to Z, make the word unusable, an all-zero word means no such bill"
abbrev pub AllZero : Word → Type 0
AllZero w = w ≡ no_word

pub record Usable (w : Word) : Type 0 where
  pub one : (0x41 ≤ w.letters.0) × (w.letters.0 ≤ 0x5A)
  pub two : (0x41 ≤ w.letters.1) × (w.letters.1 ≤ 0x5A)
  pub three : (0x41 ≤ w.letters.2) × (w.letters.2 ≤ 0x5A)
  pub zeros : w.last < 0x80 → w.last ≤ 9
  pub places : 0x80 ≤ w.last → w.last - 0x80 ≤ 9

pub record MeansExactly : Type 0 where
  pub nothing : (w : Word) → (meaning_of w ≡ NoBill) ↔ AllZero w
  pub valued : (w : Word) → ((v : Value) × (meaning_of w ≡ Valued v)) ↔ Usable w
  pub rest : (w : Word) → (meaning_of w ≡ Unusable) ↔ ((AllZero w → ⊥) × (Usable w → ⊥))

-- "an exact total for each type .. count times value with its number of decimals": zeros z give count × first × 10^z with 0 decimals, places p give count × first
-- with p decimals. It is as many times what one bill is worth, with the same letters and decimals; and it fits, since the largest is 1,000,000 × 255 × 10^9
pub record TotalsExact : Type 0 where
  pub zeros : (w : Word) (z count : ℕ) → Usable w → w.last ≡ z → z < 0x80 → count ≤ most_bills
      → total_of w count ≡ Sum (value (count * w.first * 10 ^ z) w.letters 0)
  pub places : (w : Word) (p count : ℕ) → Usable w → w.last ≡ 0x80 + p → count ≤ most_bills
      → total_of w count ≡ Sum (value (count * w.first) w.letters p)
  pub times : (w : Word) (count : ℕ) (one all : Value) → meaning_of w ≡ Valued one → total_of w count ≡ Sum all
      → all ≡ value (count * one.whole) one.letters one.decimals
  pub fits : (w : Word) (count : ℕ) (all : Value) → w.first < 256 → total_of w count ≡ Sum all → all.whole ≤ 255_000_000_000_000_000

-- "Given exactly when": a sum exactly for a usable word and a count of at most 1,000,000, number 2 exactly for a larger count, and else nothing
pub record TotalExactly : Type 0 where
  pub sum : (w : Word) (count : ℕ) → ((all : Value) × (total_of w count ≡ Sum all)) ↔ (Usable w × (count ≤ most_bills))
  pub refused : (w : Word) (count : ℕ) → (total_of w count ≡ Refused Range) ↔ (most_bills < count)
  pub none : (w : Word) (count : ℕ) → (total_of w count ≡ NoValue) ↔ ((Usable w → ⊥) × (count ≤ most_bills))
  pub number : refusal_number Range ≡ 2
