-- The bill table that a history gives is of bytes, since the bytes accepted are. Assumes nothing.
use Prim.Native.Nat.{ℕ, zero, suc, ◌+◌, ◌-◌, ◌*◌, ◌<◌}
use mathlib.Core.Path.{sym, subst}
use mathlib.Core.Bool.{Bool, true, false, cond}
use mathlib.Core.List.{List, [], ◌∷◌, ◌++◌}
use native.Mathlib.Omega.{arith}
use lib.Dec.{eqb, lit<}
use lib.ListN.{length, take, drop, replicate, length-take, get_or-eq_default}
use lib.Seq.{get_or-take, get_or-drop}
use Rattle.refusals.specs.Rules.{under, within}
use Rattle.refusals.proofs.Rules.{by_cases, pick}
use Rattle.numbers.specs.Promises.{AllBytes}
use Rattle.bill_table.specs.Table.{no_word, first_word, word_at}
use Rattle.bill_table.specs.declared.Word.{Word}
use Rattle.ledger.specs.Events.{Deed, asks, hears, waits, own, goes_on, closes, declined, done, is_frame, since}
use Rattle.ledger.specs.Calls.{Returned, gave, did, told, history_from}
use Rattle.validator_rules.specs.Session.{fresh_session, session_request, session_byte, session_tick}
use Rattle.validator_rules.specs.Calls.{Call, request, byte, tick, Request, Own, Ending, acknowledged, not_acknowledged, illegal_command, answered, damaged, silent, Known, Past, returned, ending, host, history}
use Rattle.validator_rules.specs.History.{last_code, from_start, between, body_by, answer_to, table_by}
use Rattle.validator_rules.specs.declared.session.Closing.{Closing}
use Rattle.validator_rules.specs.declared.session.Session.{Session}
use Rattle.validator_rules.proofs.Past.{bytes-more}

-- ---- lists of bytes

no_bytes : AllBytes []
no_bytes i = lit< tt

bytes-append : (s t : List ℕ) → AllBytes s → AllBytes t → AllBytes (s ++ t)
bytes-append [] t a b i = b i
bytes-append (x ∷ s) t a b zero = a 0
bytes-append (x ∷ s) t a b (suc i) = bytes-append s t (λ j. a (suc j)) b i

bytes-zeros : (n : ℕ) → AllBytes (replicate n 0)
bytes-zeros zero i = lit< tt
bytes-zeros (suc n) zero = lit< tt
bytes-zeros (suc n) (suc i) = bytes-zeros n i

bytes_drop : (n : ℕ) (s : List ℕ) → AllBytes s → AllBytes (drop n s)
bytes_drop n s a i = subst (λ (x : ℕ). x < 256) (sym (get_or-drop n s i 0)) (a (n + i))

bytes_take : (n : ℕ) (s : List ℕ) → AllBytes s → AllBytes (take n s)
bytes_take n s a i =
    by_cases (under i n)
    (λ h. subst (λ (x : ℕ). x < 256) (sym (get_or-take n s i 0 h)) (a i))
    (λ h. subst (λ (x : ℕ). x < 256) (sym (get_or-eq_default (take n s) 0 (omega (arith, h, length-take n s)))) (lit< tt))

bytes-start : (s : List ℕ) → AllBytes s → AllBytes (from_start s)
unfolding from_start
bytes-start [] a = a
bytes-start (b ∷ s) a = by (bytes-start s (λ i. a (suc i))) (eqb b 0x02)
  where
    by : AllBytes (from_start s) → (t : Bool) → AllBytes (cond t (b ∷ s) (from_start s))
    by rest true = a
    by rest false = rest

bytes-between : (f : List ℕ) → AllBytes f → AllBytes (between f)
unfolding between
bytes-between f a = bytes_take (length f - 5) (drop 3 f) (bytes_drop 3 f a)

-- ---- histories

abbrev SmallDeed : Deed Request Own → Type 0
SmallDeed (asks q) = Unit {0}
SmallDeed (hears b) = b < 256
SmallDeed (waits ms) = Unit {0}
SmallDeed (own o) = Unit {0}

abbrev Small : Past → Type 0
Small [] = Unit {0}
Small (declined ∷ h) = Small h
Small (done d put left ∷ h) = SmallDeed d × Small h

told-small : (d : Deed Request Own) → SmallDeed d → (p : Returned Closing) (room : List ℕ) (h : Past) → Small h → Small (told ending d p room ∷ h)
told-small d a (gave why) room h k = k
told-small d a (did n c) room h k = (a, k)

small-from : (s : Session) (h : Past) (cs : List Call) → Small h → Small (history_from host s h cs)
unfolding history_from
small-from s h [] k = k
small-from s h (request code given r ∷ cs) k = small-from (session_request s code given r).session _ cs (told-small (asks (record { code = code; given = given })) tt (returned (session_request s code given r).reply) (session_request s code given r).room h k)
small-from s h (byte b small r ∷ cs) k = small-from (session_byte s b r).session _ cs (told-small (hears b) small (returned (session_byte s b r).reply) (session_byte s b r).room h k)
small-from s h (tick ms r ∷ cs) k = small-from (session_tick s ms r).session _ cs (told-small (waits ms) tt (returned (session_tick s ms r).reply) (session_tick s ms r).room h k)

-- of nothing and bytes
either : (t : Bool) (s : List ℕ) → AllBytes s → AllBytes (cond t [] s)
either true s a = no_bytes
either false s a = a

since-bytes : (h : Past) → Small h → AllBytes (since h)
unfolding since
since-bytes [] k = no_bytes
since-bytes (declined ∷ h) k = since-bytes h k
since-bytes (done (asks q) put left ∷ h) k = either (is_frame put) (since h ++ []) (bytes-append (since h) [] (since-bytes h k.1) no_bytes)
since-bytes (done (hears b) put left ∷ h) k = either (is_frame put) (since h ++ (b ∷ [])) (bytes-more (since h) b (since-bytes h k.1) k.0)
since-bytes (done (waits ms) put left ∷ h) k = either (is_frame put) (since h ++ []) (bytes-append (since h) [] (since-bytes h k.1) no_bytes)
since-bytes (done (own o) put left ∷ h) k = absurd o

body_bytes : (m : Ending) (h : Past) (b : ℕ) → Small h → b < 256 → AllBytes (body_by m 0x41 h b)
body_bytes acknowledged h b k l = no_bytes
body_bytes not_acknowledged h b k l = no_bytes
body_bytes illegal_command h b k l = no_bytes
body_bytes (answered c) h b k l = by (eqb (last_code h) 0x41)
  where
    by : (t : Bool) → AllBytes (cond t (between (from_start (since h ++ (b ∷ [])))) [])
    by true = bytes-between _ (bytes-start _ (bytes-more (since h) b (since-bytes h k) l))
    by false = no_bytes
body_bytes damaged h b k l = no_bytes
body_bytes silent h b k l = no_bytes

answer-bytes : (e : Known) (h : Past) → Small (e ∷ h) → AllBytes (answer_to 0x41 e h)
answer-bytes declined h k = no_bytes
answer-bytes (done (asks q) put left) h k = no_bytes
answer-bytes (done (hears b) put goes_on) h k = no_bytes
answer-bytes (done (hears b) put (closes m)) h k = body_bytes m h b k.1 k.0
answer-bytes (done (waits ms) put left) h k = no_bytes
answer-bytes (done (own o) put left) h k = absurd o

older : (e : Known) (h : Past) → Small (e ∷ h) → Small h
older declined h k = k
older (done d put left) h k = k.1

table-bytes : (h : Past) → Small h → AllBytes (table_by h)
unfolding table_by
table-bytes [] k = bytes-zeros 120
table-bytes (e ∷ h) k =
    pick AllBytes (within 1 120 (length (answer_to 0x41 e h))) _ _
    (λ w. bytes-append (answer_to 0x41 e h) _ (answer-bytes e h k) (bytes-zeros (120 - length (answer_to 0x41 e h))))
    (λ n. table-bytes h (older e h k))

-- so the first byte of each word is below 256
pub first_small : (cs : List Call) (y : ℕ) → (word_at (table_by (history cs)) y).first < 256
unfolding word_at
first_small cs y =
    pick (λ (w : Word). w.first < 256) (under y 24) (first_word (drop (5 * y) (table_by (history cs)))) no_word
    (λ h. bytes_drop (5 * y) (table_by (history cs)) (table-bytes (history cs) (small-from fresh_session [] cs tt)) 0)
    (λ n. lit< tt)
