-- The device's account is of the notes that its caller said were paid or rejected, and never cut: no more is told than commands were taken, and what is taken is told by the
-- history. Assumes nothing.
use Rattle.std.specs.Prelude.{Ok}
use Prim.Native.Nat.{ℕ, ◌+◌, ◌*◌, ◌≤◌, ◌<◌}
use mathlib.Core.Path.{◌≡◌, refl, sym, ap, ◌∙◌, subst}
use mathlib.Core.Bool.{true}
use mathlib.Core.List.{List, [], ◌∷◌, ◌++◌}
use native.Mathlib.Omega.{arith}
use lib.Dec.{lit≤}
use lib.ListN.{length, take, get_or}
use borrow.Author.Tests.{le-leb}
use Rattle.refusals.specs.Rules.{says, under, same}
use Rattle.refusals.proofs.Rules.{pick, either_way, certain}
use Rattle.xor_frame.specs.Layout.{all_in_range}
use Rattle.dispenser_frame_rules.specs.Table.{known, table, line_in, command_length}
use Rattle.dispenser_frame_rules.specs.Command.{read_command}
use Rattle.dispenser_frame_rules.specs.Answer.{answer_fits}
use Rattle.dispenser_frame_rules.specs.declared.answer.Cassette.{Cassette}
use Rattle.dispenser_frame_rules.specs.declared.answer.Cassette.TheVariants.{Upper, Lower}
use Rattle.dispenser_frame_rules.specs.declared.answer.Answer.{Answer}
use Rattle.dispenser_frame_rules.specs.declared.answer.Answer.TheVariants.{Purged, PaidOne, PaidBoth, Tested, Status}
use Rattle.dispenser_frame_rules.specs.CommandRead.{CommandRead}
use Rattle.dispenser_frame_rules.specs.CommandRead.{Read, Refused as NotRead}
use Rattle.ledger.specs.Events.{Event, hears, waits as passes, own, goes_on, closes, declined, done}
use Rattle.ledger.specs.Waiting.{some, from, waited}
use Rattle.ledger.specs.Calls.{Returned, gave, did, told as told_event, seen, run, history_from}
use Rattle.exchange_rules.specs.Sums.{plus}
use Rattle.exchange_rules.specs.declared.notes.Notes.{Notes}
use Rattle.pretend_rules.specs.Limits.{answer_limit, sending_limit, command_wait, silence, code_place}
use Rattle.pretend_rules.specs.Wire.{is_awaiting, sent}
use Rattle.pretend_rules.specs.Tally.{more, rejected_more, told}
use Rattle.pretend_rules.specs.Device.{StepAfter, step_after, done_after, refused_step, send, tell_refusals, tell_step, suits, by_telling, fresh_device, device_byte, device_tick, device_tell}
use Rattle.pretend_rules.specs.Calls.{Call, byte, tick, tell, called, returned, Close, took, ended, ending, host, History}
use Rattle.pretend_rules.specs.History.{tellings, paid_by, rejected_by, total, cassette, OwnAccount, Place, free, awaits, sends, place, come, begun, answered, sendings, turns, Due, due_full, due_again, due_byte, due_tick, due_by, Answers}
use Rattle.pretend_rules.specs.declared.tally.Tally.{Tally}
use Rattle.pretend_rules.specs.declared.tally.Tallies.{Tallies}
use Rattle.pretend_rules.specs.declared.device.Happening.{Happening}
use Rattle.pretend_rules.specs.declared.device.Happening.TheVariants.{Nothing, Taken, Ended}
use Rattle.pretend_rules.specs.declared.device.Device.{Device}
use Rattle.pretend_rules.proofs.Told.{Tracks, called-right, awaited, fresh-tracks}

-- ---- one answer

-- a sum that is far from the end of u32 is the plain sum
plus-plain : (a : Notes) (n : ℕ) → a.0 + n ≤ 4_294_967_295 → (plus a n).0 ≡ a.0 + n
unfolding plus
plus-plain a n h = rw (le-leb _ _ h)

-- no more than 99 notes of a cassette
record Modest (a : Answer) (c : Cassette) : Type 0 where
  paid : paid_by a c ≤ 99
  rejected : rejected_by a c ≤ 99

modest : (a : Answer) (c : Cassette) → (answer_fits a).holds → Modest a c
unfolding answer_fits all_in_range table line_in
modest (Purged e) c f = record { paid = lit≤ tt; rejected = lit≤ tt }
modest (PaidOne Upper k x e s r) Upper f = record { paid = omega (arith, f.0.1, f.1.0.1); rejected = f.1.1.1.1.0.1 }
modest (PaidOne Upper k x e s r) Lower f = record { paid = lit≤ tt; rejected = lit≤ tt }
modest (PaidOne Lower k x e s r) Upper f = record { paid = lit≤ tt; rejected = lit≤ tt }
modest (PaidOne Lower k x e s r) Lower f = record { paid = omega (arith, f.0.1, f.1.0.1); rejected = f.1.1.1.1.0.1 }
modest (PaidBoth uc ux lc lx o us ls ur lr) Upper f = record { paid = omega (arith, f.1.0.1); rejected = f.1.1.1.1.1.1.1.0.1 }
modest (PaidBoth uc ux lc lx o us ls ur lr) Lower f = record { paid = omega (arith, f.1.1.1.0.1); rejected = f.1.1.1.1.1.1.1.1.0.1 }
modest (Tested Upper k o s r) Upper f = record { paid = lit≤ tt; rejected = f.1.1.1.1.1.0.1 }
modest (Tested Upper k o s r) Lower f = record { paid = lit≤ tt; rejected = lit≤ tt }
modest (Tested Lower k o s r) Upper f = record { paid = lit≤ tt; rejected = lit≤ tt }
modest (Tested Lower k o s r) Lower f = record { paid = lit≤ tt; rejected = f.1.1.1.1.1.0.1 }
modest (Status e s0 s1) c f = record { paid = lit≤ tt; rejected = lit≤ tt }

-- what an answer adds to a cassette, where there is room
record Adds (t : Tallies) (a : Answer) (c : Cassette) : Type 0 where
  paid : (cassette (told t a) c).paid.0 ≡ (cassette t c).paid.0 + paid_by a c
  rejected : (cassette (told t a) c).rejected.0 ≡ (cassette t c).rejected.0 + rejected_by a c

-- with room for one answer more
record Roomy (t : Tally) : Type 0 where
  paid : t.paid.0 ≤ 99_000_000
  rejected : t.rejected.0 ≤ 99_000_000

adds : (t : Tallies) (a : Answer) (c : Cassette) → Roomy (cassette t c) → Modest a c → Adds t a c
unfolding more rejected_more
adds t (Purged e) Upper h m = record { paid = omega arith; rejected = omega arith }
adds t (Purged e) Lower h m = record { paid = omega arith; rejected = omega arith }
adds t (PaidOne Upper k x e s r) Upper h m =
    record { paid = plus-plain t.upper.paid (paid_by (PaidOne Upper k x e s r) Upper) (omega (arith, h.paid, m.paid)); rejected = plus-plain t.upper.rejected r (omega (arith, h.rejected, m.rejected)) }
adds t (PaidOne Upper k x e s r) Lower h m = record { paid = omega arith; rejected = omega arith }
adds t (PaidOne Lower k x e s r) Upper h m = record { paid = omega arith; rejected = omega arith }
adds t (PaidOne Lower k x e s r) Lower h m =
    record { paid = plus-plain t.lower.paid (paid_by (PaidOne Lower k x e s r) Lower) (omega (arith, h.paid, m.paid)); rejected = plus-plain t.lower.rejected r (omega (arith, h.rejected, m.rejected)) }
adds t (PaidBoth uc ux lc lx e us ls ur lr) Upper h m =
    record { paid = plus-plain t.upper.paid ux (omega (arith, h.paid, m.paid)); rejected = plus-plain t.upper.rejected ur (omega (arith, h.rejected, m.rejected)) }
adds t (PaidBoth uc ux lc lx e us ls ur lr) Lower h m =
    record { paid = plus-plain t.lower.paid lx (omega (arith, h.paid, m.paid)); rejected = plus-plain t.lower.rejected lr (omega (arith, h.rejected, m.rejected)) }
adds t (Tested Upper k e s r) Upper h m =
    record { paid = omega arith; rejected = plus-plain t.upper.rejected r (omega (arith, h.rejected, m.rejected)) }
adds t (Tested Upper k e s r) Lower h m = record { paid = omega arith; rejected = omega arith }
adds t (Tested Lower k e s r) Upper h m = record { paid = omega arith; rejected = omega arith }
adds t (Tested Lower k e s r) Lower h m =
    record { paid = omega arith; rejected = plus-plain t.lower.rejected r (omega (arith, h.rejected, m.rejected)) }
adds t (Status e s0 s1) Upper h m = record { paid = omega arith; rejected = omega arith }
adds t (Status e s0 s1) Lower h m = record { paid = omega arith; rejected = omega arith }

-- ---- the history: a telling is owed for each command answered 06h

abbrev owing : Place → ℕ
owing free = 0
owing (awaits code) = 1
owing (sends a) = 0

-- a command is taken only where one more may be
abbrev Spare : ℕ → Happening → Type 0
Spare n Nothing = Unit {0}
Spare n (Taken code upper lower) = n < answer_limit
Spare n Ended = Unit {0}

abbrev Spared : ℕ → Due → Type 0
Spared n u = Spare n u.what

full-spared : (n : ℕ) (y : CommandRead) → Spared n (due_full n y)
full-spared n (Ok command) = pick (Spared n) (under n answer_limit) _ _ (λ h. h) (λ m. tt)
full-spared n (NotRead fault) = tt

again-spared : (n k : ℕ) (a : Answer) → Spared n (due_again k a)
again-spared n k a = pick (Spared n) (under k sending_limit) _ _ (λ h. tt) (λ m. tt)

byte-spared : (h : History) (p : Place) (b : ℕ) → Spared (answered h) (due_byte h p b)
byte-spared h free b =
    let f = from 0x04 (come h ++ (b ∷ [])) in
    pick (Spared (answered h)) (under (length f) (code_place + 1)) _ _ (λ g. tt)
    (λ n.
    pick (Spared (answered h)) (known (get_or f code_place 0)) _ _
    (λ k. pick (Spared (answered h)) (under (length f) (command_length (get_or f code_place 0))) _ _ (λ g. tt) (λ m. full-spared (answered h) (read_command f)))
    (λ k. tt))
byte-spared h (awaits code) b = tt
byte-spared h (sends a) b =
    pick (Spared (answered h)) (same b 0x06) _ _ (λ g. tt)
    (λ n. pick (Spared (answered h)) (same b 0x15) _ _ (λ g. again-spared (answered h) (sendings h) a) (λ m. tt))

tick-spared : (h : History) (p : Place) (ms : ℕ) → Spared (answered h) (due_tick h p ms)
tick-spared h free ms =
    pick (Spared (answered h)) (says (some (begun h))) _ _
    (λ g. pick (Spared (answered h)) (under (waited turns h + ms) command_wait) _ _ (λ g. tt) (λ m. tt))
    (λ n. tt)
tick-spared h (awaits code) ms = tt
tick-spared h (sends a) ms =
    pick (Spared (answered h)) (under (waited turns h + ms) silence) _ _ (λ g. tt) (λ n. again-spared (answered h) (sendings h) a)

-- ---- what every account keeps that calls lead to from a fresh device, with their history

record Kept (t : Tallies) (h : History) : Type 0 where
  paid : (c : Cassette) → (cassette t c).paid.0 ≡ total paid_by (tellings h) c
  rejected : (c : Cassette) → (cassette t c).rejected.0 ≡ total rejected_by (tellings h) c
  paid_most : (c : Cassette) → total paid_by (tellings h) c ≤ 99 * length (tellings h)
  rejected_most : (c : Cassette) → total rejected_by (tellings h) c ≤ 99 * length (tellings h)
  few : length (tellings h) + owing (place h) ≤ answered h
  most : answered h ≤ answer_limit

-- nothing was told
kept_on : (t : Tallies) (h : History) (e : Event ⊥ Answer Close) → tellings (e ∷ h) ≡ tellings h → length (tellings h) + owing (place (e ∷ h)) ≤ answered (e ∷ h)
    → answered (e ∷ h) ≤ answer_limit → Kept t h → Kept t (e ∷ h)
kept_on t h e same few most k =
    record {
      paid = λ c. k.paid c ∙ ap (λ (l : List Answer). total paid_by l c) (sym same);
      rejected = λ c. k.rejected c ∙ ap (λ (l : List Answer). total rejected_by l c) (sym same);
      paid_most = λ c. subst (λ (l : List Answer). total paid_by l c ≤ 99 * length l) (sym same) (k.paid_most c);
      rejected_most = λ c. subst (λ (l : List Answer). total rejected_by l c ≤ 99 * length l) (sym same) (k.rejected_most c);
      few = subst (λ (l : List Answer). length l + owing (place (e ∷ h)) ≤ answered (e ∷ h)) (sym same) few;
      most = most;
    }

-- a byte or a tick, of which this came
module _ (t : Tallies) (h : History) (k : Kept t h) where
  byte-kept : (b : ℕ) (put : List ℕ) (what : Happening) → Spare (answered h) what → Kept t (done (hears b) put (ending what) ∷ h)
  unfolding tellings place answered
  byte-kept b put Nothing s = kept_on t h (done (hears b) put goes_on) refl (omega (arith, k.few)) (omega (arith, k.most)) k
  byte-kept b put (Taken code upper lower) s = kept_on t h (done (hears b) put (closes (took code))) refl (omega (arith, k.few)) (omega (arith, s)) k
  byte-kept b put Ended s = kept_on t h (done (hears b) put (closes ended)) refl (omega (arith, k.few)) (omega (arith, k.most)) k

  tick-kept : (ms : ℕ) (put : List ℕ) (what : Happening) → Spare (answered h) what → Kept t (done (passes ms) put (ending what) ∷ h)
  unfolding tellings place answered
  tick-kept ms put Nothing s = kept_on t h (done (passes ms) put goes_on) refl (omega (arith, k.few)) (omega (arith, k.most)) k
  tick-kept ms put (Taken code upper lower) s = kept_on t h (done (passes ms) put (closes (took code))) refl (omega (arith, k.few)) (omega (arith, s)) k
  tick-kept ms put Ended s = kept_on t h (done (passes ms) put (closes ended)) refl (omega (arith, k.few)) (omega (arith, k.most)) k

  declined-kept : Kept t (declined ∷ h)
  unfolding tellings place answered
  declined-kept = kept_on t h declined refl k.few k.most k

  -- the fields were told, where they were awaited
  told-kept : (a : Answer) (code : ℕ) (put : List ℕ) → (answer_fits a).holds → place h ≡ awaits code → Kept (told t a) (done (own a) put goes_on ∷ h)
  unfolding total tellings place answered
  told-kept a code put f p =
      let few : length (tellings h) + 1 ≤ answered h = omega (arith, k.few, ap owing p) in
      let adds-at : ((c : Cassette) → Adds t a c) = λ c.
      adds t a c
      (record { paid = omega (arith, k.paid c, k.paid_most c, few, k.most); rejected = omega (arith, k.rejected c, k.rejected_most c, few, k.most) })
      (modest a c f) in
      record {
        paid = λ c. (adds-at c).paid ∙ ap (λ (n : ℕ). n + paid_by a c) (k.paid c);
        rejected = λ c. (adds-at c).rejected ∙ ap (λ (n : ℕ). n + rejected_by a c) (k.rejected c);
        paid_most = λ c. omega (arith, k.paid_most c, (modest a c f).paid);
        rejected_most = λ c. omega (arith, k.rejected_most c, (modest a c f).rejected);
        few = omega (arith, few);
        most = omega (arith, k.most);
      }

-- ---- the calls

module _ (d : Device) (h : History) (t : Tracks d h) (k : Kept d.tallies h) where
  -- what a byte or a tick returned, by what was due
  byte-returned : (b : ℕ) (p : Returned Happening) (before room : List ℕ) → Answers (due_by h (hears b)) before p room → Kept d.tallies (told_event ending (hears b) p room ∷ h)
  byte-returned b (gave why) before room a = declined-kept d.tallies h k
  byte-returned b (did n what) before room a =
      byte-kept d.tallies h k b (take n room) what (subst (Spare (answered h)) (sym a.1.0) (byte-spared h (place h) b))

  tick-returned : (ms : ℕ) (p : Returned Happening) (before room : List ℕ) → Answers (due_by h (passes ms)) before p room
      → Kept d.tallies (told_event ending (passes ms) p room ∷ h)
  tick-returned ms (gave why) before room a = declined-kept d.tallies h k
  tick-returned ms (did n what) before room a =
      tick-kept d.tallies h k ms (take n room) what (subst (Spare (answered h)) (sym a.1.0) (tick-spared h (place h) ms))

  called-kept : (c : Call) → Kept (called d c).session.tallies (seen host d c ∷ h)
  unfolding device_byte device_tick device_tell tell_step tell_refusals
  called-kept (byte b r) = byte-returned b (returned (device_byte d b r).reply) r (device_byte d b r).room (called-right d h t (byte b r)).0
  called-kept (tick ms r) = tick-returned ms (returned (device_tick d ms r).reply) r (device_tick d ms r).room (called-right d h t (tick ms r)).0
  called-kept (tell a r) =
      either_way
      (λ (w : StepAfter). Kept (by_telling d a w).session.tallies (told_event ending (own a) (returned w.reply) w.room ∷ h))
      (tell_refusals d.wire d.code a r) (λ why. step_after (refused_step d.wire why) r)
      (done_after (sent d.wire 1) (send a r).put Nothing (send a r).room)
      (λ why. declined-kept d.tallies h k)
      (λ n.
      let waited : is_awaiting d.wire.stand ≡ true = certain (says (is_awaiting d.wire.stand)) n.1.1.0 in
      told-kept d.tallies h k a d.code (take (send a r).put (send a r).room) (certain (suits a d.code) (λ m. n.1.0 (waited, m))).1 (awaited d h t waited))

run-kept : (d : Device) (h : History) (cs : List Call) → Tracks d h → Kept d.tallies h → Kept (run host d cs).tallies (history_from host d h cs)
unfolding run history_from
run-kept d h [] t k = k
run-kept d h (c ∷ cs) t k = run-kept (called d c).session (seen host d c ∷ h) cs (called-right d h t c).1 (called-kept d h t k c)

fresh_kept : Kept fresh_device.tallies []
unfolding fresh_device total tellings place answered
fresh_kept =
    record {
      paid = zero-paid;
      rejected = zero-rejected;
      paid_most = λ c. lit≤ tt;
      rejected_most = λ c. lit≤ tt;
      few = lit≤ tt;
      most = lit≤ tt;
    }
  where
    zero-paid : (c : Cassette) → (cassette fresh_device.tallies c).paid.0 ≡ 0
    zero-paid Upper = refl
    zero-paid Lower = refl

    zero-rejected : (c : Cassette) → (cassette fresh_device.tallies c).rejected.0 ≡ 0
    zero-rejected Upper = refl
    zero-rejected Lower = refl

pub own-account : OwnAccount
own-account =
    record {
      paid = λ cs. (run-kept fresh_device [] cs fresh-tracks fresh_kept).paid;
      rejected = λ cs. (run-kept fresh_device [] cs fresh-tracks fresh_kept).rejected;
    }
