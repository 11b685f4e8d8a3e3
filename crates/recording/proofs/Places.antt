-- Inside a record, whatever number of it the next byte belongs to. Assumes nothing.
use Prim.Native.Nat.{ℕ, zero, suc, ◌≤◌}
use mathlib.Core.Path.{◌≡◌, refl}
use mathlib.Core.List.{List, [], ◌∷◌}
use denote.Enum.Declared.{tag_of}
use native.Mathlib.Omega.{arith}
use types.Run.{OneOf, hit, miss}
use Rattle.recording.specs.Record.{is_kind}
use Rattle.recording.specs.Reading.{awaiting, more, refused_at, kind_byte, grouped, byte_in, read_byte, ended_in, ended, past_in}
use Rattle.recording.specs.Scaffolding.{place_of}
use Rattle.recording.specs.declared.Fault.{Fault}
use Rattle.recording.specs.declared.Fault.TheVariants.{Cut, Unknown, Long}
use Rattle.recording.specs.declared.Place.{Place}
use Rattle.recording.specs.declared.Place.TheVariants.{Kind, Code, Upper, Lower, FromDispenser, Milliseconds, FromValidator, ToValidator, Broken}
use Rattle.recording.specs.declared.Reader.{Reader}
use Rattle.recording.specs.Verdict.{Bad as NotGood}
use Rattle.recording.specs.contracts.Place.{the_type}

-- the places of a number
abbrev pub within : List ℕ
within = 1 ∷ 2 ∷ 3 ∷ 4 ∷ 5 ∷ 6 ∷ 7 ∷ []

abbrev pub Inside : Place → Type 0
Inside p = OneOf within (tag_of the_type p)

-- no fault was met: between records or inside one
abbrev pub Sound : Place → Type 0
Sound p = OneOf (0 ∷ within) (tag_of the_type p)

-- a place that is not the broken one, and a place that is not the kind byte's besides
pub sound-unless : (p : Place) → ((why : Fault) → p ≡ Broken why → ⊥) → Sound p
sound-unless Kind n = hit (0 ∷ within) 0 tt
sound-unless Code n = hit (0 ∷ within) 1 tt
sound-unless Upper n = hit (0 ∷ within) 2 tt
sound-unless Lower n = hit (0 ∷ within) 3 tt
sound-unless FromDispenser n = hit (0 ∷ within) 4 tt
sound-unless Milliseconds n = hit (0 ∷ within) 5 tt
sound-unless FromValidator n = hit (0 ∷ within) 6 tt
sound-unless ToValidator n = hit (0 ∷ within) 7 tt
sound-unless (Broken why) n = absurd (n why refl)

pub inside-unless : (p : Place) → (p ≡ Kind → ⊥) → ((why : Fault) → p ≡ Broken why → ⊥) → Inside p
inside-unless Kind k n = absurd (k refl)
inside-unless Code k n = hit within 1 tt
inside-unless Upper k n = hit within 2 tt
inside-unless Lower k n = hit within 3 tt
inside-unless FromDispenser k n = hit within 4 tt
inside-unless Milliseconds k n = hit within 5 tt
inside-unless FromValidator k n = hit within 6 tt
inside-unless ToValidator k n = hit within 7 tt
inside-unless (Broken why) k n = absurd (n why refl)

-- past the limit that is 24
pub past-sound : (p : Place) → Sound p → (r : Reader) (at : ℕ) → past_in p r at ≡ refused_at at Long
past-sound Kind h r at = refl
past-sound Code h r at = refl
past-sound Upper h r at = refl
past-sound Lower h r at = refl
past-sound FromDispenser h r at = refl
past-sound Milliseconds h r at = refl
past-sound FromValidator h r at = refl
past-sound ToValidator h r at = refl
past-sound (Broken why) h r at = absurd (miss (0 ∷ within) 8 tt h)

byte_inside : (p : Place) → Inside p → (r : Reader) (at b : ℕ) → byte_in p r at b ≡ grouped r b
byte_inside Kind h r at b = absurd (miss within 0 tt h)
byte_inside Code h r at b = refl
byte_inside Upper h r at b = refl
byte_inside Lower h r at b = refl
byte_inside FromDispenser h r at b = refl
byte_inside Milliseconds h r at b = refl
byte_inside FromValidator h r at b = refl
byte_inside ToValidator h r at b = refl
byte_inside (Broken why) h r at b = absurd (miss within 8 tt h)

-- a byte is a group of a number
pub begun-byte : (r : Reader) (at b : ℕ) → Inside r.place → read_byte r at b ≡ grouped r b
unfolding read_byte
begun-byte r at b h = byte_inside r.place h r at b

ended-inside : (p : Place) → Inside p → (r : Reader) → ended_in p r ≡ NotGood Cut r.start
ended-inside Kind h r = absurd (miss within 0 tt h)
ended-inside Code h r = refl
ended-inside Upper h r = refl
ended-inside Lower h r = refl
ended-inside FromDispenser h r = refl
ended-inside Milliseconds h r = refl
ended-inside FromValidator h r = refl
ended-inside ToValidator h r = refl
ended-inside (Broken why) h r = absurd (miss within 8 tt h)

-- the end is in a record
pub begun-ended : (r : Reader) → Inside r.place → ended r ≡ NotGood Cut r.start
unfolding ended
begun-ended r h = ended-inside r.place h r

-- ---- kinds

pub other-kind : (at k : ℕ) → ((is_kind k).holds → ⊥) → kind_byte at k ≡ refused_at at Unknown
unfolding kind_byte
other-kind at zero h = absurd (h (omega arith))
other-kind at (suc zero) h = absurd (h (omega arith))
other-kind at (suc (suc zero)) h = absurd (h (omega arith))
other-kind at (suc (suc (suc zero))) h = absurd (h (omega arith))
other-kind at (suc (suc (suc (suc zero)))) h = absurd (h (omega arith))
other-kind at (suc (suc (suc (suc (suc zero))))) h = absurd (h (omega arith))
other-kind at (suc (suc (suc (suc (suc (suc k)))))) h = refl

-- kinds 0 to 4 have numbers: one is read behind them
pub with_number : (at k : ℕ) → k ≤ 4 → kind_byte at k ≡ more (awaiting at (place_of k))
unfolding kind_byte
with_number at zero h = refl
with_number at (suc zero) h = refl
with_number at (suc (suc zero)) h = refl
with_number at (suc (suc (suc zero))) h = refl
with_number at (suc (suc (suc (suc zero)))) h = refl
with_number at (suc (suc (suc (suc (suc k))))) h = absurd (omega arith)

pub place_inside : (k : ℕ) → k ≤ 4 → Inside (place_of k)
unfolding kind_byte
place_inside zero h = hit within 1 tt
place_inside (suc zero) h = hit within 4 tt
place_inside (suc (suc zero)) h = hit within 5 tt
place_inside (suc (suc (suc zero))) h = hit within 6 tt
place_inside (suc (suc (suc (suc zero)))) h = hit within 7 tt
place_inside (suc (suc (suc (suc (suc k))))) h = absurd (omega arith)

-- the last of them
pub last-place : (k : ℕ) → k ≤ 4 → (k ≡ 0 → ⊥) → (k ≡ 1 → ⊥) → (k ≡ 2 → ⊥) → (k ≡ 3 → ⊥) → place_of k ≡ ToValidator
unfolding kind_byte
last-place zero l n a b c = absurd (n refl)
last-place (suc zero) l n a b c = absurd (a refl)
last-place (suc (suc zero)) l n a b c = absurd (b refl)
last-place (suc (suc (suc zero))) l n a b c = absurd (c refl)
last-place (suc (suc (suc (suc zero)))) l n a b c = refl
last-place (suc (suc (suc (suc (suc k))))) l n a b c = absurd (omega arith)
