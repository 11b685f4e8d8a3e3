-- What an answer's body says (01, "CCNET frames").
use Rattle.std.specs.Prelude.{ℕ, List, [], ◌∷◌}
use Rattle.refusals.specs.Rules.{Condition, always, never, same, within, both, either, first_of, ◌gives◌}
use Rattle.ccnet_class.specs.declared.Class.{Class}
use Rattle.ccnet_class.specs.declared.Class.TheVariants.{Ack, Nak, Illegal, State, Busy, Rejecting, Failing, Escrow, Stacked, Returned, Unknown, Table}

-- "one byte 10h to 15h, 17h to 1Ah, 41h to 46h"
abbrev pub is_state : ℕ → Condition
is_state b = either (within 0x10 0x15 b) (either (within 0x17 0x1A b) (within 0x41 0x46 b))

-- "1Ch with 60h to 6Ah or 6Ch"
abbrev pub is_rejection : ℕ → Condition
is_rejection b = either (within 0x60 0x6A b) (same b 0x6C)

-- "47h with 50h to 56h or 5Fh"
abbrev pub is_failure : ℕ → Condition
is_failure b = either (within 0x50 0x56 b) (same b 0x5F)

-- "a bill type 0 to 23"
abbrev pub is_type : ℕ → Condition
is_type b = within 0 23 b

-- "A body of one byte 00h is ACK, FFh is NAK, 30h is 'illegal command'"; and the one-byte poll answers
unfoldable pub one_byte : ℕ → Class
one_byte b =
    first_of
    (same b 0x00 gives Ack
    ∷ same b 0xFF gives Nak
    ∷ same b 0x30 gives Illegal
    ∷ is_state b gives State b
    ∷ [])
    Unknown

-- "two bytes 1Bh with any; 1Ch ..; 47h ..; 80h (escrow), 81h (stacked), 82h (returned) with a bill type 0 to 23"
unfoldable pub two_bytes : ℕ → ℕ → Class
two_bytes a b =
    first_of
    (same a 0x1B gives Busy b
    ∷ both (same a 0x1C) (is_rejection b) gives Rejecting b
    ∷ both (same a 0x47) (is_failure b) gives Failing b
    ∷ both (same a 0x80) (is_type b) gives Escrow b
    ∷ both (same a 0x81) (is_type b) gives Stacked b
    ∷ both (same a 0x82) (is_type b) gives Returned b
    ∷ [])
    Unknown

-- "Any other body is 'unknown'"
unfoldable pub class_of : List ℕ → Class
class_of [] = Unknown
class_of (b ∷ []) = one_byte b
class_of (a ∷ b ∷ []) = two_bytes a b
class_of (a ∷ b ∷ c ∷ s) = Unknown

-- "Poll answers: one byte 10h to 15h, 17h to 1Ah, 41h to 46h; two bytes 1Bh with any; 1Ch with 60h to 6Ah or 6Ch; 47h with 50h to 56h or 5Fh; 80h (escrow), 81h
-- (stacked), 82h (returned) with a bill type 0 to 23": a body that is listed, told by its bytes and by no class
abbrev pub listed : List ℕ → Condition
listed [] = never
listed (b ∷ []) = either (within 0x10 0x15 b) (either (within 0x17 0x1A b) (within 0x41 0x46 b))
listed (a ∷ b ∷ []) =
    either (same a 0x1B)
    (either (both (same a 0x1C) (either (within 0x60 0x6A b) (same b 0x6C)))
    (either (both (same a 0x47) (either (within 0x50 0x56 b) (same b 0x5F))) (both (within 0x80 0x82 a) (within 0 23 b))))
listed (a ∷ b ∷ c ∷ s) = never

-- the bytes of each class; an unknown body and a bill table have none of their own
abbrev pub class_bytes : Class → List ℕ
class_bytes Ack = 0x00 ∷ []
class_bytes Nak = 0xFF ∷ []
class_bytes Illegal = 0x30 ∷ []
class_bytes (State b) = b ∷ []
class_bytes (Busy b) = 0x1B ∷ b ∷ []
class_bytes (Rejecting b) = 0x1C ∷ b ∷ []
class_bytes (Failing b) = 0x47 ∷ b ∷ []
class_bytes (Escrow b) = 0x80 ∷ b ∷ []
class_bytes (Stacked b) = 0x81 ∷ b ∷ []
class_bytes (Returned b) = 0x82 ∷ b ∷ []
class_bytes Unknown = []
class_bytes Table = []

-- a class other than these two whose byte is one of those that 01 lists for it
abbrev pub is_named : Class → Condition
is_named Ack = always
is_named Nak = always
is_named Illegal = always
is_named (State b) = is_state b
is_named (Busy b) = always
is_named (Rejecting b) = is_rejection b
is_named (Failing b) = is_failure b
is_named (Escrow b) = is_type b
is_named (Stacked b) = is_type b
is_named (Returned b) = is_type b
is_named Unknown = never
is_named Table = never
