-- CCNET frames, laid out and tested (01, "CCNET frames" and "Numbers a call can answer").
use Rattle.std.specs.Prelude.{ℕ, ◌+◌, ◌-◌, ◌*◌, ◌/◌, ◌%◌, List, [], ◌∷◌, ◌++◌, length, get_or, take, drop}
use Rattle.refusals.specs.Numbers.{bad_length, bad_opening, bad_check}
use Rattle.refusals.specs.Rules.{Condition, Rule, under, same, within, isnt, both, judged, ◌gives◌}
use Rattle.refusals.specs.Put.{Written, refused, laid}
use Rattle.refusals.specs.declared.Refusal.{Refusal}
use Rattle.refusals.specs.declared.Refusal.TheVariants.{Room, Range}
use Rattle.ccnet_check.specs.Check.{check}
use Rattle.ccnet_frame.specs.declared.Fault.{Fault}
use Rattle.ccnet_frame.specs.declared.Fault.TheVariants.{Length, Opening, Check}
use Rattle.ccnet_frame.specs.Judged.{Judged}
use Rattle.ccnet_frame.specs.Judged.{Good, Refused}

-- 01's number for each fault
abbrev pub fault_number : Fault → ℕ
fault_number Length = bad_length
fault_number Opening = bad_opening
fault_number Check = bad_check

-- bytes and their "two check bytes low byte first"
unfoldable pub closed : List ℕ → List ℕ
closed s = s ++ (check s % 256 ∷ check s / 256 ∷ [])

-- "02h, address, length, body, two check bytes": every frame, by its address, its length byte and what stands between that and the check
abbrev pub framed : ℕ → ℕ → List ℕ → List ℕ
framed address byte rest = closed (0x02 ∷ address ∷ byte ∷ rest)

-- "Length counts the whole frame"
unfoldable pub frame : ℕ → List ℕ → List ℕ
frame address body = framed address (5 + length body) body

-- "Address 01h to 0Fh"
abbrev pub is_address : ℕ → Condition
is_address a = within 0x01 0x0F a

-- every writer of frames: "a body length out of range has no frame length, so it gives 2"; then the room, 1, which n bytes are to be written to; then the
-- address, 2
abbrev pub writer_refusals : Condition → ℕ → ℕ → ℕ → List (Rule Refusal)
writer_refusals sized n address room =
    isnt sized gives Range
    ∷ under room n gives Room
    ∷ isnt (is_address address) gives Range
    ∷ []

-- an answer's body, or a command's code and data, is 1 to 250 bytes
unfoldable pub frame_refusals : ℕ → List ℕ → List ℕ → List (Rule Refusal)
frame_refusals address body room = writer_refusals (within 1 250 (length body)) (5 + length body) address (length room)

-- a frame written
unfoldable pub write_frame : ℕ → List ℕ → List ℕ → Written
write_frame address body room =
    judged (frame_refusals address body room) (λ why. refused why room) (laid (frame address body) room)

-- every reader of frames: "under 6 bytes, 11; 02h and address, 12; length .. against the bytes given, 11; 15."
abbrev pub reader_faults : Condition → List ℕ → List (Rule Fault)
reader_faults sized s =
    under (length s) 6 gives Length
    ∷ isnt (both (same (get_or s 0 0) 0x02) (is_address (get_or s 1 0))) gives Opening
    ∷ isnt sized gives Length
    ∷ isnt (same (check (take (length s - 2) s)) (get_or s (length s - 2) 0 + 256 * get_or s (length s - 1) 0)) gives Check
    ∷ []

-- judged so: good, with its address, or refused
unfoldable pub judge_sized : Condition → List ℕ → Judged
judge_sized sized s = judged (reader_faults sized s) Refused (Good (get_or s 1 0))

-- "length byte against the bytes given"
abbrev pub is_sized : List ℕ → Condition
is_sized s = same (get_or s 2 0) (length s)

unfoldable pub faults : List ℕ → List (Rule Fault)
faults s = reader_faults (is_sized s) s

-- a frame judged
unfoldable pub judge_frame : List ℕ → Judged
judge_frame s = judge_sized (is_sized s) s

-- where a judged frame's body stands in it, and how long it is; nothing, at the start, where the frame is refused
abbrev pub body_start : Judged → ℕ
body_start (Good address) = 3
body_start (Refused fault) = 0

abbrev pub body_size : Judged → ℕ → ℕ
body_size (Good address) n = n - 5
body_size (Refused fault) n = 0

abbrev pub body_of : List ℕ → List ℕ
body_of s = take (body_size (judge_frame s) (length s)) (drop (body_start (judge_frame s)) s)
