-- Commands of the four-cassette unit, written and read (02, Q-3; 01, "Numbers a call can answer").
use Rattle.std.specs.Prelude.{ℕ, ◌+◌, ◌-◌, Bool, true, false, List, [], ◌∷◌, ◌++◌, length, get_or}
use Rattle.refusals.specs.Rules.{Condition, Rule, always, both, same, at_most, within, isnt, under, judged, ◌gives◌}
use Rattle.refusals.specs.Put.{Written, refused, laid}
use Rattle.refusals.specs.declared.Refusal.{Refusal}
use Rattle.refusals.specs.declared.Refusal.TheVariants.{Room, Range}
use Rattle.xor_frame.specs.Layout.{all_bytes}
use Rattle.xor_frame.specs.Frame.{eot, frame, code_of, faults}
use Rattle.xor_frame.specs.declared.frame.Fault.{Fault}
use Rattle.xor_frame.specs.declared.frame.Fault.TheVariants.{Field as Outside}
use Rattle.vcdm_frame_rules.specs.Table.{unit_id, known, line, command_fields, command_length}
use Rattle.vcdm_frame_rules.specs.declared.command.Counts.{Counts}
use Rattle.vcdm_frame_rules.specs.CommandRead.{CommandRead}
use Rattle.vcdm_frame_rules.specs.CommandRead.{Read, Refused}

abbrev pub counts : ℕ → ℕ → ℕ → ℕ → Counts
counts t s d b = record { top = t; second = s; third = d; bottom = b }

abbrev pub no_counts : Counts
no_counts = counts 0 0 0 0

abbrev pub sum_of : Counts → ℕ
sum_of n = n.top + n.second + n.third + n.bottom

-- "1 to 20 notes over all four"
abbrev pub sum_fits : Bool → Counts → Condition
sum_fits true n = within 1 20 (sum_of n)
sum_fits false n = always

-- "each cassette 0 to 20 and 1 to 20 notes over all four"; none where none belong
abbrev pub counts_fit : Bool → Counts → Condition
counts_fit true n = both (at_most n.top 20) (both (at_most n.second 20) (both (at_most n.third 20) (both (at_most n.bottom 20) (sum_fits true n))))
counts_fit false n = both (same n.top 0) (both (same n.second 0) (both (same n.third 0) (same n.bottom 0)))

-- "The serial byte runs 21h to 7Fh"; none where none belongs
abbrev pub serial_fits : Bool → ℕ → Condition
serial_fits true s = within 0x21 0x7F s
serial_fits false s = same s 0

-- what can be asked: the code is in the table, and the counts fit
unfoldable pub askable : ℕ → Counts → Condition
askable code n = both (known code) (counts_fit (line code).asks n)

-- a command that can be sent: the serial fits too
abbrev pub command_fits : ℕ → Counts → ℕ → Condition
command_fits code n s = both (counts_fit (line code).asks n) (serial_fits (line code).asks s)

unfoldable pub sendable : ℕ → Counts → ℕ → Condition
sendable code n s = both (known code) (command_fits code n s)

-- the values of its fields
abbrev pub asked_values : Bool → Counts → ℕ → List ℕ
asked_values true n s = n.top ∷ n.second ∷ n.third ∷ n.bottom ∷ 0x20 ∷ 0x20 ∷ s ∷ []
asked_values false n s = []

-- the command's frame: "04h, 30h, 02h, code, fields, 03h, check"
unfoldable pub command_frame : ℕ → Counts → ℕ → List ℕ
command_frame code n s = frame eot unit_id code (all_bytes (command_fields code) (asked_values (line code).asks n s))

-- "for a plain writer an unknown code .. has no frame length, so it gives 2"; then the room, 1; then counts and serial, 2
unfoldable pub command_refusals : ℕ → Counts → ℕ → List ℕ → List (Rule Refusal)
command_refusals code n s room =
    isnt (known code) gives Range
    ∷ under (length room) (command_length code) gives Room
    ∷ isnt (command_fits code n s) gives Range
    ∷ []

unfoldable pub write_command : ℕ → Counts → ℕ → List ℕ → Written
write_command code n s room = judged (command_refusals code n s room) (λ why. refused why room) (laid (command_frame code n s) room)

-- the counts and the serial of a frame, where notes are asked
abbrev pub counts_at : Bool → List ℕ → Counts
counts_at true s = counts (get_or s 4 0 - 0x20) (get_or s 5 0 - 0x20) (get_or s 6 0 - 0x20) (get_or s 7 0 - 0x20)
counts_at false s = no_counts

abbrev pub serial_at : Bool → List ℕ → ℕ
serial_at true s = get_or s 10 0
serial_at false s = 0

-- the command that a frame with a code holds
unfoldable pub command_in : ℕ → List ℕ → CommandRead
command_in code s = Read code (counts_at (line code).asks s) (serial_at (line code).asks s)

-- the sum, tested behind the fields: it is of four of them
abbrev pub sum_faults : ℕ → List ℕ → List (Rule Fault)
sum_faults code s = isnt (sum_fits (line code).asks (counts_at (line code).asks s)) gives Outside ∷ []

-- the tests of a command frame
unfoldable pub command_faults : List ℕ → List (Rule Fault)
command_faults s = faults eot unit_id known command_fields s ++ sum_faults (code_of s) s

unfoldable pub read_command : List ℕ → CommandRead
read_command s = judged (command_faults s) Refused (command_in (code_of s) s)
