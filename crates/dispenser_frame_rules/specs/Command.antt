-- Commands, written and read (01, "Dispenser frames" and "Numbers a call can answer").
use Rattle.std.specs.Prelude.{ℕ, ◌+◌, Bool, true, false, List, [], ◌∷◌, ◌++◌, length}
use Rattle.refusals.specs.Rules.{Condition, Rule, both, isnt, under, judged, ◌gives◌}
use Rattle.refusals.specs.Put.{Written, refused, laid}
use Rattle.refusals.specs.declared.Refusal.{Refusal}
use Rattle.refusals.specs.declared.Refusal.TheVariants.{Room, Range}
use Rattle.xor_frame.specs.Layout.{sizes, value_at, all_bytes}
use Rattle.dispenser_frame_rules.specs.Table.{model_id, wanted, known, line, asks, asked_fields, asked_values, command_fields, command_length}
use Rattle.xor_frame.specs.Frame.{eot, frame, code_of, faults}
use Rattle.xor_frame.specs.declared.frame.Fault.{Fault}
use Rattle.dispenser_frame_rules.specs.CommandRead.{CommandRead}
use Rattle.dispenser_frame_rules.specs.CommandRead.{Read, Refused}

-- each count is in its range, and none is given where none belongs
unfoldable pub counts_fit : ℕ → ℕ → ℕ → Condition
counts_fit code upper lower = both (asks (line code).upper upper) (asks (line code).lower lower)

-- a command that can be sent: its code is in the table, and its counts fit
unfoldable pub sendable : ℕ → ℕ → ℕ → Condition
sendable code upper lower = both (known code) (counts_fit code upper lower)

-- the command's frame: "04h, 50h, 02h, code, counts, 03h, check", upper first
unfoldable pub command_frame : ℕ → ℕ → ℕ → List ℕ
command_frame code upper lower =
    frame eot model_id code (all_bytes (command_fields code) (asked_values (line code).upper upper ++ asked_values (line code).lower lower))

-- "for a plain writer an unknown code .. has no frame length, so it gives 2"; then the room, 1; then the counts, 2
unfoldable pub command_refusals : ℕ → ℕ → ℕ → List ℕ → List (Rule Refusal)
command_refusals code upper lower room =
    isnt (known code) gives Range
    ∷ under (length room) (command_length code) gives Room
    ∷ isnt (counts_fit code upper lower) gives Range
    ∷ []

unfoldable pub write_command : ℕ → ℕ → ℕ → List ℕ → Written
write_command code upper lower room =
    judged (command_refusals code upper lower room) (λ why. refused why room) (laid (command_frame code upper lower) room)

-- the count at a place, where one is asked; else 0
abbrev pub asked_at : Bool → ℕ → List ℕ → ℕ
asked_at true at s = value_at wanted at s
asked_at false at s = 0

-- the command that a frame with a code holds, upper first
unfoldable pub command_in : ℕ → List ℕ → CommandRead
command_in code s =
    Read code (asked_at (line code).upper 4 s) (asked_at (line code).lower (4 + sizes (asked_fields (line code).upper)) s)

-- the tests of a command frame
abbrev pub command_faults : List ℕ → List (Rule Fault)
command_faults = faults eot model_id known command_fields

unfoldable pub read_command : List ℕ → CommandRead
read_command s = judged (command_faults s) Refused (command_in (code_of s) s)
