-- The numbers that a call can answer (01, "Numbers a call can answer"), each with its sentence; and the number of each case of the two enums that many calls answer with. The
-- other enums, of faults in frames and in recordings, stand with their readers and take their numbers from here.
use Rattle.std.specs.Prelude.{ℕ}
use Rattle.refusals.specs.declared.Refusal.{Refusal}
use Rattle.refusals.specs.declared.Refusal.TheVariants.{Room, Range}
use Rattle.refusals.specs.declared.Declined.{Declined}
use Rattle.refusals.specs.declared.Declined.TheVariants.{Room as NoRoom, Range as NotSendable, Open, Unquiet, Spent, Tick, Stopped, Unawaited}

-- "room lent for sending is under 16 bytes (dispenser session), 255 (validator session), or the frame's, record's or report's own length (plain writer)"
abbrev pub no_room : ℕ
no_room = 1

-- "a code to send is not in the dispenser table or, in a validator session, not among its commands, or a count, address, length or field is outside its range, including a count or data given where none belongs"
abbrev pub out_of_range : ℕ
out_of_range = 2

-- "a command is open on this line"
abbrev pub command_open : ℕ
command_open = 3

-- "the line has not been quiet long enough"
abbrev pub not_quiet : ℕ
not_quiet = 4

-- "this line has accepted 1,000,000 commands"
abbrev pub all_spent : ℕ
all_spent = 5

-- "a tick is not 1 to 1,000 ms"
abbrev pub bad_tick : ℕ
bad_tick = 6

-- "Two paying requests in succession which closed unknown .. From then on paying requests get the new number 7 .. until the operator's clear call is made" (02, Q-9)
abbrev pub line_stopped : ℕ
line_stopped = 7

-- "no such payout" (02, Q-10)
abbrev pub no_payout : ℕ
no_payout = 8

-- "fields when none are awaited [are refused] with the new number 9" (02, Q-14)
abbrev pub not_awaited : ℕ
not_awaited = 9

-- "frame length is wrong"
abbrev pub bad_length : ℕ
bad_length = 11

-- "a fixed opening byte or the address is wrong"
abbrev pub bad_opening : ℕ
bad_opening = 12

-- "code not in the table"
abbrev pub unknown_code : ℕ
unknown_code = 13

-- "closing 03h is missing"
abbrev pub no_closing : ℕ
no_closing = 14

-- "check is wrong"
abbrev pub bad_check : ℕ
bad_check = 15

-- "a field is outside its range"
abbrev pub bad_field : ℕ
bad_field = 16

-- "recording: bad number"
abbrev pub bad_number : ℕ
bad_number = 21

-- "recording: cut short"
abbrev pub cut_short : ℕ
cut_short = 22

-- "recording: unknown kind or value"
abbrev pub unknown_value : ℕ
unknown_value = 23

-- "recording: over 65,536 bytes"
abbrev pub too_long : ℕ
too_long = 24

-- why a plain writer refuses
abbrev pub refusal_number : Refusal → ℕ
refusal_number Room = no_room
refusal_number Range = out_of_range

-- why a call on a line is declined
abbrev pub declined_number : Declined → ℕ
declined_number NoRoom = no_room
declined_number NotSendable = out_of_range
declined_number Open = command_open
declined_number Unquiet = not_quiet
declined_number Spent = all_spent
declined_number Tick = bad_tick
declined_number Stopped = line_stopped
declined_number Unawaited = not_awaited
