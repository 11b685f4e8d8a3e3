-- The waits and limits of the validator session, named once (01, "The validator session"). Waits are milliseconds.
use Rattle.std.specs.Prelude.{ℕ}

-- "Needs 20 ms quiet"
abbrev pub quiet : ℕ
quiet = 20

-- "The answer's 02h must come within 10 ms"
abbrev pub start_wait : ℕ
start_wait = 10

-- "the whole within 400 ms of it"
abbrev pub frame_wait : ℕ
frame_wait = 400

-- "The gathering store is 255 bytes"
abbrev pub store_size : ℕ
store_size = 255

-- "room lent for sending is under .. 255 (validator session)"
abbrev pub least_room : ℕ
least_room = 255

-- "this line has accepted 1,000,000 commands"
abbrev pub command_limit : ℕ
command_limit = 1_000_000

-- "a bill type 0 to 23"
abbrev pub types : ℕ
types = 24

-- "a tick is not 1 to 1,000 ms"
abbrev pub longest_tick : ℕ
longest_tick = 1_000
