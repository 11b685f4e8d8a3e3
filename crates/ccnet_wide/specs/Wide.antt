-- The wide form of CCNET frames (02, Q-11): laid out once for its three forms, and tested. What it shares with the narrow form, the opening, the
-- check and the order of tests, is that form's own definition (`framed`, `reader_faults`, `writer_refusals`).
use Rattle.std.specs.Prelude.{ℕ, ◌+◌, ◌-◌, ◌*◌, ◌/◌, ◌%◌, List, [], ◌∷◌, ◌++◌, length, get_or, take, drop, Ok}
use Rattle.refusals.specs.Rules.{Condition, Rule, same, at_most, within, both, judged}
use Rattle.refusals.specs.Put.{Written, refused, laid}
use Rattle.refusals.specs.declared.Refusal.{Refusal}
use Rattle.ccnet_frame.specs.Frame.{framed, writer_refusals, reader_faults}
use Rattle.ccnet_frame.specs.declared.Fault.{Fault}
use Rattle.ccnet_wide.specs.declared.Form.{Form}
use Rattle.ccnet_wide.specs.declared.Form.TheVariants.{AfterCode, AfterSubcommand, AtOnce}
use Rattle.ccnet_wide.specs.declared.Lead.{Lead}
use Rattle.ccnet_wide.specs.declared.Lead.TheVariants.{Code, Subcommand, Nothing}
use Rattle.ccnet_wide.specs.Judged.{Judged}
use Rattle.ccnet_wide.specs.Judged.{Good, Refused}

-- ---- the layout

-- what the true length stands behind: "after the code, after the subcommand, or at once where there is no code"
abbrev pub lead_bytes : Lead → List ℕ
lead_bytes (Code code) = code ∷ []
lead_bytes (Subcommand code subcommand) = code ∷ subcommand ∷ []
lead_bytes Nothing = []

-- "the true length, high byte first", and the data: all that stands between the length byte and the check
abbrev pub wide_rest : Lead → ℕ → List ℕ → List ℕ
wide_rest lead n given = lead_bytes lead ++ (n / 256 ∷ n % 256 ∷ given)

-- the true length counts the whole frame, of so many data bytes
abbrev pub wide_length : Lead → ℕ → ℕ
wide_length lead size = 7 + length (lead_bytes lead) + size

-- "length byte 0, and the true length"
unfoldable pub wide_frame : ℕ → Lead → List ℕ → List ℕ
wide_frame address lead given = framed address 0 (wide_rest lead (wide_length lead (length given)) given)

-- ---- written

-- "True lengths 256 to 65,535 are allowed"
unfoldable pub wide_refusals : ℕ → Lead → List ℕ → List ℕ → List (Rule Refusal)
wide_refusals address lead given room =
    writer_refusals (within 256 65535 (wide_length lead (length given))) (wide_length lead (length given)) address (length room)

-- a wide frame written
unfoldable pub write_wide : ℕ → Lead → List ℕ → List ℕ → Written
write_wide address lead given room =
    judged (wide_refusals address lead given room) (λ why. refused why room) (laid (wide_frame address lead given) room)

-- ---- read: "The caller says which of the three forms is meant"

-- the form in which a frame so begun is to be read
abbrev pub form_of : Lead → Form
form_of (Code code) = AfterCode
form_of (Subcommand code subcommand) = AfterSubcommand
form_of Nothing = AtOnce

-- what a frame of that form has before its true length
abbrev pub lead_at : Form → List ℕ → Lead
lead_at AfterCode s = Code (get_or s 3 0)
lead_at AfterSubcommand s = Subcommand (get_or s 3 0) (get_or s 4 0)
lead_at AtOnce s = Nothing

-- where its true length stands: behind that
abbrev pub length_place : Form → ℕ
length_place form = 3 + length (lead_bytes (lead_at form []))

-- what its true length says, high byte first
abbrev pub true_length : Form → List ℕ → ℕ
true_length form s = get_or s (length_place form + 1) 0 + 256 * get_or s (length_place form) 0

-- its length is right: the length byte is 0, there are bytes enough for the true length, "a smaller true length is number 11", and it is that of the bytes given
abbrev pub is_sized : Form → List ℕ → Condition
is_sized form s =
    both (same (get_or s 2 0) 0)
    (both (at_most (length_place form + 2) (length s)) (both (at_most 256 (true_length form s)) (same (true_length form s) (length s))))

unfoldable pub wide_faults : Form → List ℕ → List (Rule Fault)
wide_faults form s = reader_faults (is_sized form s) s

-- a wide frame judged: good, with its address and what it has before its true length, or refused
unfoldable pub judge_wide : Form → List ℕ → Judged
judge_wide form s = judged (wide_faults form s) Refused (Good (get_or s 1 0) (lead_at form s))

-- where a judged frame's data stand in it, and how many they are; nothing, at the start, where the frame is refused
abbrev pub data_start : Judged → ℕ
data_start (Ok head) = 5 + length (lead_bytes head.lead)
data_start (Refused fault) = 0

abbrev pub data_size : Judged → ℕ → ℕ
data_size (Ok head) n = n - wide_length head.lead 0
data_size (Refused fault) n = 0

abbrev pub data_of : Form → List ℕ → List ℕ
data_of form s = take (data_size (judge_wide form s) (length s)) (drop (data_start (judge_wide form s)) s)
