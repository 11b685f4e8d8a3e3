-- The bills of each type (01, "The validator session" and "CCNET frames").
use Rattle.std.specs.Prelude.{ℕ, ◌+◌, Bool, true, false, cond, not, ◌&&◌, List, Option, Some, None, ltb, leb, eqb, get_or, set, replicate}
use Rattle.std.specs.Option.{option_eq}
use Rattle.ccnet_class.specs.declared.Class.{Class}
use Rattle.ccnet_class.specs.declared.Class.TheVariants.{Ack, Nak, Illegal, State, Busy, Rejecting, Failing, Escrow, Stacked, Returned, Unknown, Table}
use Rattle.validator_rules.specs.Limits.{types}
use Rattle.validator_rules.specs.declared.bills.Bills.{Bills}

abbrev pub bills : ℕ → Bills
bills n = record { 0 = n }

-- so many bills more; a sum past the end of u32, which no session from a fresh one comes near, stays where it is
unfoldable pub plus : Bills → ℕ → Bills
plus a n = cond (leb (a.0 + n) 4_294_967_295) (bills (a.0 + n)) a

-- the type of a bill, where there is one
pattern abbrev pub no_bill : Option ℕ
no_bill = None

pattern abbrev pub a_bill : ℕ → Option ℕ
a_bill y = Some y

-- no bill of any type
abbrev pub no_bills : List Bills
no_bills = replicate types (bills 0)

-- "adds one bill of type y"; where there is none, or y is no type, nothing is added
unfoldable pub booked_by : List Bills → Option ℕ → List Bills
booked_by bs no_bill = bs
booked_by bs (a_bill y) = cond (ltb y types) (set bs y (plus (get_or bs y (bills 0)) 1)) bs

-- the type that an answer says was stacked; none where it says something else
abbrev pub stacked_type : Class → Option ℕ
stacked_type Ack = no_bill
stacked_type Nak = no_bill
stacked_type Illegal = no_bill
stacked_type (State b) = no_bill
stacked_type (Busy b) = no_bill
stacked_type (Rejecting b) = no_bill
stacked_type (Failing b) = no_bill
stacked_type (Escrow y) = no_bill
stacked_type (Stacked y) = a_bill y
stacked_type (Returned y) = no_bill
stacked_type Unknown = no_bill
stacked_type Table = no_bill

-- is it a listed poll answer? ACK, NAK and "illegal" are neither listed nor unknown: they close without a reply
abbrev pub is_poll_answer : Class → Bool
is_poll_answer Ack = false
is_poll_answer Nak = false
is_poll_answer Illegal = false
is_poll_answer (State b) = true
is_poll_answer (Busy b) = true
is_poll_answer (Rejecting b) = true
is_poll_answer (Failing b) = true
is_poll_answer (Escrow y) = true
is_poll_answer (Stacked y) = true
is_poll_answer (Returned y) = true
is_poll_answer Unknown = false
is_poll_answer Table = false

-- POLL's code
abbrev pub poll : ℕ
poll = 0x33

-- "In an answer to POLL only, 81h with type y adds one bill of type y, unless the last listed poll answer received to a POLL was the same
-- two bytes": the type of the bill to credit, or none
unfoldable pub credited : ℕ → Option ℕ → Class → Option ℕ
credited code last c = cond (eqb code poll && not (option_eq eqb (stacked_type c) last)) (stacked_type c) no_bill

-- what is remembered of an answer: "the last listed poll answer received to a POLL"
unfoldable pub remembered : ℕ → Option ℕ → Class → Option ℕ
remembered code last c = cond (eqb code poll && is_poll_answer c) (stacked_type c) last
