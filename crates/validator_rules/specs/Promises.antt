-- What is promised of each call of the validator session, whatever the session: the statements, proved in proofs/Exact.antt.
use Rattle.std.specs.Prelude.{ℕ, ◌≡◌, List, ◌∷◌}
use Rattle.ccnet_frame.specs.Frame.{frame}
use Rattle.ledger.specs.Calls.{Declines}
use Rattle.validator_rules.specs.Session.{Sent, sent, sending, ack, nak, byte_refusals, tick_refusals, request_refusals, session_request, session_byte, session_tick}
use Rattle.validator_rules.specs.Calls.{host}
use Rattle.validator_rules.specs.Reply.{Done}
use Rattle.validator_rules.specs.declared.session.Closing.{Closing}
use Rattle.validator_rules.specs.declared.session.Closing.TheVariants.{Nothing, Acknowledged, NotAcknowledged, IllegalCommand, Answered, Damaged, Silent}
use Rattle.validator_rules.specs.declared.session.Session.{Session}

pub record ExactlyWhen : Type 0 where
  pub request : (s : Session) (code : ℕ) (given r : List ℕ)
      → Declines host (request_refusals s.line code given r) s r (session_request s code given r)
  pub byte : (s : Session) (b : ℕ) (r : List ℕ) → Declines host (byte_refusals r) s r (session_byte s b r)
  pub tick : (s : Session) (ms : ℕ) (r : List ℕ) → Declines host (tick_refusals ms r) s r (session_tick s ms r)

-- what a byte or a tick sends, by the closing that it makes: an ACK frame to an answer, a NAK frame to a damaged one, and nothing else
abbrev pub sends : Closing → List ℕ → Sent
sends Nothing r = sent 0 r
sends Acknowledged r = sent 0 r
sends NotAcknowledged r = sent 0 r
sends IllegalCommand r = sent 0 r
sends (Answered c) r = sending ack r
sends Damaged r = sending nak r
sends Silent r = sent 0 r

-- a reply is always the ACK frame or the NAK frame, and what a request sends is the frame that the layout gives; "Nothing is resent by
-- itself"
pub record Sends : Type 0 where
  pub request : (s : Session) (code : ℕ) (given r : List ℕ) (n : ℕ) (c : Closing) → (session_request s code given r).reply ≡ Done n c
      → sent n (session_request s code given r).room ≡ sending (frame 0x03 (code ∷ given)) r
  pub byte : (s : Session) (b : ℕ) (r : List ℕ) (n : ℕ) (c : Closing) → (session_byte s b r).reply ≡ Done n c
      → sent n (session_byte s b r).room ≡ sends c r
  pub tick : (s : Session) (ms : ℕ) (r : List ℕ) (n : ℕ) (c : Closing) → (session_tick s ms r).reply ≡ Done n c
      → sent n (session_tick s ms r).room ≡ sends c r
