-- What the proofs of `report_lines` share.
pub mod Adding
pub mod Lines
