-- What the proofs of `live` share, and that no contract leaves a choice.
pub mod Rooms
pub mod Steps
pub mod Entries
pub mod Tied
