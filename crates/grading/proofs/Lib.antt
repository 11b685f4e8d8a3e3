-- What the proofs of `grading` share, and that no contract leaves a choice.
pub mod Loops
pub mod Tied
