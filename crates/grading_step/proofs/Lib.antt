-- What the proofs of `grading_step` share.
pub mod Steps
pub mod Again
