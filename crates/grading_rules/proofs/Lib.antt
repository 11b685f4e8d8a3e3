-- The theorems of `grading_rules`.
pub mod Cuts
pub mod Taken
pub mod Recorded
pub mod Tied
