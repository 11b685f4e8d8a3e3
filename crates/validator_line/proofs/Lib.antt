-- The laws of `validator_line`.
pub mod Tied
