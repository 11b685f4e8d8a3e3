-- The laws of `bill_table`: what its functions' proofs share, what is promised, and that no contract leaves a choice.
pub mod Amounts
pub mod Filling
pub mod Trips
pub mod Exact
pub mod Tied
