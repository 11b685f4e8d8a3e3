-- The laws of `validator`: what its functions' proofs share, and that no contract leaves a choice.
pub mod Tied
pub mod Cited
