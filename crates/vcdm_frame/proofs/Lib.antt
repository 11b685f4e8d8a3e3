-- That no contract leaves a choice.
pub mod Tied
