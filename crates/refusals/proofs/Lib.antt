-- The laws of rules, of plain writers, and of contracts that are one equation.
pub mod Rules
pub mod Writing
pub mod Tied
pub mod Numbered
