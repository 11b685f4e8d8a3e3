-- The laws of `vcdm_rules`.
pub mod Exact
pub mod Shown
pub mod Same
pub mod Demand3
pub mod Serials
pub mod Judged
pub mod Tied
