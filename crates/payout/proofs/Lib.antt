-- The laws of `payout`.
pub mod Turn
pub mod Range
pub mod Planned
pub mod Sole
pub mod Exact
pub mod Tied
