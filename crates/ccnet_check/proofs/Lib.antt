-- The laws of `ccnet_check`.
pub mod Checks
pub mod Turns
pub mod WholeByte
pub mod Tied
